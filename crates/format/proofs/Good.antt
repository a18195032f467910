-- The table of a fine reading is good: all that the layers above know of it. Assumes nothing.
use Prim.Native.Nat.{ℕ, ◌+◌, ◌-◌, ◌≤◌, ◌<◌}
use native.Mathlib.Omega.{arith}
use mathlib.Core.Path.{◌≡◌, sym, ap, ◌∙◌}
use mathlib.Core.Bool.{false}
use mathlib.Core.List.{List}
use lib.ListN.{length, replicate, length-append, length-replicate, get_or-append}
use lib.Seq.{get_or-append-add}
use borrow.Author.Tests.{not-false}
use Rattle.lists.specs.Lists.{tab}
use Rattle.lists.specs.Search.{some}
use Rattle.lists.proofs.Bools.{eq_test}
use Rattle.lists.proofs.Search.{some_none}
use Rattle.lists.proofs.Tab.{length_tab, tab_at, get_d_same}
use Rattle.format.specs.Verdicts.{side_number, Verdict, Fine, verdict_of, given}
use Rattle.format.specs.Format.{rows_in, row_at, zero_row, rows_of, table_of}
use Rattle.format.specs.Reads.{bad_row, fall_row, header_checks, row_checks, checks, refused_as, read_as, read_of}
use Rattle.format.specs.Good.{row, GoodRow, Good}
use Rattle.format.specs.declared.Side.{Side}
use Rattle.format.specs.declared.Side.TheVariants.{Writer, Reader}
use Rattle.format.specs.declared.Reading.{Reading}
use Rattle.format.proofs.Verdicts.{Silent, fine_silent, fine_front, fine_goes_on}
use Rattle.format.proofs.RowTests.{fits_of, no_fall}
use Rattle.format.proofs.Readings.{HeaderFine, header_of, read_verdict}

-- ---- the rows of the table in hand are those of the bytes, and zero past them

module _ (bs : List ℕ) where
  used_rows : length (tab (row_at bs) (rows_in bs)) ≡ rows_in bs
  used_rows = length_tab (row_at bs) (rows_in bs)

  row_used : (i : ℕ) → i < rows_in bs → row (table_of bs) i ≡ row_at bs i
  unfolding rows_of
  row_used i l =
      get_or-append (tab (row_at bs) (rows_in bs)) (replicate (64 - rows_in bs) zero_row) zero_row i (omega (arith, used_rows))
      ∙ tab_at (row_at bs) (rows_in bs) i zero_row l

  row_unused : (i : ℕ) → rows_in bs ≤ i → row (table_of bs) i ≡ zero_row
  unfolding rows_of
  row_unused i l =
      let e : i ≡ length (tab (row_at bs) (rows_in bs)) + (i - rows_in bs) = omega (arith, used_rows) in
      rw e
      (get_or-append-add (tab (row_at bs) (rows_in bs)) (replicate (64 - rows_in bs) zero_row) (i - rows_in bs) zero_row
      ∙ get_d_same (64 - rows_in bs) (i - rows_in bs) zero_row)

  rows_long : rows_in bs ≤ 64 → length (rows_of bs) ≡ 64
  unfolding rows_of
  rows_long h = simp (length-append, length_tab, length-replicate) (omega arith)

-- ---- a reading that is fine

pub fine_checks : (bs : List ℕ) (side : Side) → (read_of bs side).verdict ≡ Fine → verdict_of (checks bs side) ≡ Fine
fine_checks bs side e = sym (read_verdict bs side) ∙ e

pub fine_table : (bs : List ℕ) (side : Side) → (read_of bs side).verdict ≡ Fine → (read_of bs side).table ≡ table_of bs
unfolding read_of
fine_table bs side e = ap (λ (v : Verdict). (given v refused_as (read_as bs)).table) (fine_checks bs side e)

side_range : (side : Side) → (1 ≤ side_number side) × (side_number side ≤ 2)
side_range Writer = (omega arith, omega arith)
side_range Reader = (omega arith, omega arith)

module _ (bs : List ℕ) (side : Side) (fine : verdict_of (checks bs side) ≡ Fine) where
  header : HeaderFine bs (side_number side)
  header = header_of bs (side_number side) side fine

  rows_silent : (some (bad_row bs) 0 (rows_in bs) ≡ false) × (some (fall_row bs) 0 (rows_in bs) ≡ false)
  unfolding row_checks
  rows_silent =
      let a = header_checks bs (side_number side) side in
      let b = row_checks bs side in
      let e : verdict_of b ≡ Fine = fine_goes_on a b (fine_front a b fine) ∙ fine in
      let h : Silent b = fine_silent b e in
      (h.0, h.1.0)

  good_row_lem : (i : ℕ) → i < rows_in bs → GoodRow (table_of bs) (row_at bs i)
  unfolding bad_row
  good_row_lem i l =
      let f = fits_of _ _ _ (row_at bs i) (not-false _ (some_none (bad_row bs) 0 (rows_in bs) rows_silent.0 i (omega arith) l)) in
      record { state = f.state; drive = f.drive; answer = f.answer; item = f.item; next = f.next }

  good_bytes : Good (table_of bs)
  good_bytes = record {
    version = eq_test header.version;
    role = (rw header.role (side_range side).0, rw header.role (side_range side).1);
    states = (header.ranges.0, header.ranges.1);
    start = header.ends.0;
    finish = header.ends.1;
    letters = (header.ranges.2, header.ranges.3);
    count = header.ranges.4;
    long = rows_long bs header.ranges.4;
    used = λ i l. rw (row_used bs i l) (good_row_lem i l);
    rise = λ i l.
        rw (row_used bs i (omega arith), row_used bs (i + 1) l)
        (no_fall bs i (some_none (fall_row bs) 0 (rows_in bs) rows_silent.1 (i + 1) (omega arith) l));
    unused = λ i l. row_unused bs i l;
  }

-- a table that was read is good, and is of its side
pub read_good : (bs : List ℕ) (side : Side) (r : Reading) → r ≡ read_of bs side → r.verdict ≡ Fine → Good r.table
read_good bs side r e v =
    let w : (read_of bs side).verdict ≡ Fine = rw e at v in
    rw (e, fine_table bs side w) (good_bytes bs side (fine_checks bs side w))

pub read_role : (bs : List ℕ) (side : Side) (r : Reading) → r ≡ read_of bs side → r.verdict ≡ Fine → r.table.role ≡ side_number side
read_role bs side r e v =
    let w : (read_of bs side).verdict ≡ Fine = rw e at v in
    rw (e, fine_table bs side w) (header bs side (fine_checks bs side w)).role

-- "The shortest table has 9 bytes, the longest 329"
pub read_length : (bs : List ℕ) (side : Side) → (read_of bs side).verdict ≡ Fine → (9 ≤ length bs) × (length bs ≤ 329)
read_length bs side e =
    let h = header bs side (fine_checks bs side e) in
    (omega (arith, h.exact), omega (arith, h.exact, h.ranges.4))
