-- The verdict on a table's rows, and what a header without a refusal says. Assumes nothing.
use Prim.Native.Nat.{ℕ, ◌+◌, ◌*◌, ◌≤◌, ◌<◌}
use native.Mathlib.Omega.{arith}
use mathlib.Core.Path.{◌≡◌, refl, ap, ◌∙◌}
use mathlib.Core.Bool.{false}
use mathlib.Core.List.{List, [], ◌∷◌, map}
use lib.ListN.{length}
use borrow.Author.Tests.{ltb-false, eqb-true, not-false}
use Rattle.lists.specs.Search.{first, some}
use Rattle.lists.proofs.Search.{first_some, first_none}
use Rattle.std.specs.Prelude.{Some, Err}
use Rattle.format.specs.Verdicts.{side_number, fault_number, named, Refusal, Verdict, Fine, refusal, Check, CheckOf, verdict_of, given}
use Rattle.format.specs.Format.{version_in, role_in, rows_in}
use Rattle.format.specs.Reads.{bad_row, fall_row, header_checks, row_checks, checks_of, checks, refused_as, read_as, read_of}
use Rattle.format.specs.declared.Side.{Side}
use Rattle.format.specs.declared.Reading.{Reading}
use Rattle.format.specs.declared.Fault.TheVariants.{BadField, NotRising}
use Rattle.format.proofs.Verdicts.{Silent, fine_silent, fine_front, given_refused, given_fine, given_verdict}
use Rattle.format.proofs.Header.{TrueLength, InRange, EndsBelow, length_of, range_of, ends_of}

-- ---- a header without a refusal

pub record HeaderFine (bs : List ℕ) (s : ℕ) : Type 0 where
  pub exact : length bs ≡ 9 + 5 * rows_in bs
  pub version : version_in bs ≡ 1
  pub role : role_in bs ≡ s
  pub ranges : InRange bs
  pub ends : EndsBelow bs

pub header_says : {S : Type 0} (bs : List ℕ) (s : ℕ) (side : S) → verdict_of (header_checks bs s side) ≡ Fine → HeaderFine bs s
unfolding header_checks
header_says bs s side e =
    let h : Silent (header_checks bs s side) = fine_silent (header_checks bs s side) e in
    let long : 9 ≤ length bs = ltb-false (length bs) 9 h.0 in
    let fields : TrueLength bs = length_of bs h.1.1.0 in
    record {
      exact = omega arith;
      version = eqb-true (version_in bs) 1 (not-false _ h.1.0);
      role = eqb-true (role_in bs) s (not-false _ h.1.1.1.0);
      ranges = range_of bs h.1.1.1.1.0;
      ends = ends_of bs h.1.1.1.1.1.0;
    }

-- ---- the verdict on the rows, in the words of the code: the first bad row, the first that falls, and the count of rows

module _ {S : Type 0} (bs : List ℕ) (side : S) {n bad : ℕ} (count : n ≡ rows_in bs) (b : bad ≡ first (bad_row bs) n) where
  bad_is : bad ≡ first (bad_row bs) (rows_in bs)
  bad_is = rw (← count) b

  pub rows_7 : bad < n → Err (refusal BadField (Some side) bad) ≡ verdict_of (row_checks bs side)
  unfolding row_checks
  rows_7 h = rw (← bad_is, first_some (bad_row bs) (rows_in bs) (rw (← bad_is, ← count) h))

  module _ {fall : ℕ} (fine : n ≤ bad) (f : fall ≡ first (fall_row bs) n) where
    none_bad : some (bad_row bs) 0 (rows_in bs) ≡ false
    none_bad = first_none (bad_row bs) (rows_in bs) (rw (← bad_is, ← count) fine)

    fall_is : fall ≡ first (fall_row bs) (rows_in bs)
    fall_is = rw (← count) f

    pub rows_8 : fall < n → Err (refusal NotRising (Some side) fall) ≡ verdict_of (row_checks bs side)
    unfolding row_checks
    rows_8 h = rw (none_bad, ← fall_is, first_some (fall_row bs) (rows_in bs) (rw (← fall_is, ← count) h))

    pub rows_fine : n ≤ fall → Fine ≡ verdict_of (row_checks bs side)
    unfolding row_checks
    rows_fine h = rw (none_bad, first_none (fall_row bs) (rows_in bs) (rw (← fall_is, ← count) h))

-- ---- reading, by its verdict

module _ (bs : List ℕ) (side : Side) {v : Verdict} (told : v ≡ verdict_of (checks bs side)) where
  given_is : given v refused_as (read_as bs) ≡ read_of bs side
  unfolding read_of
  given_is = ap (λ (z : Verdict). given z refused_as (read_as bs)) told

  pub read_refused : {r : Refusal} → v ≡ Err r → refused_as r ≡ read_of bs side
  read_refused e = given_refused refused_as (read_as bs) e ∙ given_is

  pub read_fine : v ≡ Fine → read_as bs ≡ read_of bs side
  read_fine e = given_fine refused_as (read_as bs) e ∙ given_is

-- the header of a table that is fine
pub header_of : {S : Type 0} (bs : List ℕ) (s : ℕ) (side : S) → verdict_of (checks_of bs s side) ≡ Fine → HeaderFine bs s
header_of bs s side e = header_says bs s side (fine_front (header_checks bs s side) (row_checks bs side) e)

-- the verdict of a reading
pub read_verdict : (bs : List ℕ) (side : Side) → (read_of bs side).verdict ≡ verdict_of (checks bs side)
unfolding read_of
read_verdict bs side = given_verdict (λ (r : Reading). r.verdict) refused_as (read_as bs) (λ r. refl) refl (verdict_of (checks bs side))

-- ---- the order of the refusals: 1 to 8, each of its side, and 7 before 8

-- a line of the table of refusals by its number and that of its side
abbrev pub numbered : {S : Type 0} → (S → ℕ) → CheckOf S → ℕ × ℕ
numbered number c = (fault_number c.refuses.fault, named number c.refuses.side)

abbrev pub line_of : Check → ℕ × ℕ
line_of c = numbered side_number c

abbrev pub one_to_eight : ℕ → List (ℕ × ℕ)
one_to_eight s = (1, s) ∷ (2, s) ∷ (3, s) ∷ (4, s) ∷ (5, s) ∷ (6, s) ∷ (7, s) ∷ (8, s) ∷ []

pub read_order : {S : Type 0} (number : S → ℕ) (bs : List ℕ) (s : ℕ) (side : S) → map (numbered number) (checks_of bs s side) ≡ one_to_eight (number side)
unfolding header_checks row_checks
read_order number bs s side = refl
