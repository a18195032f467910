-- A cycle by the tests that the code meets in their order: 14, 15, 16, then the rows. Assumes nothing.
use Prim.Native.Nat.{ℕ, ◌≤◌, ◌<◌}
use native.Mathlib.Omega.{arith}
use mathlib.Core.Path.{◌≡◌, sym, ap, ◌∙◌}
use mathlib.Core.Logic.{⊎_elim}
use mathlib.Core.Bool.{Bool, true, false, ◌&&◌}
use mathlib.Core.List.{List, ◌∷◌}
use lib.Dec.{leb, eqb}
use lib.ListN.{length, get_or, take, length-take}
use borrow.Author.Tests.{le-leb, lt-leb}
use Rattle.format.specs.Verdicts.{Refusal, Fine, refusal, Check, verdict_of, unless}
use Rattle.format.specs.Good.{row, Good}
use Rattle.format.proofs.Verdicts.{unless_front, unless_goes_on}
use Rattle.rules.specs.declared.Pair.{Pair}
use Rattle.rules.specs.declared.Reason.{Reason}
use Rattle.rules.specs.Numbers.{reason_number}
use Rattle.rules.specs.Tools.Computed.{reason_of, allowed_test, is_for, answers, row_with}
use Rattle.std.specs.Prelude.{Option, Some, None, Result, Ok, Err}
use Rattle.std.specs.List.{find, position_or_len, slice_get}
use Rattle.std.proofs.lemmas.List.{get_or-take}
use Rattle.std.proofs.lemmas.List.Folds.{find_at}
use Rattle.std.proofs.lemmas.List.Sums.{position_or_len_is}
use Rattle.std.proofs.lemmas.Option.{none-some, slice_get-get_or, slice_get_within, get_or_from_slice_get}
use Rattle.lists.proofs.Rest.{le_or_lt}
use Rattle.lists.proofs.Search.{first_le, first_before, first_at_lem}
use Rattle.format.specs.declared.Row.{Row}
use Rattle.format.specs.declared.Table.{Table}
use Rattle.format.specs.Format.{zero_row}
use Rattle.calls.specs.declared.Run.{Run}
use Rattle.calls.specs.declared.Stepped.{Stepped}
use Rattle.calls.specs.declared.Cycle.{Cycle}
use Rattle.calls.specs.Refusals.{letter_checks}
use Rattle.calls.specs.Runs.{conf_of}
use Rattle.calls.specs.Step.{incoming_of, writer_found, reader_found, move_check, turn_checks, done_by, done_of}
use Rattle.calls.specs.Past.{Askable, Movable}
use Rattle.calls.proofs.Turns.{found_movable}
use Rattle.turns.specs.Cycles.{row_checks, Answerable}
use Rattle.format.specs.declared.Side.TheVariants.{Writer, Reader}
use Rattle.format.specs.declared.Fault.TheVariants.{NotAllowed, NoRow}

-- ---- the row that state, letter and answer fix, as a search of the used rows gives it

module _ {t : Table} (good : Good t) (state letter answer : ℕ) where
  abbrev fits : Row → Bool
  fits r = is_for state letter r && eqb r.answer answer

  abbrev used : List Row
  used = take t.count t.rows

  abbrev found : ℕ
  found = row_with t state letter answer

  used_count : length used ≡ t.count
  used_count = omega (arith, length-take t.count t.rows, good.count, good.long)

  used_row : (i : ℕ) → i < t.count → get_or used i zero_row ≡ row t i
  used_row i l = get_or-take t.count t.rows i zero_row l

  found_is : find fits used ≡ slice_get used found
  found_is =
      let test : ℕ → Bool = answers t state letter answer in
      let most : found ≤ t.count = first_le test t.count in
      let at : position_or_len fits used ≡ found =
      position_or_len_is fits used found zero_row (omega (arith, used_count))
      (λ i l. rw (used_row i (omega arith)) (first_before test t.count i l))
      (λ l. let k : found < t.count = omega (arith, used_count) in rw (used_row found k) (first_at_lem test t.count k)) in
      find_at fits used ∙ ap (slice_get used) at

  row_missing : None ≡ find fits used → t.count ≤ found
  row_missing e =
      ⊎_elim (λ (h : t.count ≤ found). h)
      (λ (h : found < t.count). absurd (none-some _ (e ∙ found_is ∙ slice_get-get_or used found zero_row (omega (arith, used_count)))))
      (le_or_lt t.count found)

  row_used : {r : Row} → Some r ≡ find fits used → found < t.count
  row_used e = let l = slice_get_within used found _ (sym (e ∙ found_is)) in omega (arith, used_count)

  row_is : {r : Row} → Some r ≡ find fits used → r ≡ row t found
  row_is e = sym (get_or_from_slice_get used found _ zero_row (sym (e ∙ found_is))) ∙ used_row found (row_used e)

-- ---- 16, and the rows that are found

module _ (X : Pair) (u : Run) (c : Cycle) (able : Answerable X u c) where
  abbrev writer_row : Option Row → Type 0
  writer_row o = o ≡ find (fits able.good.writer u.writer c.writer_letter c.writer_answer) (take X.writer.count X.writer.rows)

  abbrev reader_row : Option Row → Type 0
  reader_row o = o ≡ find (fits able.good.reader u.reader c.reader_letter c.reader_answer) (take X.reader.count X.reader.rows)

  pub no_writer_row : writer_row None → Err (refusal NoRow (Some Writer) 0) ≡ unless (verdict_of (row_checks X u c)) (done_of X u c)
  no_writer_row e = rw (le-leb X.writer.count (writer_found X u c) (row_missing able.good.writer _ _ _ e))

  module _ {w : Row} (writer_is : writer_row (Some w)) where
    writer_there : leb X.writer.count (writer_found X u c) ≡ false
    writer_there = lt-leb X.writer.count (writer_found X u c) (row_used able.good.writer _ _ _ writer_is)

    pub no_reader_row : reader_row None → Err (refusal NoRow (Some Reader) 0) ≡ unless (verdict_of (row_checks X u c)) (done_of X u c)
    no_reader_row e = rw (writer_there, le-leb X.reader.count (reader_found X u c) (row_missing able.good.reader _ _ _ e))

    module _ {r : Row} (reader_is : reader_row (Some r)) where
      rows_are : (w ≡ row X.writer (writer_found X u c)) × (r ≡ row X.reader (reader_found X u c))
      rows_are = (row_is able.good.writer _ _ _ writer_is, row_is able.good.reader _ _ _ reader_is)

      pub both_rows : Ok (done_by u w r (incoming_of c)) ≡ unless (verdict_of (row_checks X u c)) (done_of X u c)
      both_rows =
          rw (rows_are.0, rows_are.1, writer_there, lt-leb X.reader.count (reader_found X u c) (row_used able.good.reader _ _ _ reader_is))

      pub rows_movable : Movable u w r
      rows_movable =
          rw (rows_are.0, rows_are.1)
          (able.movable (row_used able.good.writer _ _ _ writer_is) (row_used able.good.reader _ _ _ reader_is))

-- ---- the cycle: 14, then 15, then the rest

module _ (X : Pair) (bytes : List ℕ) (u : Run) (c : Cycle) where
  abbrev letters : List Check
  letters = letter_checks X c.writer_letter c.reader_letter

  abbrev past : List Check
  past = move_check X bytes u c ∷ row_checks X u c

  abbrev stepped : Result Stepped Refusal
  stepped = unless (verdict_of (turn_checks X bytes u c)) (done_of X u c)

  pub letters_refused : {r : Refusal} → verdict_of letters ≡ Err r → Err r ≡ stepped
  letters_refused e = unless_front (done_of X u c) letters past e

  module _ (fine : verdict_of letters ≡ Fine) {n : Reason} (told : n ≡ reason_of X bytes (conf_of u) c.writer_letter c.reader_letter) {t : Bool} (test : t ≡ eqb (reason_number n) 0) where
    past_decides : unless (verdict_of past) (done_of X u c) ≡ stepped
    past_decides = unless_goes_on (done_of X u c) letters past fine

    test_is : allowed_test X bytes (conf_of u) c.writer_letter c.reader_letter ≡ t
    unfolding allowed_test
    test_is = rw (← told) (sym test)

    past_refused : t ≡ false → Err (refusal NotAllowed None (reason_number n)) ≡ unless (verdict_of past) (done_of X u c)
    past_refused off = rw (told, test_is, off)

    past_goes_on : t ≡ true → unless (verdict_of (row_checks X u c)) (done_of X u c) ≡ unless (verdict_of past) (done_of X u c)
    past_goes_on on = rw (test_is, on)

    pub move_refused : t ≡ false → Err (refusal NotAllowed None (reason_number n)) ≡ stepped
    move_refused off = past_refused off ∙ past_decides

    pub move_allowed : t ≡ true → unless (verdict_of (row_checks X u c)) (done_of X u c) ≡ stepped
    move_allowed on = past_goes_on on ∙ past_decides

    pub answerable : Askable X bytes (conf_of u) → t ≡ true → Answerable X u c
    answerable able on = record { good = able.good; movable = λ hw hr. found_movable X bytes u c (test_is ∙ on) hw hr able }
