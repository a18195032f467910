-- Document 01, step: "A step takes a run, kept bytes, two letters, the two answers seen and an incoming item." Its refusals in their order, and
-- what it returns. Request b: 15 carries the reason of the move; that it is the one of the rules (`ReasonIs`) is proved: fifteen_reason in
-- proofs/StepSays.antt. Assumes nothing.
use Rattle.std.specs.Prelude.{ℕ, ◌≡◌, Bool, not, ◌||◌, List, [], ◌∷◌, ◌++◌, length, get_or, leb, eqb, None, Some, Err}
use Rattle.lists.specs.Search.{seek, some}
use Rattle.format.specs.declared.Row.{Row}
use Rattle.format.specs.declared.Table.{Table}
use Rattle.format.specs.declared.Side.TheVariants.{Writer, Reader}
use Rattle.format.specs.Verdicts.{Refusal, Fine, Check, CheckOf, when, verdict_of, given}
use Rattle.format.specs.Reads.{read_of}
use Rattle.format.specs.Good.{row}
use Rattle.rules.specs.declared.Pair.{Pair}
use Rattle.rules.specs.Configurations.{May, size, after}
use Rattle.rules.specs.Numbers.{reason_number}
use Rattle.rules.specs.Tools.Computed.{row_with, reason_of, allowed_test}
use Rattle.calls.specs.Call.{Call, pair_of}
use Rattle.calls.specs.Refusals.{enter_checks, lent_checks, in_range, letter_checks}
use Rattle.calls.specs.declared.Run.{Run}
use Rattle.calls.specs.declared.Cycle.{Cycle}
use Rattle.calls.specs.declared.Stepped.{Stepped}
use Rattle.calls.specs.Items.{padded, delivered, held_after}
use Rattle.calls.specs.Runs.{conf_of, held_at, held_of, run_at}
use Rattle.format.specs.declared.Fault.TheVariants.{NoConfiguration, NotAllowed, NoRow}

-- the items that wait at the writing side
abbrev pub incoming_of : Cycle → List ℕ
incoming_of c = c.incoming ∷ []

-- the rows that state, letter and answer fix: their indexes, the count of rows where there is none
abbrev pub writer_found : Pair → Run → Cycle → ℕ
writer_found X u c = row_with X.writer u.writer c.writer_letter c.writer_answer

abbrev pub reader_found : Pair → Run → Cycle → ℕ
reader_found X u c = row_with X.reader u.reader c.reader_letter c.reader_answer

-- the table has a row for that state, letter and answer
abbrev pub HasRow : Table → ℕ → ℕ → ℕ → Type 0
HasRow t state letter answer = (r : Row) × May t state letter r × (r.answer ≡ answer)

-- ---- the refusals

abbrev pub nonzero : List ℕ → ℕ → Bool
nonzero items i = not (eqb (held_at items i) 0)

-- configuration out of range, or a nonzero place at or past the level
abbrev pub run_check : Pair → Run → Check
run_check X u = when NoConfiguration None 0 (not (in_range X (conf_of u)) || some (nonzero u.items) u.level 16)

-- move not allowed: "A step that is refused with 15 carries [the reason] in the row field" (request b)
abbrev pub move_check : Pair → List ℕ → Run → Cycle → Check
move_check X bytes u c =
    let x : ℕ = c.writer_letter in
    let y : ℕ = c.reader_letter in
    when NotAllowed None (reason_number (reason_of X bytes (conf_of u) x y)) (not (allowed_test X bytes (conf_of u) x y))

-- no row for that state, letter and answer
abbrev pub row_check : {S : Type 0} → Table → S → ℕ → CheckOf S
row_check t side found = when NoRow (Some side) 0 (leb t.count found)

-- of the call, past 9 and 17: 10, 12, 13
abbrev pub open_checks : Pair → List ℕ → Run → List Check
open_checks X bytes u = lent_checks (size X) bytes ++ (run_check X u ∷ [])

-- of a cycle: 14, 15, 16
abbrev pub turn_checks : Pair → List ℕ → Run → Cycle → List Check
turn_checks X bytes u c =
    letter_checks X c.writer_letter c.reader_letter
    ++ (move_check X bytes u c ∷ row_check X.writer Writer (writer_found X u c) ∷ row_check X.reader Reader (reader_found X u c) ∷ [])

abbrev pub step_checks : Call → List ℕ → Run → Cycle → List Check
step_checks k bytes u c = enter_checks k ++ (open_checks (pair_of k) bytes u ++ turn_checks (pair_of k) bytes u c)

-- ---- a step that is done with the rows w and r

-- "If the reader's row has item 1 the front leaves and is returned with a mark; if the writer's row has item 1 the incoming one goes behind
-- the last": the mark counts the items returned
unfoldable pub done_by : Run → Row → Row → List ℕ → Stepped
unfolding held_of padded
done_by u w r incoming =
    let out : List ℕ = delivered (held_of u) w.item r.item incoming in
    record {
      verdict = Fine;
      run = run_at (after (conf_of u) w r) (held_after (held_of u) w.item r.item incoming);
      item = get_or out 0 0;
      mark = length out;
    }

abbrev pub done_of : Pair → Run → Cycle → Stepped
done_of X u c = done_by u (row X.writer (writer_found X u c)) (row X.reader (reader_found X u c)) (incoming_of c)

-- ---- the call

-- "A refused step returns the run given, item 0, mark 0"
abbrev pub refused_step : Run → Refusal → Stepped
refused_step u refusal = record { verdict = Err refusal; run = u; item = 0; mark = 0 }

-- what a cycle does, past the call's own checks
unfoldable pub turn_of : Pair → List ℕ → Run → Cycle → Stepped
unfolding seek reason_of allowed_test done_by
turn_of X bytes u c = given (verdict_of (turn_checks X bytes u c)) (refused_step u) (done_of X u c)

unfoldable pub step_of : Call → List ℕ → Run → Cycle → Stepped
unfolding read_of seek reason_of allowed_test done_by
step_of k bytes u c = given (verdict_of (step_checks k bytes u c)) (refused_step u) (done_of (pair_of k) u c)
