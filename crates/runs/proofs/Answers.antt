-- Begin, by what entering gives, and step, by what its tests give. Assumes nothing.
use Prim.Native.Nat.{ℕ}
use native.Mathlib.Omega.{arith}
use mathlib.Core.Path.{◌≡◌, refl, sym, ap, ◌∙◌}
use mathlib.Core.List.{List, ◌++◌, append_assoc}
use Rattle.std.specs.Prelude.{Result, Ok, Err}
use Rattle.format.specs.Verdicts.{Refusal, Verdict, Fine, Check, verdict_of, given, unless}
use Rattle.format.proofs.Verdicts.{known_fine, known_value, known_refused, given_refused, first_refuses, then_decides, fine_front, fine_goes_on}
use Rattle.rules.specs.declared.Pair.{Pair}
use Rattle.calls.specs.declared.Run.{Run}
use Rattle.calls.specs.declared.Cycle.{Cycle}
use Rattle.calls.specs.Call.{Call, call_of, pair_of}
use Rattle.calls.specs.Refusals.{enter_checks}
use Rattle.calls.specs.Begin.{empty_at, start_run, not_begun, begun, begin_of}
use Rattle.calls.specs.Runs.{conf_of}
use Rattle.calls.specs.Step.{open_checks, turn_checks, done_of, refused_step, turn_of, step_of}
use Rattle.calls.specs.Past.{Askable}
use Rattle.calls.proofs.Silent.{enter_known, open_known, rule_silent, begin_same, begin_done}
use Rattle.entry.specs.declared.Entry.{Entry}
use Rattle.entry.specs.Enter.{Enters}

-- ---- begin

-- it enters under rule 0, which is never refused, and its answer is the same for each rule
module _ (writer reader : List ℕ) (bound : ℕ) {o : Entry} (entered : Enters (call_of writer reader bound 0) o) (rule : ℕ) where
  pub begin_refused : {u : Run} {r : Refusal} → o.verdict ≡ Err r → u ≡ empty_at 0 0
      → record { verdict = o.verdict; run = u } ≡ begin_of (call_of writer reader bound rule)
  unfolding begin_of
  begin_refused {u} {r} e empty =
      let k = call_of writer reader bound 0 in
      ap (λ (z : Run). record { verdict = o.verdict; run = z }) empty
      ∙ ap (λ (z : Verdict). record { verdict = z; run = empty_at 0 0 }) e
      ∙ given_refused not_begun (begun (pair_of k)) (sym entered.told ∙ e)
      ∙ ap (λ (z : Verdict). given z not_begun (begun (pair_of k))) (rule_silent k (omega arith))

  pub begin_starts : {u : Run} → o.verdict ≡ Fine → u ≡ start_run o.pair → record { verdict = Fine; run = u } ≡ begin_of (call_of writer reader bound rule)
  begin_starts e start =
      ap (λ (z : Run). record { verdict = Fine; run = z }) start
      ∙ ap begun entered.pair_is
      ∙ begin_done (call_of writer reader bound 0) (sym entered.told ∙ e)
      ∙ begin_same writer reader bound 0 rule

-- ---- step

-- all that it tests before its cycle: the entry checks, then 10, 12 and 13
module _ (k : Call) (bytes : List ℕ) (u : Run) {o : Result Pair Refusal} (is : o ≡ unless (verdict_of (enter_checks k ++ open_checks (pair_of k) bytes u)) (pair_of k)) where
  abbrev X : Pair
  X = pair_of k

  abbrev tested : List Check
  tested = enter_checks k ++ open_checks X bytes u

  module _ {p : Pair} (ok : o ≡ Ok p) where
    fine : verdict_of tested ≡ Fine
    fine = known_fine (verdict_of tested) X is ok

    same : X ≡ p
    same = known_value (verdict_of tested) X is ok

    pub step_askable : Askable p bytes (conf_of u)
    step_askable =
        let entered = fine_front (enter_checks k) (open_checks X bytes u) fine in
        rw (← same) (open_known X bytes u (enter_known k entered) (fine_goes_on (enter_checks k) (open_checks X bytes u) entered ∙ fine))

  module _ (c : Cycle) where
    whole : given (verdict_of (tested ++ turn_checks X bytes u c)) (refused_step u) (done_of X u c) ≡ step_of k bytes u c
    unfolding step_of
    whole =
        ap (λ (cs : List Check). given (verdict_of cs) (refused_step u) (done_of X u c))
        (append_assoc (enter_checks k) (open_checks X bytes u) (turn_checks X bytes u c))

    pub step_turns : {p : Pair} → o ≡ Ok p → turn_of p bytes u c ≡ step_of k bytes u c
    unfolding turn_of
    step_turns ok =
        ap (λ (Y : Pair). turn_of Y bytes u c) (sym (same ok))
        ∙ then_decides (refused_step u) (done_of X u c) tested (turn_checks X bytes u c) (fine ok)
        ∙ whole

    pub step_refused : {r : Refusal} → o ≡ Err r → refused_step u r ≡ step_of k bytes u c
    step_refused e =
        first_refuses (refused_step u) (done_of X u c) tested (turn_checks X bytes u c) refl (known_refused (verdict_of tested) X is e)
        ∙ whole
