-- A step that is done lands in the kept set on a run that makes sense, and keeps the items in order; an allowed move with answers that the
-- tables have is never refused. Over any bytes, built by us or not. Assumes nothing.
use Prim.Native.Nat.{ℕ, ◌<◌}
use native.Mathlib.Omega.{arith}
use mathlib.Core.Path.{◌≡◌, refl, sym, ap₂, ◌∙◌, subst}
use mathlib.Core.Bool.{true}
use mathlib.Core.List.{List, [], ◌∷◌, ◌++◌}
use borrow.Author.Tests.{lt-leb, leb-false, not-false}
use Rattle.lists.proofs.Bools.{is_true}
use Rattle.format.specs.declared.Row.{Row}
use Rattle.format.specs.declared.Table.{Table}
use Rattle.format.specs.Verdicts.{Fine, verdict_of}
use Rattle.format.specs.Good.{row, Good}
use Rattle.format.proofs.Verdicts.{fine_front, fine_goes_on, fine_silent, given_fine, given_verdict}
use Rattle.rules.specs.declared.Pair.{Pair}
use Rattle.rules.specs.Configurations.{May, Outcome, after}
use Rattle.rules.specs.Sets.{AllowedIn}
use Rattle.rules.specs.Kept.{KeptAt}
use Rattle.rules.specs.Tools.Computed.{row_with, allowed_test}
use Rattle.rules.proofs.Tools.RowsFor.{may_answers, answers_found, may_found}
use Rattle.rules.proofs.Places.{may_good}
use Rattle.rules.proofs.Tools.Reasoned.{allowed_test_lem}
use Rattle.calls.specs.declared.Run.{Run}
use Rattle.calls.specs.declared.Cycle.{Cycle}
use Rattle.calls.specs.declared.Stepped.{Stepped}
use Rattle.calls.specs.Call.{Call, pair_of}
use Rattle.calls.specs.Refusals.{enter_checks}
use Rattle.calls.specs.Runs.{conf_of, held_of, GoodRun}
use Rattle.calls.specs.Step.{incoming_of, writer_found, reader_found, open_checks, turn_checks, step_checks, done_by, done_of, refused_step, step_of}
use Rattle.calls.specs.Past.{Askable, Movable}
use Rattle.calls.specs.Walks.{accepted_in, delivered_by}
use Rattle.calls.specs.Points.{cycle_of}
use Rattle.calls.proofs.After.{held_after_lem, good_after, delivered_after}
use Rattle.calls.proofs.Queues.{in_order}
use Rattle.calls.proofs.Silent.{enter_known, open_known, open_silent}
use Rattle.calls.proofs.Turns.{found_outcome, found_allowed, found_movable}

-- ---- a step that is done

module _ (k : Call) (bytes : List ℕ) (u : Run) (c : Cycle) where
  abbrev X : Pair
  X = pair_of k

  abbrev it : Stepped
  it = step_of k bytes u c

  abbrev w : Row
  w = row X.writer (writer_found X u c)

  abbrev r : Row
  r = row X.reader (reader_found X u c)

  pub step_verdict : it.verdict ≡ verdict_of (step_checks k bytes u c)
  unfolding step_of done_by
  step_verdict = given_verdict (λ (s : Stepped). s.verdict) (refused_step u) (done_of X u c) (λ v. refl) refl (verdict_of (step_checks k bytes u c))

  -- it lands on a kept configuration, in a run that makes sense, and keeps the items in order
  pub record StepKeeps : Type 0 where
    pub good : GoodRun X it.run
    pub lands : KeptAt X bytes (conf_of it.run)
    pub in_order : delivered_by it ++ held_of it.run ≡ held_of u ++ accepted_in X u c

  module _ (fine : it.verdict ≡ Fine) where
    all_fine : verdict_of (step_checks k bytes u c) ≡ Fine
    all_fine = sym step_verdict ∙ fine

    enter_fine : verdict_of (enter_checks k) ≡ Fine
    enter_fine = fine_front (enter_checks k) (open_checks X bytes u ++ turn_checks X bytes u c) all_fine

    past_fine : verdict_of (open_checks X bytes u ++ turn_checks X bytes u c) ≡ Fine
    past_fine = fine_goes_on (enter_checks k) (open_checks X bytes u ++ turn_checks X bytes u c) enter_fine ∙ all_fine

    open_fine : verdict_of (open_checks X bytes u) ≡ Fine
    open_fine = fine_front (open_checks X bytes u) (turn_checks X bytes u c) past_fine

    turn_fine : verdict_of (turn_checks X bytes u c) ≡ Fine
    turn_fine = fine_goes_on (open_checks X bytes u) (turn_checks X bytes u c) open_fine ∙ past_fine

    able : Askable X bytes (conf_of u)
    able = open_known X bytes u (enter_known k enter_fine) open_fine

    pub step_done : done_of X u c ≡ it
    unfolding step_of
    step_done = given_fine (refused_step u) (done_of X u c) all_fine

    pub step_keeps : StepKeeps
    unfolding done_by
    step_keeps =
        let s = fine_silent (turn_checks X bytes u c) turn_fine in
        let may : allowed_test X bytes (conf_of u) c.writer_letter c.reader_letter ≡ true = not-false _ s.1.1.0 in
        let hw : writer_found X u c < X.writer.count = leb-false _ _ s.1.1.1.0 in
        let hr : reader_found X u c < X.reader.count = leb-false _ _ s.1.1.1.1.0 in
        let o = found_outcome X bytes u c may hw hr in
        let m : Movable u w r = found_movable X bytes u c may hw hr able in
        let k : KeptAt X bytes (after (conf_of u) w r) = (found_allowed X bytes u c may hw hr able).lands w r o in
        record {
          good = subst (λ (z : Stepped). GoodRun X z.run) step_done (good_after u w r (incoming_of c) X k.within);
          lands = subst (λ (z : Stepped). KeptAt X bytes (conf_of z.run)) step_done k;
          in_order =
              subst (λ (z : Stepped). delivered_by z ++ held_of z.run ≡ held_of u ++ accepted_in X u c) step_done
              (ap₂ (λ (a b : List ℕ). a ++ b) (delivered_after u w r (incoming_of c) m) (held_after_lem u w r (incoming_of c))
              ∙ in_order (held_of u) w.item r.item (incoming_of c));
        }

-- ---- an allowed move with answers that the tables have

-- both sides: the row that the side takes is found, and its letter is one of the table
module _ (t : Table) (good : Good t) {state letter : ℕ} {taken : Row} (m : May t state letter taken) where
  pub taken_found : row_with t state letter taken.answer < t.count
  taken_found =
      let e = answers_found t state letter taken.answer good m.index m.used (may_answers t state letter taken.answer m refl) in
      omega (arith, m.used)

  pub taken_letter : letter < t.letters
  taken_letter = omega (arith, (may_good t good m).drive, m.for_letter)

module _ (k : Call) (bytes : List ℕ) (u : Run) where
  abbrev Y : Pair
  Y = pair_of k

  module _ (fine : verdict_of (enter_checks k) ≡ Fine) (able : Askable Y bytes (conf_of u)) (good : GoodRun Y u)
      {x y : ℕ} {a b : Row} (move : AllowedIn Y (KeptAt Y bytes) (conf_of u) x y) (o : Outcome Y (conf_of u) x y a b) (incoming : ℕ) where
    abbrev now : Cycle
    now = cycle_of x y a b incoming

    turn_silent : verdict_of (turn_checks Y bytes u now) ≡ Fine
    turn_silent =
        rw (
          lt-leb _ _ (taken_letter Y.writer able.good.writer o.writer),
          lt-leb _ _ (taken_letter Y.reader able.good.reader o.reader),
          is_true (allowed_test Y bytes (conf_of u) x y) ((allowed_test_lem Y able.good able.within x y bytes).1 move),
          lt-leb Y.writer.count (writer_found Y u now) (taken_found Y.writer able.good.writer o.writer),
          lt-leb Y.reader.count (reader_found Y u now) (taken_found Y.reader able.good.reader o.reader),
        )

    step_silent : verdict_of (step_checks k bytes u now) ≡ Fine
    step_silent =
        sym (fine_goes_on (enter_checks k) (open_checks Y bytes u ++ turn_checks Y bytes u now) fine)
        ∙ sym (fine_goes_on (open_checks Y bytes u) (turn_checks Y bytes u now) (open_silent Y bytes u able good))
        ∙ turn_silent

    pub step_accepts : step_of k bytes u now ≡ done_by u a b (incoming ∷ [])
    unfolding step_of
    step_accepts =
        sym (given_fine (refused_step u) (done_of Y u now) step_silent)
        ∙ ap₂ (λ (p q : Row). done_by u p q (incoming ∷ []))
        (may_found Y.writer u.writer x a.answer able.good.writer o.writer refl)
        (may_found Y.reader u.reader y b.answer able.good.reader o.reader refl)
