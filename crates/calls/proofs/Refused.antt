-- What a begin, a why and a step that are refused return, and which refusal of a step is given. Assumes nothing.
use Prim.Native.Nat.{ℕ, ◌<◌}
use mathlib.Core.Path.{◌≡◌, refl, sym, ◌∙◌}
use mathlib.Core.Bool.{false}
use mathlib.Core.List.{List, ◌++◌}
use lib.ListN.{replicate}
use borrow.Author.Tests.{lt-leb}
use Rattle.format.specs.Verdicts.{Refusal, Verdict, Fine, Refused, verdict_of}
use Rattle.format.proofs.Verdicts.{fine_goes_on, given_verdict}
use Rattle.rules.specs.declared.Conf.{Conf}
use Rattle.rules.specs.declared.Pair.{Pair}
use Rattle.rules.specs.Numbers.{reason_number}
use Rattle.rules.specs.Tools.Computed.{reason_of, allowed_test}
use Rattle.calls.specs.declared.Run.{Run}
use Rattle.calls.specs.declared.Cycle.{Cycle}
use Rattle.calls.specs.declared.Begun.{Begun}
use Rattle.calls.specs.declared.Explained.{Explained}
use Rattle.calls.specs.Call.{Call, pair_of}
use Rattle.calls.specs.Refusals.{begin_checks, enter_checks}
use Rattle.calls.specs.Runs.{conf_of}
use Rattle.calls.specs.Begin.{begin_of}
use Rattle.calls.specs.Why.{why_checks, why_of}
use Rattle.calls.specs.Step.{open_checks, turn_checks, step_checks, step_of}
use Rattle.calls.proofs.Queues.{padded_none}
use Rattle.calls.proofs.Accepted.{step_verdict}
use Rattle.std.specs.Prelude.{None, Err}
use Rattle.format.specs.declared.Fault.TheVariants.{NotAllowed}

-- ---- "or refuses (1 to 9) with all zero in the run beside the refusal's number, side and row"

abbrev pub zero_run : Run
zero_run = record { writer = 0; reader = 0; level = 0; items = replicate 16 0 }

pub begin_returns : (k : Call) {r : Refusal} → (begin_of k).verdict ≡ Err r → begin_of k ≡ record { verdict = Err r; run = zero_run }
unfolding begin_of
begin_returns k {r} e =
    let v : Verdict = verdict_of (begin_checks k) in
    let refused : v ≡ Err r = sym (given_verdict (λ (b : Begun). b.verdict) _ _ (λ v. refl) refl v) ∙ e in
    rw (refused, padded_none)

-- ---- why

module _ (k : Call) (bytes : List ℕ) (c : Conf) (x y : ℕ) where
  pub why_verdict : (why_of k bytes c x y).verdict ≡ verdict_of (why_checks k bytes c x y)
  unfolding why_of
  why_verdict = given_verdict (λ (e : Explained). e.verdict) _ _ (λ v. refl) refl (verdict_of (why_checks k bytes c x y))

  -- a refusal returns reason 0
  pub why_returns : {r : Refusal} → (why_of k bytes c x y).verdict ≡ Err r
      → why_of k bytes c x y ≡ record { verdict = Err r; reason = 0 }
  unfolding why_of
  why_returns {r} e =
      let refused : verdict_of (why_checks k bytes c x y) ≡ Err r = sym why_verdict ∙ e in
      rw refused

-- ---- a step

module _ (k : Call) (bytes : List ℕ) (u : Run) (c : Cycle) where
  abbrev X : Pair
  X = pair_of k

  -- "A refused step returns the run given, item 0, mark 0"
  pub step_returns : {r : Refusal} → (step_of k bytes u c).verdict ≡ Err r
      → step_of k bytes u c ≡ record { verdict = Err r; run = u; item = 0; mark = 0 }
  unfolding step_of
  step_returns {r} e =
      let refused : verdict_of (step_checks k bytes u c) ≡ Err r = sym (step_verdict k bytes u c) ∙ e in
      rw refused

  -- "The lowest number that applies is given": past 14 a move that is not allowed is 15, also where no row has the answer, and its row is the
  -- reason
  pub fifteen_first : verdict_of (enter_checks k) ≡ Fine → verdict_of (open_checks X bytes u) ≡ Fine
      → c.writer_letter < X.writer.letters → c.reader_letter < X.reader.letters
      → allowed_test X bytes (conf_of u) c.writer_letter c.reader_letter ≡ false
      → (step_of k bytes u c).verdict ≡ Refused NotAllowed None (reason_number (reason_of X bytes (conf_of u) c.writer_letter c.reader_letter))
  fifteen_first entered opened hx hy off =
      step_verdict k bytes u c
      ∙ sym (fine_goes_on (enter_checks k) (open_checks X bytes u ++ turn_checks X bytes u c) entered)
      ∙ sym (fine_goes_on (open_checks X bytes u) (turn_checks X bytes u c) opened)
      ∙ rw (lt-leb _ _ hx, lt-leb _ _ hy, off)
