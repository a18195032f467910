-- What a done why returns, over the rules: the reason of the move with respect to the set of bytes that are 1; it is 0 exactly where
-- the move is allowed and ask has its bit, and the row of a step's 15. Assumes nothing.
use Prim.Native.Nat.{ℕ, ◌/◌, ◌%◌, ◌^◌, ◌<◌}
use native.Mathlib.Omega.{arith}
use mathlib.Core.Path.{◌≡◌, sym, ap, ◌∙◌, subst}
use mathlib.Core.Logic.Iff
use mathlib.Core.Logic.{◌↔◌}
use mathlib.Core.List.{List}
use Rattle.format.specs.Verdicts.{Fine, Refused, verdict_of}
use Rattle.format.proofs.Verdicts.{fine_front, fine_goes_on}
use Rattle.rules.specs.declared.Pair.{Pair}
use Rattle.rules.specs.declared.Conf.{Conf}
use Rattle.rules.specs.Configurations.{move_of}
use Rattle.rules.specs.Sets.{AllowedIn}
use Rattle.rules.specs.Reasons.{ReasonIs}
use Rattle.rules.specs.declared.Reason.{Reason}
use Rattle.rules.specs.declared.Reason.TheVariants.{Allowed}
use Rattle.rules.specs.Numbers.{reason_number}
use Rattle.rules.specs.Kept.{KeptAt}
use Rattle.rules.specs.Tools.Computed.{reason_of}
use Rattle.rules.proofs.Reasons.{same_number, one_reason, allowed_zero}
use Rattle.rules.proofs.Tools.Reasoned.{reason_test}
use Rattle.calls.specs.declared.Asked.{Asked}
use Rattle.calls.specs.declared.Explained.{Explained}
use Rattle.calls.specs.declared.Run.{Run}
use Rattle.calls.specs.declared.Cycle.{Cycle}
use Rattle.calls.specs.Call.{Call, pair_of}
use Rattle.calls.specs.Refusals.{enter_checks, letter_checks}
use Rattle.calls.specs.Ask.{asks_checks, ask_of}
use Rattle.calls.specs.Why.{whys_checks, why_checks, why_of}
use Rattle.calls.specs.Runs.{conf_of}
use Rattle.calls.specs.Step.{step_of}
use Rattle.calls.specs.Past.{Askable}
use Rattle.calls.proofs.Silent.{enter_known, ask_known, ask_silent, open_known, letters_known, letters_silent}
use Rattle.calls.proofs.Asking.{ask_done}
use Rattle.calls.proofs.Refused.{why_verdict}
use Rattle.calls.proofs.AskSays.{ask_bit}
use Rattle.calls.proofs.StepSays.{PastLetters, fifteen_reason}
use Rattle.std.specs.Prelude.{None}
use Rattle.format.specs.declared.Fault.TheVariants.{NotAllowed}

module _ (k : Call) (bytes : List ℕ) (c : Conf) (x y : ℕ) where
  abbrev X : Pair
  X = pair_of k

  abbrev why : Explained
  why = why_of k bytes c x y

  abbrev Why : Reason → Type 0
  Why = ReasonIs X (KeptAt X bytes) c x y

  module _ (done : why.verdict ≡ Fine) where
    all_fine : verdict_of (why_checks k bytes c x y) ≡ Fine
    all_fine = sym (why_verdict k bytes c x y) ∙ done

    enter_fine : verdict_of (enter_checks k) ≡ Fine
    enter_fine = fine_front (enter_checks k) (whys_checks X bytes c x y) all_fine

    whys_fine : verdict_of (whys_checks X bytes c x y) ≡ Fine
    whys_fine = fine_goes_on (enter_checks k) (whys_checks X bytes c x y) enter_fine ∙ all_fine

    asks_fine : verdict_of (asks_checks X bytes c) ≡ Fine
    asks_fine = fine_front (asks_checks X bytes c) (letter_checks X x y) whys_fine

    able : Askable X bytes c
    able = ask_known X bytes c (enter_known k enter_fine) asks_fine

    letters : (x < X.writer.letters) × (y < X.reader.letters)
    letters = letters_known X x y (fine_goes_on (asks_checks X bytes c) (letter_checks X x y) asks_fine ∙ whys_fine)

    -- the reason is one of the seven, by its number, and the one of the rules
    pub why_found : (because : Reason) × (why.reason ≡ reason_number because) × Why because
    unfolding why_of
    why_found = (reason_of X bytes c x y, rw all_fine, reason_test X able.good able.within x y bytes)

    pub why_reason : (because : Reason) → (why.reason ≡ reason_number because) ↔ Why because
    why_reason because =
        let found : Reason = why_found.0 in (
          λ e. subst Why (same_number found because (sym why_found.1 ∙ e)) why_found.2,
          λ is. why_found.1 ∙ ap reason_number (one_reason X (KeptAt X bytes) c x y found because why_found.2 is),
        )

    -- "allowed means reason 0"
    pub why_zero : (why.reason ≡ 0) ↔ AllowedIn X (KeptAt X bytes) c x y
    why_zero = Iff.trans (why_reason Allowed) (Iff.symm (allowed_zero X (KeptAt X bytes) c x y))

    -- and ask has the bit; the letters are below 8, being below d
    pub why_ask : (why.reason ≡ 0) ↔ ((ask_of k bytes c).set / 2 ^ move_of x y % 2 ≡ 1)
    why_ask =
        let asked : (ask_of k bytes c).verdict ≡ Fine = sym (ap (λ (a : Asked). a.verdict) (ask_done k bytes c enter_fine able)) in
        let hx : x < 8 = omega (arith, letters.0, able.good.writer.letters) in
        let hy : y < 8 = omega (arith, letters.1, able.good.reader.letters) in
        Iff.trans why_zero (Iff.symm (ask_bit k bytes c asked x y hx hy))

-- a step that is refused with 15 carries what why says of its move where the run stands
module _ (k : Call) (bytes : List ℕ) (u : Run) (c : Cycle) (past : PastLetters k bytes u c) where
  abbrev asked : Explained
  asked = why_of k bytes (conf_of u) c.writer_letter c.reader_letter

  why_done : asked.verdict ≡ Fine
  why_done =
      let Y : Pair = pair_of k in
      let x : ℕ = c.writer_letter in
      let y : ℕ = c.reader_letter in
      let able = open_known Y bytes u (enter_known k past.enters) past.opens in
      why_verdict k bytes (conf_of u) x y
      ∙ sym (fine_goes_on (enter_checks k) (whys_checks Y bytes (conf_of u) x y) past.enters)
      ∙ sym (fine_goes_on (asks_checks Y bytes (conf_of u)) (letter_checks Y x y) (ask_silent Y bytes (conf_of u) able))
      ∙ letters_silent Y x y past.writer_letter past.reader_letter

  pub step_why : (because : Reason) → (step_of k bytes u c).verdict ≡ Refused NotAllowed None (reason_number because) → asked.reason ≡ reason_number because
  step_why because e =
      (why_reason k bytes (conf_of u) c.writer_letter c.reader_letter why_done because).1 ((fifteen_reason k bytes u c past because).0 e).0
