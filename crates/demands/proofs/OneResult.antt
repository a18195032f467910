-- Two results that satisfy the contract of the same call are equal. read, ask, why, begin and step lend nothing that they may write, and their
-- contracts are equations; build's says the lent buffer too (from `one_result` of the crate calls), and check's names the lowest faulty place (from
-- `check_one`). Assumes nothing.
use Prim.Native.Nat.{ℕ}
use mathlib.Core.Path.{◌≡◌, sym, ◌∙◌}
use mathlib.Core.List.{List}
use Rattle.format.specs.declared.Side.{Side}
use Rattle.format.specs.declared.Reading.{Reading}
use Rattle.format.specs.Reads.{read_of}
use Rattle.rules.specs.declared.Conf.{Conf}
use Rattle.calls.specs.Call.{Call}
use Rattle.calls.specs.declared.Asked.{Asked}
use Rattle.calls.specs.Ask.{ask_of}
use Rattle.calls.specs.declared.Explained.{Explained}
use Rattle.calls.specs.Why.{why_of}
use Rattle.calls.specs.declared.Built.{Built}
use Rattle.calls.specs.Build.{BuildSays}
use Rattle.calls.proofs.Largest.{one_result}
use Rattle.format.specs.Verdicts.{Verdict}
use Rattle.calls.specs.Check.{CheckSays}
use Rattle.calls.proofs.Checked.{check_one}
use Rattle.calls.specs.declared.Run.{Run}
use Rattle.calls.specs.declared.Cycle.{Cycle}
use Rattle.calls.specs.declared.Begun.{Begun}
use Rattle.calls.specs.declared.Stepped.{Stepped}
use Rattle.calls.specs.Begin.{begin_of}
use Rattle.calls.specs.Step.{step_of}

-- the law of every contract that is an equation
pub one_of : {A : Type 0} {said a b : A} → a ≡ said → b ≡ said → a ≡ b
one_of p q = p ∙ sym q

pub one_read : (bytes : List ℕ) (side : Side) {a b : Reading} → a ≡ read_of bytes side → b ≡ read_of bytes side → a ≡ b
one_read bytes side = one_of

module _ (k : Call) where
  pub one_ask : (bytes : List ℕ) (c : Conf) {a b : Asked} → a ≡ ask_of k bytes c → b ≡ ask_of k bytes c → a ≡ b
  one_ask bytes c = one_of

  pub one_why : (bytes : List ℕ) (c : Conf) (x y : ℕ) {a b : Explained} → a ≡ why_of k bytes c x y → b ≡ why_of k bytes c x y → a ≡ b
  one_why bytes c x y = one_of

  pub one_begin : {a b : Begun} → a ≡ begin_of k → b ≡ begin_of k → a ≡ b
  one_begin = one_of

  pub one_step : (bytes : List ℕ) (run : Run) (cycle : Cycle) {a b : Stepped}
      → a ≡ step_of k bytes run cycle → b ≡ step_of k bytes run cycle → a ≡ b
  one_step bytes run cycle = one_of

  pub one_build : (before after₁ after₂ : List ℕ) (a b : Built)
      → BuildSays k before after₁ a → BuildSays k before after₂ b → (a ≡ b) × (after₁ ≡ after₂)
  one_build = one_result k

  -- no buffer is lent, and the verdict is all that check returns
  pub one_check : (list : List ℕ) (v w : Verdict) → CheckSays k list v → CheckSays k list w → v ≡ w
  one_check = check_one k
