-- The set of allowed moves by the reasons: of a look at all 64 moves, and where the configuration is not kept. Assumes nothing.
use Prim.Native.Nat.{ℕ, ◌/◌, ◌%◌}
use mathlib.Core.Path.{◌≡◌, sym, ap}
use mathlib.Core.List.{List}
use lib.Dec.{eqb}
use Rattle.lists.proofs.Bits.{number_off}
use Rattle.rules.specs.declared.Conf.{Conf}
use Rattle.rules.specs.declared.Pair.{Pair}
use Rattle.rules.specs.declared.Reason.{Reason}
use Rattle.rules.specs.declared.Reason.TheVariants.{NotKept}
use Rattle.rules.specs.Numbers.{reason_number}
use Rattle.rules.specs.Tools.Computed.{reason_of, allowed_test}
use Rattle.calls.specs.Ask.{is_allowed, move_set}
use Rattle.reasons.specs.declared.Looked.{Looked}
use Rattle.reasons.specs.Reasoning.{Looks}
use Rattle.reasons.proofs.Looking.{looked_set}

module _ (X : Pair) (k : List ℕ) (c : Conf) where
  pub set_looked : {z : Looked} → Looks (reason_of X k c) 0 64 z → z.set ≡ move_set X k c
  unfolding move_set allowed_test
  set_looked s = looked_set (reason_of X k c) s

  pub set_out : ((x y : ℕ) → reason_of X k c x y ≡ NotKept) → 0 ≡ move_set X k c
  unfolding move_set allowed_test
  set_out out = sym (number_off (is_allowed X k c) 64 (λ m h. ap (λ (r : Reason). eqb (reason_number r) 0) (out (m / 8) (m % 8))))
