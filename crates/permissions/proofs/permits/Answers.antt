-- `permissions::permits` meets its contract: a digit of a set stands in one byte. Assumes nothing.
use native.Mathlib.Omega.{arith}
use mathlib.Core.Path.{ap, ◌∙◌}
use Prim.Native.Nat.{ℕ, ◌+◌, ◌-◌, ◌*◌, ◌%◌}
use Rattle.lists.specs.Masks.{has_bit}
use Rattle.format.specs.Format.{byte}
use Rattle.permissions.proofs.ListLaws.{set_bit}
use Rattle.permissions.proofs.permits.Goals as goal

pub returns : goal.returns
unfolding has_bit
returns c =
    let a = c.args in
    ap (λ (k : ℕ). has_bit (byte a.list.now (3 + 8 * a.p + 7 - k)) (a.m % 8)) c.from.ensures
    ∙ set_bit a.list.now (λ i. omega (arith, c.type_inv.list i)) a.p a.m c.requires.2
