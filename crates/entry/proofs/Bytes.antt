-- What the largest of the bytes looked at says of refusal 12. Assumes nothing.
use Prim.Native.Nat.{ℕ, ◌≤◌, ◌<◌}
use native.Mathlib.Omega.{arith}
use mathlib.Core.Path.{◌≡◌}
use mathlib.Core.Bool.{true, false}
use mathlib.Core.List.{List}
use borrow.Author.Tests.{lt-ltb, le-ltb}
use Rattle.lists.specs.Search.{some}
use Rattle.lists.proofs.Search.{hit_some, none_some}
use Rattle.format.specs.Format.{byte}
use Rattle.calls.specs.Refusals.{is_other}
use Rattle.entry.specs.Largest.{Largest}

module _ {bytes : List ℕ} {n z : ℕ} (l : Largest bytes n z) where
  -- a byte that is neither 0 nor 1
  pub largest_other : 1 < z → some (is_other bytes) 0 n ≡ true
  largest_other h =
      let r = l.reached (omega arith) in
      hit_some (is_other bytes) 0 n r.0 (omega arith) r.1 (lt-ltb 1 (byte bytes r.0) (omega (arith, r.2)))

  pub largest_fine : z ≤ 1 → some (is_other bytes) 0 n ≡ false
  largest_fine h = none_some (is_other bytes) 0 n (λ p a b. le-ltb 1 (byte bytes p) (omega (arith, l.above p b)))
