-- The moves of a set, bit by bit, and how long their text is. Assumes nothing.
use Prim.Native.Nat.{ℕ, zero, suc, ◌*◌, ◌/◌, ◌%◌, ◌^◌, ◌≤◌, zero-le}
use native.Mathlib.Omega.{arith}
use mathlib.Core.Path.{◌≡◌}
use mathlib.Core.Bool.{Bool, true, false, cond}
use mathlib.Core.List.{[]}
use lib.ListN.{length, length-append}
use borrow.Author.Tests.{eq-eqb, ne_eqb}
use Rattle.texts.specs.Text.{has_bit, move_text, bit_text, moves_below}

pub bit_set : (set m : ℕ) → set / 2 ^ m % 2 ≡ 1 → bit_text set m ≡ move_text m
unfolding bit_text
bit_set set m e = rw (eq-eqb (set / 2 ^ m % 2) 1 e)

pub bit_clear : (set m : ℕ) → (set / 2 ^ m % 2 ≡ 1 → ⊥) → bit_text set m ≡ []
unfolding bit_text
bit_clear set m e = rw (ne_eqb (set / 2 ^ m % 2) 1 e)

bit_length : (set m : ℕ) → length (bit_text set m) ≤ 4
unfolding bit_text
bit_length set m = go (has_bit set m)
  where
    go : (b : Bool) → length (cond b (move_text m) []) ≤ 4
    go true = omega arith
    go false = zero-le

pub moves_length : (set m : ℕ) → length (moves_below set m) ≤ 4 * m
unfolding moves_below
moves_length set zero = zero-le
moves_length set (suc m) = simp length-append (omega (arith, moves_length set m, bit_length set m))
