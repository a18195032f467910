-- A set of small numbers as a number, its mask: l is in the set exactly if the binary digit l is 1. Assumes nothing.
use Rattle.std.specs.Prelude.{ℕ, ◌/◌, ◌%◌, ◌^◌, Bool, eqb}

unfoldable pub has_bit : ℕ → ℕ → Bool
has_bit m l = eqb (m / 2 ^ l % 2) 1
