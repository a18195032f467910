-- A set of numbers as a number: its binary digit m is 1 exactly if m passes the test. Assumes nothing.
use Rattle.std.specs.Prelude.{ℕ, zero, suc, ◌+◌, ◌*◌, ◌^◌, Bool, true, false}

abbrev pub bit : Bool → ℕ
bit true = 1
bit false = 0

-- each number below n that passes adds its power of two
unfoldable pub number : (ℕ → Bool) → ℕ → ℕ
number f zero = zero
number f (suc n) = bit (f n) * 2 ^ n + number f n
