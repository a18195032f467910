-- The digits of a number: the two clauses of `decimal`, and how many digits there are. Assumes nothing.
use Prim.Native.Nat.{ℕ, zero, suc, ◌+◌, ◌/◌, ◌%◌, ◌^◌, ◌≤◌, ◌<◌}
use native.Mathlib.Nat.{pow-suc}
use native.Mathlib.Omega.{arith}
use mathlib.Core.Path.{◌≡◌, sym, ap, ◌∙◌}
use mathlib.Core.Logic.{◌⊎◌, inl, inr}
use mathlib.Core.List.{[], ◌∷◌, ◌++◌}
use lib.ListN.{length, length-append}
use borrow.Author.Tests.{lt-ltb, le-ltb}
use Rattle.lists.proofs.Rest.{le_or_lt}
use Rattle.texts.specs.Text.{digit, digits_in, decimal}

-- ---- at any k that is enough

in_small : (k n : ℕ) → n < 10 → digits_in (suc k) n ≡ digit n ∷ []
unfolding digits_in
in_small k n h = rw (lt-ltb n 10 h)

in_more : (k n : ℕ) → 10 ≤ n → digits_in (suc k) n ≡ digits_in k (n / 10) ++ (digit (n % 10) ∷ [])
unfolding digits_in
in_more k n h = rw (le-ltb n 10 h)

enough : (k j n : ℕ) → n < k → n < j → digits_in k n ≡ digits_in j n
enough zero j n h e = absurd (omega arith)
enough (suc k) zero n h e = absurd (omega arith)
enough (suc k) (suc j) n h e = go (λ a b. enough k j (n / 10) a b) (le_or_lt 10 n)
  where
    go :
        (n / 10 < k → n / 10 < j → digits_in k (n / 10) ≡ digits_in j (n / 10)) → (10 ≤ n) ⊎ (n < 10)
        → digits_in (suc k) n ≡ digits_in (suc j) n
    go fewer (inl m) = in_more k n m ∙ rw (fewer (omega arith) (omega arith)) (sym (in_more j n m))
    go fewer (inr s) = in_small k n s ∙ sym (in_small j n s)

pub decimal_small : (n : ℕ) → n < 10 → decimal n ≡ digit n ∷ []
unfolding decimal
decimal_small n h = in_small n n h

pub decimal_more : (n : ℕ) → 10 ≤ n → decimal n ≡ decimal (n / 10) ++ (digit (n % 10) ∷ [])
unfolding decimal
decimal_more n h = in_more n n h ∙ rw (enough n (suc (n / 10)) (n / 10) (omega arith) (omega arith))

-- ---- how many

pub length_small : (n : ℕ) → n < 10 → length (decimal n) ≡ 1
length_small n h = ap length (decimal_small n h)

pub length_more : (n : ℕ) → 10 ≤ n → length (decimal n) ≡ length (decimal (n / 10)) + 1
length_more n h = ap length (decimal_more n h) ∙ length-append (decimal (n / 10)) (digit (n % 10) ∷ [])

short : (k n : ℕ) → n < 10 ^ suc k → length (decimal n) ≤ suc k
short zero n h = omega (arith, length_small n h)
short (suc k) n h = go (short k (n / 10)) (le_or_lt 10 n)
  where
    go :
        (n / 10 < 10 ^ suc k → length (decimal (n / 10)) ≤ suc k) → (10 ≤ n) ⊎ (n < 10)
        → length (decimal n) ≤ suc (suc k)
    go fewer (inl m) = omega (arith, length_more n m, fewer (omega (arith, pow-suc 10 (suc k))))
    go fewer (inr s) = omega (arith, length_small n s)

-- a u64 has at most 20 digits
pub most_digits : {n : ℕ} → n < 2 ^ 64 → length (decimal n) ≤ 20
most_digits {n} h = short 19 n (omega arith)
