-- A set of moves as a number: its digits, its bound, how many of them are 1, the lowest that is 1, and a loop that adds one move at a time.
-- Assumes nothing.
use mathlib.Core.Path.{◌≡◌, refl, sym, ap, ap₂, ◌∙◌}
use mathlib.Core.Logic.{◌↔◌, ⊎_elim}
use mathlib.Core.Bool.{Bool, true, false, cond}
use mathlib.Core.List.{◌∷◌}
use Prim.Native.Nat.{ℕ, zero, suc, ◌+◌, ◌*◌, ◌/◌, ◌%◌, ◌^◌, ◌≤◌, ◌<◌, suc-le-suc, zero-le}
use native.Mathlib.Nat.{eq-or-lt_of_le, add-zero, suc-add, add-suc, div-one, pow-suc, pow-succ', div-div-eq-div-mul, le_of_suc-le-suc, not-suc-le-zero}
use native.Mathlib.Numerals.{add-one}
use native.Mathlib.Omega.{arith}
use lib.Dec.{T, eqb}
use lib.Count.{ones, ones_step, ones-ones, count_trailing_zeros, under}
use Rattle.lists.specs.Lists.{tab_from, tab, count}
use Rattle.lists.specs.Search.{seek, itself, first}
use Rattle.lists.specs.Bits.{bit, number}
use Rattle.lists.specs.Masks.{has_bit}

pub bit_le : (b : Bool) → bit b ≤ 1
bit_le true = suc-le-suc zero-le
bit_le false = zero-le

pub bit_true : (b : Bool) → (bit b ≡ 1) ↔ T b
bit_true true = (λ e. tt, λ t. refl)
bit_true false = (λ e. absurd (omega arith), λ t. absurd t)

bit_test : (b : Bool) → eqb (bit b) 1 ≡ b
bit_test true = refl
bit_test false = refl

-- ---- the same number, its lowest bit first: f i, f (i + 1), .., n digits

low : (ℕ → Bool) → ℕ → ℕ → ℕ
low f i zero = zero
low f i (suc n) = bit (f i) + 2 * low f (suc i) n

-- the lowest bit, and what is left above it
module _ (b : Bool) (r : ℕ) where
  lowest : (bit b + 2 * r) % 2 ≡ bit b
  lowest = omega (arith, bit_le b)

  half : (bit b + 2 * r) / 2 ≡ r
  half = omega (arith, bit_le b)

  above : (m : ℕ) → (bit b + 2 * r) / 2 ^ suc m ≡ r / 2 ^ m
  above m =
      ap (λ (x : ℕ). (bit b + 2 * r) / x) (pow-succ' 2 m) ∙ sym (div-div-eq-div-mul (bit b + 2 * r) 2 (2 ^ m)) ∙ ap (λ (x : ℕ). x / 2 ^ m) half

module _ (f : ℕ → Bool) where
  -- one bit more, at the top
  low_top : (i n : ℕ) → low f i (suc n) ≡ bit (f (i + n)) * 2 ^ n + low f i n
  unfolding low
  low_top i zero = rw (add-zero i) (omega arith)
  low_top i (suc n) =
      let j : suc i + n ≡ i + suc n = suc-add i n ∙ sym (add-suc i n) in
      ap (λ (x : ℕ). bit (f i) + 2 * x) (low_top (suc i) n ∙ ap (λ (k : ℕ). bit (f k) * 2 ^ n + low f (suc i) n) j)
      ∙ twice (bit (f i)) (bit (f (i + suc n))) (2 ^ n) (low f (suc i) n)
      ∙ ap (λ (x : ℕ). bit (f (i + suc n)) * x + (bit (f i) + 2 * low f (suc i) n)) (sym (pow-suc 2 n))
    where
      twice : (a d p r : ℕ) → a + 2 * (d * p + r) ≡ d * (p * 2) + (a + 2 * r)
      twice a d p r = omega arith

  number_low : (n : ℕ) → number f n ≡ low f 0 n
  unfolding number low
  number_low zero = refl
  number_low (suc n) = sym (low_top 0 n ∙ ap₂ (λ (x y : ℕ). bit (f x) * 2 ^ n + y) (omega arith) (sym (number_low n)))

  -- ---- each bit

  bit_at : (i n m : ℕ) → m < n → low f i n / 2 ^ m % 2 ≡ bit (f (i + m))
  unfolding low
  bit_at i zero m h = absurd (not-suc-le-zero h)
  bit_at i (suc n) zero h =
      ap (λ (x : ℕ). x % 2) (div-one (low f i (suc n))) ∙ lowest (f i) (low f (suc i) n) ∙ ap (λ (k : ℕ). bit (f k)) (sym (add-zero i))
  bit_at i (suc n) (suc m) h =
      ap (λ (x : ℕ). x % 2) (above (f i) (low f (suc i) n) m)
      ∙ bit_at (suc i) n m (le_of_suc-le-suc h)
      ∙ ap (λ (k : ℕ). bit (f k)) (suc-add i m ∙ sym (add-suc i m))

  digit_is : (n m : ℕ) → m < n → number f n / 2 ^ m % 2 ≡ bit (f m)
  digit_is n m h = ap (λ (x : ℕ). x / 2 ^ m % 2) (number_low n) ∙ bit_at 0 n m h ∙ ap (λ (k : ℕ). bit (f k)) (omega arith)

  -- the bit m says whether the test passes at m
  pub number_bit : (n m : ℕ) → m < n → (number f n / 2 ^ m % 2 ≡ 1) ↔ T (f m)
  number_bit n m h = let e = digit_is n m h in (λ d. (bit_true (f m)).0 (sym e ∙ d), λ t. e ∙ (bit_true (f m)).1 t)

  pub number_has : (n m : ℕ) → m < n → has_bit (number f n) m ≡ f m
  unfolding has_bit
  number_has n m h = ap (λ (x : ℕ). eqb x 1) (digit_is n m h) ∙ bit_test (f m)

  -- there are no digits above them
  pub number_below : (n : ℕ) → number f n < 2 ^ n
  unfolding number
  number_below zero = suc-le-suc zero-le
  number_below (suc n) = rw pow-suc (go (f n) (number_below n))
    where
      go : {p r : ℕ} (b : Bool) → r < p → bit b * p + r < p * 2
      go true h = omega arith
      go false h = omega arith

  -- ---- how many digits are 1

  ones_low : (i n : ℕ) → ones (low f i n) ≡ count (tab_from f i n)
  unfolding low tab_from
  ones_low i zero = ones-ones 0
  ones_low i (suc n) =
      ones_step (low f i (suc n))
      ∙ ap₂ (λ (x y : ℕ). x + ones y) (lowest (f i) (low f (suc i) n)) (half (f i) (low f (suc i) n))
      ∙ ap (λ (x : ℕ). bit (f i) + x) (ones_low (suc i) n)
      ∙ one_more (f i)
    where
      one_more : (b : Bool) → bit b + count (tab_from f (suc i) n) ≡ count (b ∷ tab_from f (suc i) n)
      one_more true = omega arith
      one_more false = omega arith

  pub number_ones : (n : ℕ) → ones (number f n) ≡ count (tab f n)
  number_ones n = ap ones (number_low n) ∙ ones_low 0 n

  -- ---- the lowest bit that is 1

  trailing_low : (i n : ℕ) → i + count_trailing_zeros n (low f i n) ≡ seek f itself itself i n
  unfolding low seek count_trailing_zeros
  trailing_low i zero = add-zero i
  trailing_low i (suc n) =
      ap₂ (λ (x y : ℕ). i + under x (count_trailing_zeros n y)) (lowest (f i) (low f (suc i) n)) (half (f i) (low f (suc i) n))
      ∙ go (count_trailing_zeros n (low f (suc i) n)) (f i) (trailing_low (suc i) n)
    where
      go : (t : ℕ) {s : ℕ} (b : Bool) → suc i + t ≡ s → i + under (bit b) t ≡ cond b i s
      go t true e = add-zero i
      go t false e = omega arith

  pub number_lowest : (n : ℕ) → count_trailing_zeros n (number f n) ≡ first f n
  number_lowest n = ap (count_trailing_zeros n) (number_low n) ∙ omega (arith, trailing_low 0 n)

  -- ---- a loop that adds the moves from the lowest on

  number_none : number f 0 ≡ 0
  unfolding number
  number_none = refl

  pub number_next : (m : ℕ) → number f (m + 1) ≡ bit (f m) * 2 ^ m + number f m
  unfolding number
  number_next m = rw add-one

-- ---- two tests

pub number_same : (f g : ℕ → Bool) (n : ℕ) → ((m : ℕ) → m < n → f m ≡ g m) → number f n ≡ number g n
unfolding number
number_same f g zero e = refl
number_same f g (suc n) e = ap₂ (λ (b : Bool) (x : ℕ). bit b * 2 ^ n + x) (e n (omega arith)) (number_same f g n (λ m h. e m (omega arith)))

-- bits that are off add nothing
pub number_skip : (f : ℕ → Bool) (m n : ℕ) → m ≤ n → ((i : ℕ) → m ≤ i → i < n → f i ≡ false) → number f n ≡ number f m
unfolding number
number_skip f m zero h off = let e : 0 ≡ m = omega arith in ap (number f) e
number_skip f m (suc n) h off =
    ⊎_elim
    (λ (e : m ≡ suc n). ap (number f) (sym e))
    (λ (l : m < suc n).
    let none : bit (f n) * 2 ^ n + number f n ≡ number f n = rw (off n (omega arith) (omega arith)) (omega arith) in
    none ∙ number_skip f m n (omega arith) (λ i k j. off i k (omega arith)))
    (eq-or-lt_of_le h)

-- a test that no move passes
pub number_off : (f : ℕ → Bool) (n : ℕ) → ((m : ℕ) → m < n → f m ≡ false) → number f n ≡ 0
number_off f n off = number_skip f 0 n zero-le (λ i l h. off i h) ∙ number_none f
