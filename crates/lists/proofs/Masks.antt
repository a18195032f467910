-- The digits of a mask: of `&`, `|`, `^` and `!`, of shifts, of the masks of all numbers below a bound and of one number, and the lowest one.
-- Assumes nothing.
use mathlib.Core.Path.{◌≡◌, refl, sym, ap, ◌∙◌}
use mathlib.Core.Bool.{Bool, true, false, not, ◌&&◌, ◌||◌, true≢false}
use Prim.Native.Nat.{ℕ, zero, suc, ◌+◌, ◌-◌, ◌*◌, ◌/◌, ◌%◌, ◌^◌, ◌≤◌, ◌<◌, min, max}
use native.Mathlib.Nat.{div-eq_of_lt, div-one, lt_of_lt_of_le, add_comm, mul-div_cancel, mul_assoc, pow-suc, mul-mod_left, mod-eq_of_lt}
use native.Mathlib.Omega.{arith}
use native.Mathlib.Decide.{ℕ_discrete}
use lib.Arith.{digits_mod}
use lib.Dec.{eqb, leb, ltb}
use lib.Bits.{bit_and, bit_or, bit_xor, differ, and_step, or_step, xor_step, and_shr, or_shr, xor_shr, and_mask, and_comm, xor_add_and}
use lib.Pow.{pow_pos, pow_mono, pow-add, shr-shr, ones_split, ones_lt, high}
use lib.Count.{count_trailing_zeros, under}
use borrow.Author.Tests.{lt-ltb, le-ltb, le-leb, lt-leb, eqb-true, eq-eqb, ne_eqb}
use mathlib.Core.Logic.{◌↔◌, ⊎_elim}
use Rattle.lists.specs.Masks.{has_bit}
use Rattle.lists.proofs.Rest.{le_or_lt}

-- ---- two digits

two : (n : ℕ) → n % 2 < 2
two n = omega arith

min_digit : (a b : ℕ) → a < 2 → b < 2 → eqb (min a b) 1 ≡ (eqb a 1 && eqb b 1)
min_digit zero zero h k = refl
min_digit zero (suc zero) h k = refl
min_digit (suc zero) zero h k = refl
min_digit (suc zero) (suc zero) h k = refl
min_digit (suc (suc a)) b h k = absurd (omega arith)
min_digit zero (suc (suc b)) h k = absurd (omega arith)
min_digit (suc zero) (suc (suc b)) h k = absurd (omega arith)

max_digit : (a b : ℕ) → a < 2 → b < 2 → eqb (max a b) 1 ≡ (eqb a 1 || eqb b 1)
max_digit zero zero h k = refl
max_digit zero (suc zero) h k = refl
max_digit (suc zero) zero h k = refl
max_digit (suc zero) (suc zero) h k = refl
max_digit (suc (suc a)) b h k = absurd (omega arith)
max_digit zero (suc (suc b)) h k = absurd (omega arith)
max_digit (suc zero) (suc (suc b)) h k = absurd (omega arith)

-- one of the two, and not both
abbrev differs : Bool → Bool → Bool
differs true b = not b
differs false b = b

differ_digit : (a b : ℕ) → a < 2 → b < 2 → eqb (differ a b) 1 ≡ differs (eqb a 1) (eqb b 1)
differ_digit zero zero h k = refl
differ_digit zero (suc zero) h k = refl
differ_digit (suc zero) zero h k = refl
differ_digit (suc zero) (suc zero) h k = refl
differ_digit (suc (suc a)) b h k = absurd (omega arith)
differ_digit zero (suc (suc b)) h k = absurd (omega arith)
differ_digit (suc zero) (suc (suc b)) h k = absurd (omega arith)

differ_lt : (a b : ℕ) → a < 2 → b < 2 → differ a b < 2
differ_lt zero b h k = k
differ_lt (suc a) zero h k = h
differ_lt (suc zero) (suc zero) h k = omega arith
differ_lt (suc (suc a)) (suc b) h k = absurd (omega arith)
differ_lt (suc zero) (suc (suc b)) h k = absurd (omega arith)

digit_same : (a b : ℕ) → a < 2 → b < 2 → eqb a 1 ≡ eqb b 1 → a ≡ b
digit_same zero zero h k e = refl
digit_same zero (suc zero) h k e = absurd (true≢false (sym e))
digit_same (suc zero) zero h k e = absurd (true≢false e)
digit_same (suc zero) (suc zero) h k e = refl
digit_same (suc (suc a)) b h k e = absurd (omega arith)
digit_same zero (suc (suc b)) h k e = absurd (omega arith)
digit_same (suc zero) (suc (suc b)) h k e = absurd (omega arith)

-- a digit is 1 exactly if the mask has the level
pub bit_is : (m l : ℕ) → (has_bit m l ≡ true) ↔ (m / 2 ^ l % 2 ≡ 1)
unfolding has_bit
bit_is m l = (eqb-true (m / 2 ^ l % 2) 1, eq-eqb (m / 2 ^ l % 2) 1)

-- ---- the operations

module _ (a b l : ℕ) where
  x : ℕ
  x = a / 2 ^ l

  y : ℕ
  y = b / 2 ^ l

  pub bit-and : has_bit (bit_and a b) l ≡ (has_bit a l && has_bit b l)
  unfolding has_bit x y
  bit-and =
      ap (λ (n : ℕ). eqb (n % 2) 1) (and_shr a b l ∙ and_step x y)
      ∙ ap (λ (n : ℕ). eqb n 1) (digits_mod (bit_and (x / 2) (y / 2)) (omega (arith, two x, two y)))
      ∙ min_digit (x % 2) (y % 2) (two x) (two y)

  pub bit-or : has_bit (bit_or a b) l ≡ (has_bit a l || has_bit b l)
  unfolding has_bit x y
  bit-or =
      ap (λ (n : ℕ). eqb (n % 2) 1) (or_shr a b l ∙ or_step x y)
      ∙ ap (λ (n : ℕ). eqb n 1) (digits_mod (bit_or (x / 2) (y / 2)) (omega (arith, two x, two y)))
      ∙ max_digit (x % 2) (y % 2) (two x) (two y)

  pub bit-xor : has_bit (bit_xor a b) l ≡ differs (has_bit a l) (has_bit b l)
  unfolding has_bit x y
  bit-xor =
      ap (λ (n : ℕ). eqb (n % 2) 1) (xor_shr a b l ∙ xor_step x y)
      ∙ ap (λ (n : ℕ). eqb n 1) (digits_mod (bit_xor (x / 2) (y / 2)) (differ_lt (x % 2) (y % 2) (two x) (two y)))
      ∙ differ_digit (x % 2) (y % 2) (two x) (two y)

-- ---- shifts

pub bit_shr : (m k l : ℕ) → has_bit (m / 2 ^ k) l ≡ has_bit m (l + k)
unfolding has_bit
bit_shr m k l = ap (λ (n : ℕ). eqb (n % 2) 1) (shr-shr m k l ∙ ap (λ (n : ℕ). m / 2 ^ n) (add_comm k l))

-- no digit from w on
pub bit_above : (m w l : ℕ) → m < 2 ^ w → w ≤ l → has_bit m l ≡ false
unfolding has_bit
bit_above m w l h k = ap (λ (n : ℕ). eqb (n % 2) 1) (div-eq_of_lt (lt_of_lt_of_le h (pow_mono k)))

shl_far : (m k d : ℕ) → has_bit (m * 2 ^ k) (k + d) ≡ has_bit m d
unfolding has_bit
shl_far m k d = ap (λ (n : ℕ). eqb (n % 2) 1) (sym (shr-shr (m * 2 ^ k) k d) ∙ ap (λ (n : ℕ). n / 2 ^ d) (mul-div_cancel m (pow_pos k)))

shl_near : (m d l : ℕ) → has_bit (m * 2 ^ (suc d + l)) l ≡ false
unfolding has_bit
shl_near m d l =
    ap (λ (n : ℕ). eqb (n % 2) 1)
    (ap (λ (n : ℕ). n / 2 ^ l) (ap (λ (n : ℕ). m * n) (pow-add 2 (suc d) l) ∙ sym (mul_assoc m (2 ^ suc d) (2 ^ l)))
    ∙ mul-div_cancel (m * 2 ^ suc d) (pow_pos l)
    ∙ ap (λ (n : ℕ). m * n) (pow-suc 2 d) ∙ sym (mul_assoc m (2 ^ d) 2))
    ∙ ap (λ (n : ℕ). eqb n 1) (mul-mod_left (m * 2 ^ d) 2)

pub bit_shl : (m k l : ℕ) → has_bit (m * 2 ^ k) l ≡ (leb k l && has_bit m (l - k))
bit_shl m k l = ⊎_elim far near (le_or_lt k l)
  where
    far : k ≤ l → has_bit (m * 2 ^ k) l ≡ (leb k l && has_bit m (l - k))
    far h =
        let e : k + (l - k) ≡ l = omega arith in
        rw (le-leb k l h) (ap (has_bit (m * 2 ^ k)) (sym e) ∙ shl_far m k (l - k))

    near : l < k → has_bit (m * 2 ^ k) l ≡ (leb k l && has_bit m (l - k))
    near h =
        let e : suc (k - suc l) + l ≡ k = omega arith in
        rw (lt-leb k l h) (ap (λ (n : ℕ). has_bit (m * 2 ^ n) l) (sym e) ∙ shl_near m (k - suc l) l)

-- ---- all digits below w

pub bit_ones : (w l : ℕ) → has_bit (2 ^ w - 1) l ≡ ltb l w
unfolding has_bit
bit_ones w l = ⊎_elim above below (le_or_lt w l)
  where
    above : w ≤ l → has_bit (2 ^ w - 1) l ≡ ltb l w
    above h = bit_above (2 ^ w - 1) w l (ones_lt w) h ∙ sym (le-ltb l w h)

    odd : (p : ℕ) → 1 ≤ p → (p * 2 - 1) % 2 ≡ 1
    odd p h = omega arith

    shown : (d : ℕ) → has_bit (2 ^ (suc d + l) - 1) l ≡ true
    shown d =
        ap (λ (n : ℕ). eqb (n % 2) 1)
        (ap (λ (n : ℕ). n / 2 ^ l) (ones_split (suc d) l) ∙ high (2 ^ suc d - 1) l (ones_lt l) ∙ ap (λ (n : ℕ). n - 1) (pow-suc 2 d))
        ∙ ap (λ (n : ℕ). eqb n 1) (odd (2 ^ d) (pow_pos d))

    below : l < w → has_bit (2 ^ w - 1) l ≡ ltb l w
    below h =
        let e : suc (w - suc l) + l ≡ w = omega arith in
        rw (lt-ltb l w h) (ap (λ (n : ℕ). has_bit (2 ^ n - 1) l) (sym e) ∙ shown (w - suc l))

-- the digits below w alone
pub bit_low : (m w l : ℕ) → has_bit (m % 2 ^ w) l ≡ (has_bit m l && ltb l w)
bit_low m w l = ap (λ (n : ℕ). has_bit n l) (sym (and_mask m w)) ∙ bit-and m (2 ^ w - 1) l ∙ ap (λ (b : Bool). has_bit m l && b) (bit_ones w l)

-- ---- without

without : (a b : Bool) → differs a (a && b) ≡ (a && not b)
without true b = refl
without false b = refl

-- `m ^ (m & g)`
pub bit_without : (m g l : ℕ) → has_bit (bit_xor m (bit_and m g)) l ≡ (has_bit m l && not (has_bit g l))
bit_without m g l = bit-xor m (bit_and m g) l ∙ ap (differs (has_bit m l)) (bit-and m g l) ∙ without (has_bit m l) (has_bit g l)

-- `!g` at w digits
pub bit_not : (w g l : ℕ) → g < 2 ^ w → has_bit ((2 ^ w - 1) - g) l ≡ (ltb l w && not (has_bit g l))
bit_not w g l h =
    ap (λ (n : ℕ). has_bit n l) less ∙ bit_without (2 ^ w - 1) g l ∙ ap (λ (b : Bool). b && not (has_bit g l)) (bit_ones w l)
  where
    same : bit_and (2 ^ w - 1) g ≡ g
    same = and_comm (2 ^ w - 1) g ∙ and_mask g w ∙ mod-eq_of_lt h

    less : (2 ^ w - 1) - g ≡ bit_xor (2 ^ w - 1) (bit_and (2 ^ w - 1) g)
    less =
        let e : bit_xor (2 ^ w - 1) g + g * 2 ≡ (2 ^ w - 1) + g = ap (λ (n : ℕ). bit_xor (2 ^ w - 1) g + n * 2) (sym same) ∙ xor_add_and (2 ^ w - 1) g in
        omega arith ∙ ap (bit_xor (2 ^ w - 1)) (sym same)

-- `m & !g` at w digits
pub bit_and_not : (m w g l : ℕ) → m < 2 ^ w → g < 2 ^ w → has_bit (bit_and m ((2 ^ w - 1) - g)) l ≡ (has_bit m l && not (has_bit g l))
bit_and_not m w g l h k = bit-and m ((2 ^ w - 1) - g) l ∙ ap (λ (b : Bool). has_bit m l && b) (bit_not w g l k) ∙ ⊎_elim above below (le_or_lt w l)
  where
    above : w ≤ l → (has_bit m l && (ltb l w && not (has_bit g l))) ≡ (has_bit m l && not (has_bit g l))
    above j = rw (bit_above m w l h j)

    below : l < w → (has_bit m l && (ltb l w && not (has_bit g l))) ≡ (has_bit m l && not (has_bit g l))
    below j = rw (lt-ltb l w j)

-- ---- two masks with the same digits

pub same_bits : (w a b : ℕ) → a < 2 ^ w → b < 2 ^ w → ((l : ℕ) → l < w → has_bit a l ≡ has_bit b l) → a ≡ b
unfolding has_bit
same_bits zero a b h k e = omega arith
same_bits (suc w) a b h k e =
    let p : 2 ^ suc w ≡ 2 ^ w * 2 = pow-suc 2 w in
    let lows : a % 2 ≡ b % 2 = digit_same (a % 2) (b % 2) (two a) (two b) (first_bit a ∙ e 0 (omega arith) ∙ sym (first_bit b)) in
    let highs : a / 2 ≡ b / 2 =
    same_bits w (a / 2) (b / 2) (omega arith) (omega arith) (λ l j. bit_shr a 1 l ∙ e (l + 1) (omega arith) ∙ sym (bit_shr b 1 l)) in
    omega arith
  where
    first_bit : (m : ℕ) → eqb (m % 2) 1 ≡ has_bit m 0
    first_bit m = ap (λ (n : ℕ). eqb (n % 2) 1) (sym (div-one m))

pub bit_zero : (l : ℕ) → has_bit 0 l ≡ false
bit_zero l = bit_above 0 0 l (omega arith) (omega arith)

-- ---- the mask of one number

one_has : (k : ℕ) → has_bit (1 * 2 ^ k) k ≡ true
unfolding has_bit
one_has k =
    let e : k - k ≡ 0 = omega arith in
    bit_shl 1 k k ∙ rw (le-leb k k (omega arith), e)

one_lacks : (k l : ℕ) → (l ≡ k → ⊥) → has_bit (1 * 2 ^ k) l ≡ false
one_lacks k l n = bit_shl 1 k l ∙ ⊎_elim above below (le_or_lt k l)
  where
    above : k ≤ l → (leb k l && has_bit 1 (l - k)) ≡ false
    above h = rw (le-leb k l h) (bit_above 1 1 (l - k) (omega arith) (omega arith))

    below : l < k → (leb k l && has_bit 1 (l - k)) ≡ false
    below h = rw (lt-leb k l h)

pub bit_one : (k l : ℕ) → has_bit (1 * 2 ^ k) l ≡ eqb l k
bit_one k l = pick (ℕ_discrete l k)
  where
    pick : Dec (l ≡ k) → has_bit (1 * 2 ^ k) l ≡ eqb l k
    pick (yes e) = ap (has_bit (1 * 2 ^ k)) e ∙ one_has k ∙ sym (eq-eqb l k e)
    pick (no n) = one_lacks k l n ∙ sym (ne_eqb l k n)

-- ---- the lowest digit that is 1

-- of m, from that of m / 2
above_lowest : (w m t d : ℕ) → 0 < m → m % 2 ≡ d → (0 < m / 2 → (t < w) × (has_bit (m / 2) t ≡ true)) → (under d t < suc w) × (has_bit m (under d t) ≡ true)
above_lowest w m t zero h e rest =
    let r = rest (omega arith) in
    let n : t + 1 ≡ suc t = omega arith in
    (omega (arith, r.0), ap (has_bit m) (sym n) ∙ sym (bit_shr m 1 t) ∙ r.1)
above_lowest w m t (suc d) h e rest =
    let one : m % 2 ≡ 1 = omega arith in
    (omega arith, (bit_is m 0).1 (ap (λ (n : ℕ). n % 2) (div-one m) ∙ one))

pub lowest_bit : (w m : ℕ) → 0 < m → m < 2 ^ w → (count_trailing_zeros w m < w) × (has_bit m (count_trailing_zeros w m) ≡ true)
unfolding count_trailing_zeros
lowest_bit zero m h k = absurd (omega arith)
lowest_bit (suc w) m h k =
    let p : 2 ^ suc w ≡ 2 ^ w * 2 = pow-suc 2 w in
    above_lowest w m (count_trailing_zeros w (m / 2)) (m % 2) h refl (λ z. lowest_bit w (m / 2) z (omega arith))
