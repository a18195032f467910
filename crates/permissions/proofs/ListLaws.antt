-- A permission list in bytes: what its bytes say is wrong with it, and the digits of a set of moves that stands there big-endian.
-- Assumes nothing.
use mathlib.Core.Path.{◌≡◌, refl, sym, ap, ◌∙◌}
use mathlib.Core.Logic.{⊎_elim}
use mathlib.Core.Bool.{Bool, true, false, not, ◌&&◌, ◌||◌}
use mathlib.Core.List.{List, [], ◌∷◌}
use Prim.Native.Nat.{ℕ, zero, suc, ◌+◌, ◌-◌, ◌*◌, ◌/◌, ◌%◌, ◌^◌, ◌≤◌, ◌<◌}
use native.Mathlib.Numerals.{add-one}
use native.Mathlib.Omega.{arith}
use lib.Dec.{eqb, ltb}
use lib.ListN.{length}
use lib.Pow.{pow-add}
use borrow.Author.Tests.{lt-ltb, le-ltb, eq-eqb, ne_eqb, eqb-true, not-false}
use Rattle.std.proofs.Common.{lit<, w64}
use Rattle.std.specs.Int.{from_be_bytes}
use Rattle.lists.specs.Masks.{has_bit}
use Rattle.lists.proofs.Bools.{or_none}
use Rattle.lists.proofs.Masks.{bit_shr, bit_low}
use Rattle.lists.proofs.Rest.{le_or_lt}
use Rattle.format.specs.Format.{byte, version_in, length_in}
use Rattle.format.specs.Verdicts.{verdict_of, Fine}
use Rattle.format.proofs.Verdicts.{fine_silent}
use Rattle.calls.specs.Lists.{big_endian, set_at, list_wrong, list_check}

-- ---- what is wrong

or_later : (a b : Bool) → true ≡ b → true ≡ (a || b)
or_later true b e = refl
or_later false b e = e

or_first : (a b : Bool) → a ≡ true → true ≡ (a || b)
or_first a b e = rw e

module _ (n : ℕ) (list : List ℕ) where
  pub wrong_version : (version_in list ≡ 1 → ⊥) → true ≡ list_wrong n list
  wrong_version h = rw (ne_eqb (version_in list) 1 h)

  pub wrong_short : length list < 3 → true ≡ list_wrong n list
  wrong_short h = or_later (not (eqb (version_in list) 1)) _ (or_first (ltb (length list) 3) _ (lt-ltb (length list) 3 h))

  pub wrong_count : (length_in list + 3 ≡ length list → ⊥) → true ≡ list_wrong n list
  wrong_count h =
      or_later (not (eqb (version_in list) 1)) _
      (or_later (ltb (length list) 3) _
      (or_first (not (eqb (length_in list + 3) (length list))) _ (ap not (ne_eqb (length_in list + 3) (length list) h))))

  -- where nothing else is wrong
  pub wrong_sets : (count : ℕ) → version_in list ≡ 1 → 3 ≤ length list → count ≡ length_in list → count + 3 ≡ length list
      → not (eqb count (8 * n)) ≡ list_wrong n list
  wrong_sets count v h c l =
      let e : length_in list + 3 ≡ length list = omega arith in
      rw (eq-eqb (version_in list) 1 v, le-ltb (length list) 3 h, eq-eqb (length_in list + 3) (length list) e, c)

  -- a list with nothing wrong has its three bytes and n sets
  module _ (fine : verdict_of (list_check n list ∷ []) ≡ Fine) where
    nothing_wrong : list_wrong n list ≡ false
    nothing_wrong = (fine_silent (list_check n list ∷ []) fine).0

    pub list_long : length list ≡ 3 + 8 * n
    list_long =
        let rest = (or_none (not (eqb (version_in list) 1)) _ nothing_wrong).1 in
        let last = or_none (not (eqb (length_in list + 3) (length list))) _ (or_none (ltb (length list) 3) _ rest).1 in
        let count : length_in list + 3 ≡ length list = eqb-true _ _ (not-false _ last.0) in
        let sets : length_in list ≡ 8 * n = eqb-true _ _ (not-false _ last.1) in
        omega arith

    pub set_there : (p : ℕ) → p < n → 3 + 8 * (p + 1) ≤ length list
    set_there p h = omega (arith, list_long)

-- ---- a number of one byte more

module _ (x b : ℕ) (small : b < 256) where
  bit_in_last : (l : ℕ) → l < 8 → has_bit (256 * x + b) l ≡ has_bit b l
  bit_in_last l h =
      let e : (256 * x + b) % 256 ≡ b = omega arith in
      sym (same (has_bit (256 * x + b) l)) ∙ sym (bit_low (256 * x + b) 8 l) ∙ ap (λ (n : ℕ). has_bit n l) e
    where
      same : (a : Bool) → (a && ltb l 8) ≡ a
      same true = lt-ltb l 8 h
      same false = refl

  bit_before : (l : ℕ) → has_bit (256 * x + b) (l + 8) ≡ has_bit x l
  bit_before l =
      let e : (256 * x + b) / 256 ≡ x = omega arith in
      sym (bit_shr (256 * x + b) 8 l) ∙ ap (λ (n : ℕ). has_bit n l) e

-- ---- a number in bytes

bytes_more : (n x b : ℕ) → x < 2 ^ (8 * n) → b < 256 → 256 * x + b < 2 ^ (8 * (n + 1))
bytes_more n x b h small =
    let e : 8 * (n + 1) ≡ 8 * n + 8 = omega arith in
    let d : 2 ^ (8 * (n + 1)) ≡ 2 ^ (8 * n) * 2 ^ 8 = ap (λ (k : ℕ). 2 ^ k) e ∙ pow-add 2 (8 * n) 8 in
    omega arith

module _ (bs : List ℕ) (bytes : (i : ℕ) → byte bs i < 256) where
  big_lt : (at n : ℕ) → big_endian bs at n < 2 ^ (8 * n)
  big_lt at zero = omega arith
  big_lt at (suc n) = rw (sym (add-one n)) (bytes_more n (big_endian bs at n) (byte bs (at + n)) (big_lt at n) (bytes (at + n)))

  -- digit m stands in the byte i, counted from the last
  big_bit : (at n m i : ℕ) → m < 8 * n → i + (m / 8 + 1) ≡ at + n → has_bit (big_endian bs at n) m ≡ has_bit (byte bs i) (m % 8)
  big_bit at zero m i h e = absurd (omega arith)
  big_bit at (suc n) m i h e =
      ⊎_elim
      (λ (a : 8 ≤ m).
      let r : m - 8 + 8 ≡ m = omega arith in
      let d : (m - 8) % 8 ≡ m % 8 = omega arith in
      ap (has_bit (big_endian bs at (suc n))) (sym r)
      ∙ bit_before (big_endian bs at n) (byte bs (at + n)) (bytes (at + n)) (m - 8)
      ∙ big_bit at n (m - 8) i (omega arith) (omega arith)
      ∙ ap (has_bit (byte bs i)) d)
      (λ (a : m < 8).
      let r : at + n ≡ i = omega arith in
      let d : m ≡ m % 8 = omega arith in
      bit_in_last (big_endian bs at n) (byte bs (at + n)) (bytes (at + n)) m a
      ∙ ap (λ (k : ℕ). has_bit (byte bs k) m) r
      ∙ ap (has_bit (byte bs i)) d)
      (le_or_lt 8 m)

  -- ---- the set of a place

  pub set_lt : (p : ℕ) → set_at bs p < 2 ^ 64
  unfolding set_at
  set_lt p = big_lt (3 + 8 * p) 8

  pub set_bit : (p m : ℕ) → m < 64 → has_bit (byte bs (3 + 8 * p + 7 - m / 8)) (m % 8) ≡ has_bit (set_at bs p) m
  unfolding set_at
  set_bit p m h = sym (big_bit (3 + 8 * p) 8 m (3 + 8 * p + 7 - m / 8) (omega arith) (omega arith))

-- the eight bytes of a place, as a number
pub set_from : (list bytes : List ℕ) (p : ℕ) → ((i : ℕ) → i < 8 → byte bytes i ≡ byte list (3 + 8 * p + i)) → from_be_bytes w64 bytes ≡ set_at list p
unfolding set_at
set_from list bytes p at =
    omega (arith, at 0 (lit< tt), at 1 (lit< tt), at 2 (lit< tt), at 3 (lit< tt), at 4 (lit< tt), at 5 (lit< tt), at 6 (lit< tt), at 7 (lit< tt))
