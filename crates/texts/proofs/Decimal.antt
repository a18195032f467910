-- The digits of a number are the number in decimal, and no other list is. Assumes nothing.
use Prim.Native.Nat.{ℕ, zero, suc, ◌+◌, ◌-◌, ◌*◌, ◌/◌, ◌%◌, ◌≤◌, ◌<◌}
use native.Mathlib.Nat.{le_refl}
use native.Mathlib.Omega.{arith}
use mathlib.Core.Path.{◌≡◌, refl, sym, ap, subst, ◌∙◌}
use mathlib.Core.Logic.{◌⊎◌, inl, inr}
use mathlib.Core.Bool.{true, ◌&&◌, and-true, and_assoc}
use mathlib.Core.List.{List, [], ◌∷◌, ◌++◌}
use lib.ListN.{length, get_or, take, length-append, length-take}
use lib.Seq.{take-suc, take_all}
use lib.Dec.{T, leb, leb→le, le→leb}
use Rattle.lists.specs.Lists.{all}
use Rattle.lists.proofs.Bools.{and_in, and_left, and_right}
use Rattle.lists.proofs.Rest.{le_or_lt}
use Rattle.texts.specs.Text.{digit, decimal, value_of, is_digit, InDecimal}
use Rattle.texts.proofs.Digits.{decimal_small, decimal_more}

-- ---- one digit more at the end

module _ (d : ℕ) where
  value_snoc : (l : List ℕ) (v : ℕ) → value_of (l ++ (d ∷ [])) v ≡ 10 * value_of l v + (d - 48)
  value_snoc [] v = refl
  value_snoc (x ∷ l) v = value_snoc l (10 * v + (x - 48))

  all_snoc : (l : List ℕ) → all is_digit (l ++ (d ∷ [])) ≡ (all is_digit l && is_digit d)
  all_snoc [] = and-true (is_digit d)
  all_snoc (x ∷ l) = rw (all_snoc l) (sym (and_assoc (is_digit x) (all is_digit l) (is_digit d)))

  all_front : (l : List ℕ) → T (all is_digit (l ++ (d ∷ []))) → T (all is_digit l)
  all_front l t = and_left (all is_digit l) (is_digit d) (rw (all_snoc l) at t)

  all_last : (l : List ℕ) → T (all is_digit (l ++ (d ∷ []))) → T (is_digit d)
  all_last l t = and_right (all is_digit l) (is_digit d) (rw (all_snoc l) at t)

  first_snoc : (l : List ℕ) → 0 < length l → get_or (l ++ (d ∷ [])) 0 0 ≡ get_or l 0 0
  first_snoc [] h = absurd (omega arith)
  first_snoc (x ∷ l) h = refl

-- ---- one digit

a_digit : (d : ℕ) → d < 10 → T (is_digit (digit d))
a_digit d h = and_in (leb 48 (48 + d)) (leb (48 + d) 57) (le→leb 48 (48 + d) (omega arith)) (le→leb (48 + d) 57 (omega arith))

digit_range : (d : ℕ) → T (is_digit d) → (48 ≤ d) × (d ≤ 57)
digit_range d t = (leb→le 48 d (and_left (leb 48 d) (leb d 57) t), leb→le d 57 (and_right (leb 48 d) (leb d 57) t))

-- ---- the first digit and the value: not 0 with one another

value_grows : (l : List ℕ) (v : ℕ) → v ≤ value_of l v
value_grows [] v = le_refl v
value_grows (x ∷ l) v = omega (arith, value_grows l (10 * v + (x - 48)))

lead_positive : (l : List ℕ) → 48 < get_or l 0 0 → 0 < value_of l 0
lead_positive [] h = absurd (omega arith)
lead_positive (x ∷ l) h = omega (arith, value_grows l (10 * 0 + (x - 48)))

positive_lead : (l : List ℕ) → (1 < length l → 48 < get_or l 0 0) → 0 < value_of l 0 → 48 < get_or l 0 0
positive_lead [] h p = absurd (omega arith)
positive_lead (x ∷ []) h p = omega arith
positive_lead (x ∷ y ∷ l) h p = h (omega arith)

-- ---- `decimal n` is n in decimal

small_is : (n : ℕ) → n < 10 → InDecimal n (digit n ∷ [])
small_is n h =
    record {
      value = omega arith;
      digits = and_in (is_digit (digit n)) true (a_digit n h) tt;
      some = omega arith;
      lead = λ p. absurd (omega arith);
    }

more_is : (n : ℕ) (l : List ℕ) → 10 ≤ n → InDecimal (n / 10) l → InDecimal n (l ++ (digit (n % 10) ∷ []))
more_is n l h i =
    record {
      value = value_snoc (digit (n % 10)) l 0 ∙ omega (arith, i.value);
      digits = rw (all_snoc (digit (n % 10)) l) (and_in (all is_digit l) (is_digit (digit (n % 10))) i.digits (a_digit (n % 10) (omega arith)));
      some = simp length-append (omega arith);
      lead = λ p. rw (first_snoc (digit (n % 10)) l i.some) (positive_lead l i.lead (omega (arith, i.value)));
    }

is_below : (k n : ℕ) → n < k → InDecimal n (decimal n)
is_below zero n h = absurd (omega arith)
is_below (suc k) n h = go (is_below k (n / 10)) (le_or_lt 10 n)
  where
    go : (n / 10 < k → InDecimal (n / 10) (decimal (n / 10))) → (10 ≤ n) ⊎ (n < 10) → InDecimal n (decimal n)
    go fewer (inl m) = rw (decimal_more n m) (more_is n (decimal (n / 10)) m (fewer (omega arith)))
    go fewer (inr s) = rw (decimal_small n s) (small_is n s)

pub decimal_is : (n : ℕ) → InDecimal n (decimal n)
decimal_is n = is_below (suc n) n (omega arith)

-- ---- and no other list is

-- a list without its last digit
front_is : (n d : ℕ) (l : List ℕ) → 0 < length l → InDecimal n (l ++ (d ∷ [])) → InDecimal (value_of l 0) l
front_is n d l h i =
    record {
      value = refl;
      digits = all_front d l i.digits;
      some = h;
      lead = λ p. rw (first_snoc d l h) at (i.lead (simp length-append (omega arith)));
    }

more_only :
    (n d : ℕ) (l : List ℕ) → 0 < length l → InDecimal n (l ++ (d ∷ [])) → l ≡ decimal (value_of l 0)
    → l ++ (d ∷ []) ≡ decimal n
more_only n d l h i e =
    let f : 48 < get_or l 0 0 = rw (first_snoc d l h) at (i.lead (simp length-append (omega arith))) in
    let p : 0 < value_of l 0 = lead_positive l f in
    let r = digit_range d (all_last d l i.digits) in
    let v : 10 * value_of l 0 + (d - 48) ≡ n = sym (value_snoc d l 0) ∙ i.value in
    let q : value_of l 0 ≡ n / 10 = omega arith in
    let s : d ≡ digit (n % 10) = omega arith in
    ap (λ (z : List ℕ). z ++ (d ∷ [])) (e ∙ ap decimal q) ∙ rw s (sym (decimal_more n (omega arith)))

only : (k n : ℕ) (l : List ℕ) → length l ≡ suc k → InDecimal n l → l ≡ decimal n
only zero n [] e i = absurd (omega arith)
only zero n (x ∷ []) e i =
    let r = digit_range x (and_left (is_digit x) true i.digits) in
    let s : x ≡ digit n = omega (arith, i.value) in
    rw s (sym (decimal_small n (omega (arith, i.value))))
only zero n (x ∷ y ∷ l) e i = absurd (omega arith)
only (suc k) n l e i =
    let f = take (suc k) l in
    let d = get_or l (suc k) 0 in
    let s : l ≡ f ++ (d ∷ []) = sym (take_all (suc (suc k)) l (omega arith)) ∙ take-suc l (suc k) 0 (omega arith) in
    let m : length f ≡ suc k = simp length-take (omega arith) in
    let j : InDecimal n (f ++ (d ∷ [])) = subst (InDecimal n) s i in
    s ∙ more_only n d f (omega arith) j (only k (value_of f 0) f m (front_is n d f (omega arith) j))

pub decimal_only : (n : ℕ) (l : List ℕ) → InDecimal n l → l ≡ decimal n
decimal_only n [] i = absurd (omega (arith, i.some))
decimal_only n (x ∷ l) i = only (length l) n (x ∷ l) refl i
