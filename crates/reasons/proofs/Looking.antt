-- A look at the moves from one number to another, move by move. Assumes nothing.
use Prim.Native.Nat.{ℕ, ◌+◌, ◌*◌, ◌/◌, ◌%◌, ◌^◌, ◌≤◌, ◌<◌, zero-le}
use native.Mathlib.Omega.{arith}
use mathlib.Core.Path.{◌≡◌, refl, sym, ap, ◌∙◌}
use mathlib.Core.Logic.{⊎_elim}
use mathlib.Core.Bool.{Bool, true, false, ◌&&◌}
use mathlib.Core.List.{List}
use lib.Dec.{leb, eqb}
use borrow.Author.Tests.{le-leb, lt-leb, ne_eqb}
use native.Mathlib.Nat.{eq-or-lt_of_le}
use Rattle.lists.specs.Bits.{bit, number}
use Rattle.lists.proofs.Bools.{and_off}
use Rattle.lists.proofs.Bits.{number_next, number_same, number_off, number_skip}
use Rattle.rules.specs.Configurations.{move_of}
use Rattle.rules.specs.declared.Reason.{Reason}
use Rattle.rules.specs.declared.Reason.TheVariants.{NoWriterRow}
use Rattle.rules.specs.Numbers.{reason_number}
use Rattle.rules.specs.Tools.Computed.{first_of}
use Rattle.rules.proofs.Places.{move_x, move_y}
use Rattle.outcomes.specs.declared.Spot.{Spot}
use Rattle.outcomes.specs.Outcomes.{has_letter, some_on, over_on, under_on, out_on, reason_on}
use Rattle.reasons.specs.declared.Looked.{Looked}
use Rattle.reasons.specs.Reasoning.{NextMove, at_move, zero_from, Looks}

module _ (reason : ℕ → ℕ → Reason) (first end : ℕ) where
  -- the moves below m are looked at: the set holds those of them that are allowed; past the end none is, and there the last reason is the end's
  pub record LooksTo (m set : ℕ) (last : Reason) : Type 0 where
    pub from_first : first ≤ m
    pub set_is : set ≡ number (zero_from reason first) m
    pub none_past : (i : ℕ) → end ≤ i → i < m → zero_from reason first i ≡ false
    pub last_is : (i : ℕ) → first ≤ i → i < m → end ≤ i + 1 → last ≡ at_move reason i

  pub looks_none : (last : Reason) → LooksTo first 0 last
  looks_none last = record {
    from_first = omega arith;
    set_is = sym (number_off (zero_from reason first) first (λ m h. ap (λ (b : Bool). b && eqb (reason_number (at_move reason m)) 0) (lt-leb first m h)));
    none_past = λ i e h. ap (λ (b : Bool). b && eqb (reason_number (at_move reason i)) 0) (lt-leb first i h);
    last_is = λ i l h e. absurd (omega arith);
  }

  -- no move of a letter has a row of the writer if one has none
  module _ (letters : (i j : ℕ) → i / 8 ≡ j / 8 → at_move reason i ≡ NoWriterRow → at_move reason j ≡ NoWriterRow) (m : ℕ) (inside : m < end) where
    skipped : {last : Reason} {next : ℕ} → last ≡ at_move reason m → NextMove m last next → (i : ℕ) → m < i → i < next → last ≡ at_move reason i
    skipped told n i l h = let s = n.skips i l h in s.0 ∙ sym (letters m i (sym s.1) (sym told ∙ s.0))

    skipped_off : {last : Reason} {next : ℕ} → last ≡ at_move reason m → NextMove m last next → (i : ℕ) → m < i → i < next → zero_from reason first i ≡ false
    skipped_off told n i l h = and_off (leb first i) _ (λ e. ne_eqb _ 0 (λ q. two_not (sym (skipped told n i l h) ∙ (n.skips i l h).0) q))
      where
        two_not : {a : Reason} → a ≡ NoWriterRow → reason_number a ≡ 0 → ⊥
        two_not e z = omega (arith, ap reason_number e, z)

    pub looks_more : {set more next : ℕ} {last again : Reason} {t : Bool} → LooksTo m set last → again ≡ at_move reason m → t ≡ eqb (reason_number again) 0
        → more ≡ bit t * 2 ^ m + set → NextMove m again next → LooksTo next more again
    looks_more {set} {more} {next} {last} {again} s told zero adds n = record {
      from_first = omega (arith, s.from_first, n.later);
      set_is =
          adds ∙ rw (zero, told, s.set_is) at_m
          ∙ sym (number_next (zero_from reason first) m)
          ∙ sym (number_skip (zero_from reason first) (m + 1) next (omega (arith, n.later)) (λ i l h. skipped_off told n i (omega arith) h));
      none_past = λ i e h. skipped_off told n i (omega arith) h;
      last_is = λ i l h e.
          ⊎_elim (λ (q : m ≡ i). told ∙ ap (at_move reason) q) (λ (q : m < i). skipped told n i q h) (eq-or-lt_of_le (omega arith));
    }
      where
        at_m : bit (eqb (reason_number (at_move reason m)) 0) * 2 ^ m + number (zero_from reason first) m
            ≡ bit (zero_from reason first m) * 2 ^ m + number (zero_from reason first) m
        at_m = rw (le-leb first m s.from_first)

  pub looks_all : {m : ℕ} {z : Looked} → end ≤ m → LooksTo m z.set z.reason → Looks reason first end z
  looks_all {m} h s = record {
    set_is = s.set_is ∙ number_skip (zero_from reason first) end m h (λ i l k. s.none_past i l k);
    last_is = λ i l e. s.last_is i l (omega arith) (omega arith);
  }

  pub looks_same : {other : ℕ → ℕ → Reason} {z : Looked} → ((x y : ℕ) → reason x y ≡ other x y) → Looks reason first end z → Looks other first end z
  looks_same same s = record {
    set_is = s.set_is ∙ number_same _ _ end (λ m h. ap (λ (r : Reason). leb first m && eqb (reason_number r) 0) (same (m / 8) (m % 8)));
    last_is = λ m l e. s.last_is m l e ∙ same (m / 8) (m % 8);
  }

-- ---- a look at one move, and at all

pub looked_reason : (reason : ℕ → ℕ → Reason) (x y : ℕ) {z : Looked} → y < 8 → Looks reason (move_of x y) (move_of x y + 1) z
    → z.reason ≡ reason x y
looked_reason reason x y hy s = s.last_is (move_of x y) (omega arith) refl ∙ rw (sym (move_x x hy), sym (move_y x hy))

pub looked_set : (reason : ℕ → ℕ → Reason) {z : Looked} → Looks reason 0 64 z → z.set ≡ number (λ m. eqb (reason_number (at_move reason m)) 0) 64
looked_set reason s = s.set_is ∙ number_same _ _ 64 (λ m h. ap (λ (b : Bool). b && eqb (reason_number (at_move reason m)) 0) (le-leb 0 m zero-le))

-- ---- over the columns a letter without a writer's row has none

module _ (w r : List ℕ) (s : Spot) (k : List ℕ) where
  two_none : (a b c d e : Bool) → first_of true a b c d e ≡ NoWriterRow → a ≡ false
  two_none false b c d e q = refl
  two_none true false c d e q = cc
  two_none true true true d e q = cc
  two_none true true false true e q = cc
  two_none true true false false true q = cc
  two_none true true false false false q = cc

  same_letter : (x y v : ℕ) → reason_on w r s k x y ≡ NoWriterRow → reason_on w r s k x v ≡ NoWriterRow
  unfolding reason_on
  same_letter x y v e =
      let none : has_letter w x s.writer ≡ false =
      two_none (has_letter w x s.writer) (has_letter r y s.reader)
      (some_on w r s x y (over_on w r s)) (some_on w r s x y (under_on w r s)) (some_on w r s x y (out_on w r s k)) e in
      rw none

  pub letter_two : (i j : ℕ) → i / 8 ≡ j / 8 → at_move (reason_on w r s k) i ≡ NoWriterRow → at_move (reason_on w r s k) j ≡ NoWriterRow
  letter_two i j e q = rw (sym e) (same_letter (i / 8) (i % 8) (j % 8) q)
