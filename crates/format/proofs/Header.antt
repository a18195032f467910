-- The tests of a header as facts on numbers, and the verdict on a header, line by line of the table of refusals.
-- Assumes nothing.
use Prim.Native.Nat.{ℕ, ◌+◌, ◌-◌, ◌*◌, ◌≤◌, ◌<◌}
use native.Mathlib.Omega.{arith}
use mathlib.Core.Path.{◌≡◌, sym}
use mathlib.Core.Bool.{true, false, not, ◌||◌}
use mathlib.Core.List.{List}
use lib.ListN.{length}
use lib.Dec.{ltb, leb, eqb}
use borrow.Author.Tests.{lt-leb, lt-ltb, le-ltb, eq-eqb, ne_eqb, ltb-false, leb-false, eqb-true, not-false}
use Rattle.lists.proofs.Bools.{or_none, rejected}
use Rattle.std.specs.Prelude.{Some, Err}
use Rattle.format.specs.declared.Fault.TheVariants.{Short, UnknownVersion, UntrueLength, WrongRole, OutOfRange, NoSuchEnd}
use Rattle.format.specs.Verdicts.{Fine, refusal, verdict_of}
use Rattle.format.specs.Format.{version_in, length_in, role_in, states_in, start_in, finish_in, letters_in, rows_in}
use Rattle.format.specs.Reads.{not_in, length_wrong, range_wrong, end_wrong, header_checks}

-- ---- 3, 5 and 6 as facts

abbrev pub TrueLength : List ℕ → Type 0
TrueLength bs = (length_in bs ≡ length bs - 3) × (length_in bs ≡ 6 + 5 * rows_in bs)

abbrev pub InRange : List ℕ → Type 0
InRange bs = (1 ≤ states_in bs) × (states_in bs ≤ 16) × (1 ≤ letters_in bs) × (letters_in bs ≤ 8) × (rows_in bs ≤ 64)

abbrev pub EndsBelow : List ℕ → Type 0
EndsBelow bs = (start_in bs < states_in bs) × (finish_in bs < states_in bs)

within : (low high x : ℕ) → not_in low high x ≡ false → (low ≤ x) × (x ≤ high)
within low high x e = let o = or_none (ltb x low) (ltb high x) e in (ltb-false x low o.0, ltb-false high x o.1)

within_test : (low high x : ℕ) → low ≤ x → x ≤ high → not_in low high x ≡ false
within_test low high x l h = simp (le-ltb x low l, le-ltb high x h)

module _ (bs : List ℕ) where
  pub length_of : length_wrong bs ≡ false → TrueLength bs
  unfolding length_wrong
  length_of e =
      let x = eqb (length_in bs) (length bs - 3) in
      let y = eqb (length_in bs) (6 + 5 * rows_in bs) in
      let o = or_none (not x) (not y) e in
      (eqb-true _ _ (not-false x o.0), eqb-true _ _ (not-false y o.1))

  pub length_test : TrueLength bs → length_wrong bs ≡ false
  unfolding length_wrong
  length_test h = simp (eq-eqb _ _ h.0, eq-eqb _ _ h.1)

  -- the code's answers
  pub length_wrong_lem : (TrueLength bs → ⊥) → true ≡ length_wrong bs
  length_wrong_lem n = sym (rejected (length_wrong bs) length_of n)

  pub length_right : TrueLength bs → false ≡ length_wrong bs
  length_right h = sym (length_test h)

  pub range_of : range_wrong bs ≡ false → InRange bs
  unfolding range_wrong
  range_of e =
      let o = or_none (not_in 1 16 (states_in bs)) (not_in 1 8 (letters_in bs) || not_in 0 64 (rows_in bs)) e in
      let q = or_none (not_in 1 8 (letters_in bs)) (not_in 0 64 (rows_in bs)) o.1 in
      let n = within 1 16 (states_in bs) o.0 in
      let d = within 1 8 (letters_in bs) q.0 in
      (n.0, n.1, d.0, d.1, (within 0 64 (rows_in bs) q.1).1)

  pub range_test : InRange bs → range_wrong bs ≡ false
  unfolding range_wrong
  range_test h =
      simp (within_test 1 16 (states_in bs) h.0 h.1, within_test 1 8 (letters_in bs) h.2 h.3, within_test 0 64 (rows_in bs) (omega arith) h.4)

  pub range_wrong_lem : (InRange bs → ⊥) → true ≡ range_wrong bs
  range_wrong_lem n = sym (rejected (range_wrong bs) range_of n)

  pub range_right : InRange bs → false ≡ range_wrong bs
  range_right h = sym (range_test h)

  pub ends_of : end_wrong bs ≡ false → EndsBelow bs
  unfolding end_wrong
  ends_of e =
      let o = or_none (leb (states_in bs) (start_in bs)) (leb (states_in bs) (finish_in bs)) e in
      (leb-false _ _ o.0, leb-false _ _ o.1)

  pub ends_test : EndsBelow bs → end_wrong bs ≡ false
  unfolding end_wrong
  ends_test h = simp (lt-leb _ _ h.0, lt-leb _ _ h.1)

-- ---- the verdict on a header, in the words of the code: each line is met when those before it do not apply

module _ {S : Type 0} (bs : List ℕ) (s : ℕ) (side : S) where
  pub header_1 : length bs < 9 → Err (refusal Short (Some side) 0) ≡ verdict_of (header_checks bs s side)
  unfolding header_checks
  header_1 h = simp (lt-ltb _ _ h)

  module _ (l : 9 ≤ length bs) where
    pub header_2 : (version_in bs ≡ 1 → ⊥) → Err (refusal UnknownVersion (Some side) 0) ≡ verdict_of (header_checks bs s side)
    unfolding header_checks
    header_2 v = simp (le-ltb _ _ l, ne_eqb _ _ v)

    module _ (v : version_in bs ≡ 1) where
      pub header_3 : length_wrong bs ≡ true → Err (refusal UntrueLength (Some side) 0) ≡ verdict_of (header_checks bs s side)
      unfolding header_checks
      header_3 t = simp (le-ltb _ _ l, eq-eqb _ _ v, t)

      module _ (t : length_wrong bs ≡ false) where
        pub header_4 : (role_in bs ≡ s → ⊥) → Err (refusal WrongRole (Some side) 0) ≡ verdict_of (header_checks bs s side)
        unfolding header_checks
        header_4 r = simp (le-ltb _ _ l, eq-eqb _ _ v, t, ne_eqb _ _ r)

        module _ (r : role_in bs ≡ s) where
          pub header_5 : range_wrong bs ≡ true → Err (refusal OutOfRange (Some side) 0) ≡ verdict_of (header_checks bs s side)
          unfolding header_checks
          header_5 q = simp (le-ltb _ _ l, eq-eqb _ _ v, t, eq-eqb _ _ r, q)

          module _ (q : range_wrong bs ≡ false) where
            pub header_6 : (EndsBelow bs → ⊥) → Err (refusal NoSuchEnd (Some side) 0) ≡ verdict_of (header_checks bs s side)
            unfolding header_checks
            header_6 n = simp (le-ltb _ _ l, eq-eqb _ _ v, t, eq-eqb _ _ r, q, rejected (end_wrong bs) (ends_of bs) n)

            pub header_fine : EndsBelow bs → Fine ≡ verdict_of (header_checks bs s side)
            unfolding header_checks
            header_fine e = simp (le-ltb _ _ l, eq-eqb _ _ v, t, eq-eqb _ _ r, q, ends_test bs e)
