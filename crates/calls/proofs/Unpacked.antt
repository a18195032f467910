-- Each field can be taken back out of a packed number, and two results of an entry point that satisfy its contract are equal, bytes included.
-- Assumes nothing.
use Prim.Native.Nat.{ℕ, ◌/◌, ◌%◌, ◌^◌, ◌<◌}
use native.Mathlib.Omega.{arith}
use mathlib.Core.Path.{◌≡◌, sym, ap, ◌∙◌, subst}
use mathlib.Core.List.{List}
use Rattle.format.specs.Verdicts.{Verdict, number_of, side_of, row_of}
use Rattle.rules.specs.declared.Conf.{Conf}
use Rattle.calls.specs.declared.Built.{Built}
use Rattle.calls.specs.declared.Asked.{Asked}
use Rattle.calls.specs.declared.Explained.{Explained}
use Rattle.calls.specs.Call.{Call}
use Rattle.calls.specs.Ask.{ask_of}
use Rattle.calls.specs.Why.{why_of}
use Rattle.calls.specs.Packed.{packed_with, packed_built, packed_asked, packed_explained, PackedBuild, PackedCheck}
use Rattle.calls.proofs.Largest.{one_result}
use Rattle.calls.proofs.Checked.{check_one}
use Rattle.calls.proofs.Ranges.{built_few, asked_few, explained_few}
use Rattle.calls.proofs.Numbers.{Small, built_small, asked_small, explained_small, checked_small}

-- the digits of z are these: number, side and row of the verdict, and the last two places
pub record Unpacked (z : ℕ) (v : Verdict) (fourth fifth : ℕ) : Type 0 where
  pub number_is : z % 2 ^ 8 ≡ number_of v
  pub side_is : z / 2 ^ 8 % 2 ^ 8 ≡ side_of v
  pub row_is : z / 2 ^ 16 % 2 ^ 16 ≡ row_of v
  pub fourth_is : z / 2 ^ 32 % 2 ^ 16 ≡ fourth
  pub fifth_is : z / 2 ^ 48 ≡ fifth

unpack : (v : Verdict) (fourth fifth : ℕ) → Small v → fourth < 2 ^ 16 → Unpacked (packed_with v fourth fifth) v fourth fifth
unpack v fourth fifth h f = record {
  number_is = omega (arith, h.0, h.1, h.2);
  side_is = omega (arith, h.0, h.1, h.2);
  row_is = omega (arith, h.0, h.1, h.2);
  fourth_is = omega (arith, h.0, h.1, h.2);
  fifth_is = omega (arith, h.0, h.1, h.2);
}

abbrev pub UnpackedBuilt : ℕ → Built → Type 0
UnpackedBuilt z b = Unpacked z b.verdict b.kept b.rounds

abbrev pub UnpackedAsked : ℕ → Asked → Type 0
UnpackedAsked z a = Unpacked z a.verdict a.count a.lowest

abbrev pub UnpackedExplained : ℕ → Explained → Type 0
UnpackedExplained z e = Unpacked z e.verdict e.reason 0

module _ (k : Call) where
  -- build's number, side, row, kept and rounds, out of what the entry point returns
  pub build_fields : (before after : List ℕ) (z : ℕ) (p : PackedBuild k before after z) → UnpackedBuilt z p.built
  build_fields before after z p =
      let b : Built = p.built in
      let small : Small b.verdict = built_small k before after b p.says in
      subst (λ (y : ℕ). UnpackedBuilt y b) (sym p.number_is)
      (unpack b.verdict b.kept b.rounds small (omega (arith, (built_few k before after b p.says).0)))

  -- ask's number, side, row, count and lowest
  pub ask_fields : (bytes : List ℕ) (c : Conf) → UnpackedAsked (packed_asked (ask_of k bytes c)) (ask_of k bytes c)
  ask_fields bytes c =
      let a : Asked = ask_of k bytes c in
      unpack a.verdict a.count a.lowest (asked_small k bytes c) (omega (arith, (asked_few k bytes c).0))

  -- why's number, side, row and reason, and nothing above
  pub why_fields : (bytes : List ℕ) (c : Conf) (x y : ℕ) → UnpackedExplained (packed_explained (why_of k bytes c x y)) (why_of k bytes c x y)
  why_fields bytes c x y =
      let e : Explained = why_of k bytes c x y in
      unpack e.verdict e.reason 0 (explained_small k bytes c x y) (omega (arith, explained_few k bytes c x y))

  -- check's number, side and place, and nothing above
  pub check_fields : (list : List ℕ) (z : ℕ) (p : PackedCheck k list z) → Unpacked z p.verdict 0 0
  check_fields list z p =
      subst (λ (y : ℕ). Unpacked y p.verdict 0 0) (sym p.number_is)
      (unpack p.verdict 0 0 (checked_small k list p.verdict p.says) (omega arith))

  -- there is one packed number of a check
  pub one_checked : (list : List ℕ) (y z : ℕ) → PackedCheck k list y → PackedCheck k list z → y ≡ z
  one_checked list y z p q =
      p.number_is ∙ ap (λ (v : Verdict). packed_with v 0 0) (check_one k list p.verdict q.verdict p.says q.says) ∙ sym q.number_is

  -- there is one packed number, and one content of the lent buffer
  pub one_packed : (before after₁ after₂ : List ℕ) (y z : ℕ) → PackedBuild k before after₁ y → PackedBuild k before after₂ z → (y ≡ z) × (after₁ ≡ after₂)
  one_packed before after₁ after₂ y z p q =
      let e = one_result k before after₁ after₂ p.built q.built p.says q.says in
      (p.number_is ∙ ap packed_built e.0 ∙ sym q.number_is, e.1)
