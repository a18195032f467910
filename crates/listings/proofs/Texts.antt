-- The texts of the listing, case by case as code meets them. Assumes nothing.
use Prim.Native.Nat.{ℕ, ◌+◌, ◌/◌, ◌%◌, ◌≤◌}
use native.Mathlib.Omega.{arith}
use mathlib.Core.Path.{◌≡◌, refl, sym, ap, ◌∙◌, subst}
use mathlib.Core.List.{List, []}
use lib.ListN.{length, get_or-eq_default}
use borrow.Author.Tests.{eq-eqb, ne_eqb}
use Rattle.format.specs.Verdicts.{Refusal, fault_number, named_side, Verdict, Fine, verdict_of}
use Rattle.format.specs.Format.{byte}
use Rattle.format.proofs.Verdicts.{refused_not_fine, refused_stays}
use Rattle.rules.specs.declared.Conf.{Conf}
use Rattle.rules.specs.Configurations.{conf_with, size}
use Rattle.rules.specs.Tools.Computed.{conf_at}
use Rattle.calls.specs.declared.Asked.{Asked}
use Rattle.calls.specs.declared.Built.{Built}
use Rattle.calls.specs.Call.{Call, pair_of}
use Rattle.calls.specs.Refusals.{enter_checks}
use Rattle.calls.specs.Ask.{asks_checks, ask_checks, ask_of}
use Rattle.calls.specs.Build.{BuildSays}
use Rattle.calls.proofs.Largest.{build_cases, build_enters}
use Rattle.texts.specs.Text.{first_line, conf_line, refusal_line}
use Rattle.texts.specs.Written.{Written}
use Rattle.listings.specs.Pages.{head_as, head_text, asked_text, spot_text, text_at, place_text}
use Rattle.std.specs.Prelude.{Err}

-- ---- no text leaves the buffer as it was

pub nothing : (out : List ℕ) {text : List ℕ} → text ≡ [] → Written text out 0 out
nothing out e = subst (λ (z : List ℕ). Written z out 0 out) (sym e) (record { count = refl; bytes = refl; inside = omega arith; lent = refl })

pub instead : {text other out written : List ℕ} {r : ℕ} → text ≡ other → Written text out r written → Written other out r written
instead {out = out} {written} {r} e w = subst (λ (z : List ℕ). Written z out r written) e w

-- ---- a place divided, and the line of a configuration

abbrev divided : ℕ → ℕ → ℕ → Conf
divided n levels p = conf_with (p / levels / n) (p / levels % n) (p % levels)

abbrev line_of : Conf → ℕ → List ℕ
line_of c set = conf_line c.writer c.reader c.level set

-- ---- the first line

-- build accepts only a call that 1 to 9 and 17 do not refuse
pub built_entered : (k : Call) (before after : List ℕ) (b : Built) → BuildSays k before after b → b.verdict ≡ Fine
    → verdict_of (enter_checks k) ≡ Fine
built_entered k before after b says e =
    build_cases k before after b (verdict_of (enter_checks k) ≡ Fine) says
    (λ fine made. build_enters k before fine)
    (λ r told u. absurd (refused_not_fine (sym (ap (λ (z : Built). z.verdict) u.0) ∙ e)))

module _ (k : Call) (b : Built) where
  pub head_fine : {n : ℕ} → n ≡ size (pair_of k) → b.verdict ≡ Fine → first_line b.kept n b.rounds k.bound k.rule ≡ head_text k b
  head_fine q e = ap (λ (z : ℕ). first_line b.kept z b.rounds k.bound k.rule) q ∙ sym (ap (λ (v : Verdict). head_as v k b) e)

  pub head_refused : {r : Refusal} → b.verdict ≡ Err r → refusal_line (fault_number r.fault) (named_side r.side) r.row ≡ head_text k b
  head_refused e = sym (ap (λ (v : Verdict). head_as v k b) e)

module _ (k : Call) (bytes : List ℕ) where
  -- ---- the line of a configuration

  module _ (c : Conf) where
    pub spot_none : {r : Refusal} → verdict_of (ask_checks k bytes c) ≡ Err r → spot_text k bytes c ≡ []
    unfolding spot_text ask_of
    spot_none e = rw e

    module _ {a : Asked} (told : a ≡ ask_of k bytes c) where
      spot_is : asked_text a.verdict c a ≡ spot_text k bytes c
      unfolding spot_text
      spot_is = ap (λ (z : Asked). asked_text z.verdict c z) told

      spot_refused : {r : Refusal} → a.verdict ≡ Err r → spot_text k bytes c ≡ []
      spot_refused e = sym spot_is ∙ ap (λ (v : Verdict). asked_text v c a) e

      spot_fine : a.verdict ≡ Fine → line_of c a.set ≡ spot_text k bytes c
      spot_fine e = sym (ap (λ (v : Verdict). asked_text v c a) e) ∙ spot_is

  -- ---- the line of a configuration whose place is divided, where the reader has n states

  module _ (p : ℕ) {n : ℕ} (states : n ≡ (pair_of k).reader.states) {a : Asked} (told : a ≡ ask_of k bytes (divided n (k.bound + 1) p)) where
    text_is : spot_text k bytes (divided n (k.bound + 1) p) ≡ text_at k bytes p
    unfolding conf_at
    text_is = rw states

    pub text_refused : {r : Refusal} → a.verdict ≡ Err r → text_at k bytes p ≡ []
    text_refused e = sym text_is ∙ spot_refused (divided n (k.bound + 1) p) told e

    pub text_fine : a.verdict ≡ Fine → line_of (divided n (k.bound + 1) p) a.set ≡ text_at k bytes p
    text_fine e = spot_fine (divided n (k.bound + 1) p) told e ∙ text_is

  -- ---- the line of a place

  module _ (p : ℕ) where
    pub place_out : (byte bytes p ≡ 1 → ⊥) → place_text k bytes p ≡ []
    unfolding place_text
    place_out h = rw (ne_eqb (byte bytes p) 1 h)

    pub place_past : length bytes ≤ p → place_text k bytes p ≡ []
    place_past h = place_out (λ e. absurd (omega (arith, e, get_or-eq_default bytes 0 h)))

    pub place_kept : byte bytes p ≡ 1 → text_at k bytes p ≡ place_text k bytes p
    unfolding place_text
    place_kept e = sym (rw (eq-eqb (byte bytes p) 1 e))

    pub place_refused : byte bytes p ≡ 1 → {r : Refusal} → verdict_of (enter_checks k) ≡ Err r → place_text k bytes p ≡ []
    place_refused one e =
        let c = conf_at (pair_of k) p in
        sym (place_kept one) ∙ spot_none c (sym (refused_stays (enter_checks k) (asks_checks (pair_of k) bytes c) e) ∙ e)
