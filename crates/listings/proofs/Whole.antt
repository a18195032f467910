-- Every configuration of the pair has its line at its place if the bytes keep it, and nothing else has a line: so the lines of the places
-- 0, 1, 2 and so on are the listing "in order of place", however many places are gone through. Assumes nothing.
use Prim.Native.Nat.{ℕ, ◌≤◌}
use native.Mathlib.Omega.{arith}
use mathlib.Core.Path.{◌≡◌, refl, ap, ◌∙◌}
use mathlib.Core.Bool.{Bool, true, false, cond}
use mathlib.Core.List.{List, []}
use Rattle.format.specs.Verdicts.{Verdict, Fine, verdict_of}
use Rattle.format.proofs.Verdicts.{fine_front, fine_goes_on}
use Rattle.rules.specs.declared.Conf.{Conf}
use Rattle.rules.specs.declared.Pair.{Pair}
use Rattle.rules.specs.Configurations.{Within, size, place}
use Rattle.rules.specs.Tools.Computed.{one_at, conf_at}
use Rattle.rules.proofs.Places.{place_in, conf_place, place_conf}
use Rattle.calls.specs.Call.{Call, pair_of}
use Rattle.calls.specs.Refusals.{enter_checks}
use Rattle.calls.specs.Ask.{asks_checks, ask_checks}
use Rattle.calls.proofs.Silent.{enter_known, ask_known}
use Rattle.listings.specs.Pages.{spot_text, place_text}
use Rattle.listings.proofs.Texts.{spot_none}
use Rattle.std.specs.Prelude.{Ok, Err}

none_either : (b : Bool) {l : List ℕ} → l ≡ [] → cond b l [] ≡ []
none_either true e = e
none_either false e = refl

module _ (k : Call) (bytes : List ℕ) where
  abbrev X : Pair
  X = pair_of k

  -- a configuration's text stands at its place
  pub text_at_lem : {c : Conf} → Within X c → place_text k bytes (place X c) ≡ cond (one_at bytes (place X c)) (spot_text k bytes c) []
  unfolding place_text
  text_at_lem {c} i = ap (λ (z : Conf). cond (one_at bytes (place X c)) (spot_text k bytes z) []) (conf_place X i)

  -- ---- no text past the last place

  asked_within : (c : Conf) → verdict_of (ask_checks k bytes c) ≡ Fine → Within X c
  asked_within c e =
      let front = fine_front (enter_checks k) (asks_checks X bytes c) e in
      (ask_known X bytes c (enter_known k front) (fine_goes_on (enter_checks k) (asks_checks X bytes c) front ∙ e)).within

  spot_past : (c : Conf) → size X ≤ place X c → spot_text k bytes c ≡ []
  spot_past c h = go (verdict_of (ask_checks k bytes c)) refl
    where
      go : (v : Verdict) → verdict_of (ask_checks k bytes c) ≡ v → spot_text k bytes c ≡ []
      go (Ok tt) e = absurd (omega (arith, h, place_in X (asked_within c e)))
      go (Err r) e = spot_none k bytes c e

  pub text_past : {p : ℕ} → size X ≤ p → place_text k bytes p ≡ []
  unfolding place_text
  text_past {p} h = none_either (one_at bytes p) (spot_past (conf_at X p) (omega (arith, place_conf X p)))
