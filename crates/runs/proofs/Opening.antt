-- Refusals 10, 12 and 13 of a step, by the tests that the code meets in their order. Assumes nothing.
use Prim.Native.Nat.{ℕ, zero, suc, ◌-◌}
use native.Mathlib.Omega.{arith}
use mathlib.Core.Path.{◌≡◌, refl, sym, ◌∙◌}
use mathlib.Core.Bool.{Bool, true, false, cond, not, ◌||◌}
use mathlib.Core.List.{List, [], ◌∷◌}
use Rattle.lists.specs.Search.{some, seek, yes, no}
use Rattle.format.specs.Verdicts.{Refusal, Verdict, Fine, unsided, Check, verdict_of, and_then}
use lib.Dec.{eqb}
use lib.ListN.{length, get_or, drop}
use lib.Seq.{drop-cons}
use Rattle.std.specs.List.{list_any}
use Rattle.std.proofs.lemmas.List.{drop_all}
use Rattle.format.proofs.Verdicts.{refused_not_fine, verdict_append}
use Rattle.rules.specs.declared.Pair.{Pair}
use Rattle.rules.specs.Configurations.{size}
use Rattle.calls.specs.declared.Run.{Run}
use Rattle.calls.specs.Refusals.{lent_checks, in_range, conf_check}
use Rattle.calls.specs.Ask.{asks_checks}
use Rattle.calls.specs.Runs.{conf_of}
use Rattle.calls.specs.Step.{nonzero, run_check, open_checks}
use Rattle.std.specs.Prelude.{Ok, Err}
use Rattle.format.specs.declared.Fault.TheVariants.{NoConfiguration}

-- ---- the places past the level, as a search of the list

or_is : (a b : Bool) → (a || b) ≡ cond a true b
or_is true b = refl
or_is false b = refl

places_by : (items : List ℕ) (k i : ℕ) → k ≡ length items - i → list_any (λ n. not (eqb n 0)) (drop i items) ≡ seek (nonzero items) yes no i k
unfolding seek
places_by items zero i e = rw (drop_all i items (omega arith))
places_by items (suc k) i e =
    rw (drop-cons items i 0 (omega arith), ← places_by items k (suc i) (omega arith))
    (or_is (not (eqb (get_or items i 0) 0)) _)

pub places_from :
    (items : List ℕ) (from : ℕ) {r : Bool} → length items ≡ 16 → r ≡ list_any (λ n. not (eqb n 0)) (drop from items)
    → r ≡ some (nonzero items) from 16
places_from items from long e = e ∙ places_by items (16 - from) from (omega arith)

-- ---- 10, 12 and 13, after ask's

module _ (x : Refusal) where
  still_refused : (v : Verdict) (b s : Bool) {r : Refusal} → and_then v (cond (not b) (Err x) Fine) ≡ Err r → and_then v (cond (not b || s) (Err x) Fine) ≡ Err r
  still_refused (Err _) b s e = e
  still_refused (Ok _) false s e = e
  still_refused (Ok _) true s e = absurd (refused_not_fine (sym e))

  then_places : (v : Verdict) (b s : Bool) → and_then v (cond (not b) (Err x) Fine) ≡ Fine → and_then v (cond (not b || s) (Err x) Fine) ≡ cond s (Err x) Fine
  then_places (Err _) b s e = absurd (refused_not_fine e)
  then_places (Ok _) false s e = absurd (refused_not_fine e)
  then_places (Ok _) true s e = refl

module _ (X : Pair) (bytes : List ℕ) (u : Run) where
  abbrev lent : List Check
  lent = lent_checks (size X) bytes

  abbrev held : Bool
  held = some (nonzero u.items) u.level 16

  pub run_refused : {r : Refusal} → verdict_of (asks_checks X bytes (conf_of u)) ≡ Err r → Err r ≡ verdict_of (open_checks X bytes u)
  run_refused e =
      sym (verdict_append lent (run_check X u ∷ [])
      ∙ still_refused (unsided NoConfiguration) (verdict_of lent) (in_range X (conf_of u)) held (sym (verdict_append lent (conf_check X (conf_of u) ∷ [])) ∙ e))

  pub run_is : verdict_of (asks_checks X bytes (conf_of u)) ≡ Fine → cond held (Err (unsided NoConfiguration)) Fine ≡ verdict_of (open_checks X bytes u)
  run_is e =
      sym (verdict_append lent (run_check X u ∷ [])
      ∙ then_places (unsided NoConfiguration) (verdict_of lent) (in_range X (conf_of u)) held (sym (verdict_append lent (conf_check X (conf_of u) ∷ [])) ∙ e))
