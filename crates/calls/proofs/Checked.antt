-- What a check says, over the rules: which verdict a list has, and that there is one; the call by its verdict. Assumes nothing.
use Prim.Native.Nat.{ℕ}
use mathlib.Core.Path.{◌≡◌, refl, sym, ap, ◌∙◌, subst}
use mathlib.Core.Logic.{inl, inr}
use mathlib.Core.List.{List}
use Rattle.format.specs.Verdicts.{Refusal, Verdict, Fine, Refused, verdict_of, given}
use Rattle.format.proofs.Verdicts.{fine_front}
use Rattle.rules.specs.declared.Pair.{Pair}
use Rattle.rules.specs.declared.Conf.{Conf}
use Rattle.rules.specs.Configurations.{GoodPair, place}
use Rattle.rules.specs.Ways.{Moves}
use Rattle.rules.specs.Permissions.{PermitsBad, Faulty, LowestFaulty}
use Rattle.rules.proofs.Permissions.{accepted_faultless, lowest_one}
use Rattle.calls.specs.Call.{Call, pair_of}
use Rattle.calls.specs.Refusals.{enter_checks}
use Rattle.calls.specs.Lists.{Permits}
use Rattle.calls.specs.Check.{Judged, judges_checks, check_checks, CheckSays}
use Rattle.calls.proofs.Silent.{enter_good}
use Rattle.std.specs.Prelude.{None, Ok, Err}
use Rattle.format.specs.declared.Fault.TheVariants.{BadMovePermitted, NoWayToFinish}

-- ---- which verdict a list has, past 18

module _ (X : Pair) (list : List ℕ) where
  abbrev Its : Moves
  Its = Permits X list

  -- a list with no faulty place is accepted
  pub faultless_fine : ((c : Conf) → ¬ Faulty X Its c) → {v : Verdict} → Judged X list v → v ≡ Fine
  faultless_fine none (inl p) = p.verdict
  faultless_fine none (inr (inl p)) = absurd (none p.at p.lowest.faulty)
  faultless_fine none (inr (inr p)) = absurd (none p.at p.lowest.faulty)

  module _ (g : GoodPair X) {v : Verdict} (c : Conf) (lowest : LowestFaulty X Its c) where
    -- where the lowest faulty place permits a bad move the verdict is 19, also where it has no way to finish
    pub nineteen_first : PermitsBad X Its c → Judged X list v → v ≡ Refused BadMovePermitted None (place X c)
    nineteen_first bad (inl p) = absurd (accepted_faultless X Its p.accepted c lowest.faulty)
    nineteen_first bad (inr (inl p)) = p.verdict ∙ ap (λ (z : Conf). Refused BadMovePermitted None (place X z)) (lowest_one X Its g p.at c p.lowest lowest)
    nineteen_first bad (inr (inr p)) = absurd (p.not_bad (subst (PermitsBad X Its) (lowest_one X Its g c p.at lowest p.lowest) bad))

    -- and else 20
    pub twenty_else : ¬ PermitsBad X Its c → Judged X list v → v ≡ Refused NoWayToFinish None (place X c)
    twenty_else none (inl p) = absurd (accepted_faultless X Its p.accepted c lowest.faulty)
    twenty_else none (inr (inl p)) = absurd (none (subst (PermitsBad X Its) (lowest_one X Its g p.at c p.lowest lowest) p.bad))
    twenty_else none (inr (inr p)) = p.verdict ∙ ap (λ (z : Conf). Refused NoWayToFinish None (place X z)) (lowest_one X Its g p.at c p.lowest lowest)

  -- there is one verdict
  pub judged_one : GoodPair X → {v w : Verdict} → Judged X list v → Judged X list w → v ≡ w
  judged_one g (inl p) q = p.verdict ∙ sym (faultless_fine (accepted_faultless X Its p.accepted) q)
  judged_one g (inr (inl p)) q = p.verdict ∙ sym (nineteen_first g p.at p.lowest p.bad q)
  judged_one g (inr (inr p)) q = p.verdict ∙ sym (twenty_else g p.at p.lowest p.not_bad q)

-- ---- the call by its verdict

module _ (k : Call) (list : List ℕ) where
  abbrev X : Pair
  X = pair_of k

  -- none of 1 to 9, 17 and 18 applies
  abbrev pub Whole : Type 0
  Whole = verdict_of (check_checks k list) ≡ Fine

  -- then both tables, the bound and the rule are fine
  pub check_enters : Whole → verdict_of (enter_checks k) ≡ Fine
  check_enters fine = fine_front (enter_checks k) (judges_checks X list) fine

  pub check_good : Whole → GoodPair X
  check_good fine = enter_good k (check_enters fine)

  -- either its checks are silent and the list is judged, or one refuses
  pub check_cases : (v : Verdict) (P : Type 0) → CheckSays k list v → (Whole → Judged X list v → P)
      → ((r : Refusal) → verdict_of (check_checks k list) ≡ Err r → v ≡ Err r → P) → P
  check_cases v P says judged refused = go (verdict_of (check_checks k list)) refl says
    where
      go : (u : Verdict) → verdict_of (check_checks k list) ≡ u → given u (λ r. v ≡ Err r) (Judged X list v) → P
      go (Ok tt) e m = judged e m
      go (Err r) e m = refused r e m

  -- past the checks the list is judged
  pub check_judged : (v : Verdict) → CheckSays k list v → Whole → Judged X list v
  check_judged v says whole = rw whole at says

  -- there is one result
  pub check_one : (v w : Verdict) → CheckSays k list v → CheckSays k list w → v ≡ w
  check_one v w p q =
      check_cases v (v ≡ w) p
      (λ fine m. judged_one X list (check_good fine) m (check_judged w q fine))
      (λ r e m. m ∙ refused e)
    where
      refused : {r : Refusal} → verdict_of (check_checks k list) ≡ Err r → Err r ≡ w
      refused e = sym (rw e at q)
