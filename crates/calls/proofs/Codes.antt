-- What the number of a verdict says: 0 that the call is done, 11 that there is no converter, 19 and 20 that a list has a faulty place. Assumes nothing.
use Prim.Native.Nat.{ℕ, suc}
use native.Mathlib.Omega.{arith}
use mathlib.Core.Path.{◌≡◌, refl, sym, ap, ◌∙◌, subst}
use mathlib.Core.Logic.{◌↔◌, inl, inr}
use mathlib.Core.Bool.{Bool, true, false, cond}
use mathlib.Core.List.{List, [], ◌∷◌}
use lib.Dec.{eqb}
use borrow.Author.Tests.{eqb-false}
use Rattle.std.specs.Prelude.{Err, None}
use Rattle.lists.specs.Lists.{any}
use Rattle.lists.proofs.Bools.{or_none}
use Rattle.format.specs.Verdicts.{fault_number, Verdict, Fine, Refused, number_of, Check, verdict_of}
use Rattle.format.specs.Reads.{header_checks, row_checks}
use Rattle.format.proofs.Verdicts.{given_verdict, refused_not_fine}
use Rattle.rules.specs.declared.Conf.{Conf}
use Rattle.calls.specs.declared.Asked.{Asked}
use Rattle.calls.specs.declared.Built.{Built}
use Rattle.calls.specs.declared.Run.{Run}
use Rattle.calls.specs.declared.Cycle.{Cycle}
use Rattle.calls.specs.declared.Begun.{Begun}
use Rattle.calls.specs.Call.{Call, pair_of}
use Rattle.calls.specs.Refusals.{begin_checks}
use Rattle.calls.specs.Build.{Made, build_checks, BuildSays}
use Rattle.calls.specs.Ask.{ask_checks, ask_of}
use Rattle.calls.specs.Why.{why_checks, why_of}
use Rattle.calls.specs.Check.{NoFault, BadMove, NoWay, Judged, check_checks, CheckSays}
use Rattle.calls.specs.Begin.{begin_of}
use Rattle.calls.specs.Step.{step_checks, step_of}
use Rattle.calls.proofs.Accepted.{step_verdict}
use Rattle.calls.proofs.Refused.{why_verdict}
use Rattle.calls.proofs.Largest.{build_cases}
use Rattle.calls.proofs.Checked.{Whole, check_cases}
use Rattle.format.specs.declared.Fault.TheVariants.{StartDropped}

-- ---- a list of checks none of which has the number n

has_number : ℕ → Check → Bool
has_number n c = eqb (fault_number c.refuses.fault) n

-- a verdict whose number no check has is fine
no_such : (n : ℕ) (cs : List Check) → any (has_number n) cs ≡ false → number_of (verdict_of cs) ≡ n → verdict_of cs ≡ Fine
unfolding has_number
no_such n [] off e = refl
no_such n (c ∷ cs) off e = go (no_such n cs) (or_none (eqb (fault_number c.refuses.fault) n) (any (has_number n) cs) off) c.applies e
  where
    go : (any (has_number n) cs ≡ false → number_of (verdict_of cs) ≡ n → verdict_of cs ≡ Fine)
        → (eqb (fault_number c.refuses.fault) n ≡ false) × (any (has_number n) cs ≡ false)
        → (b : Bool) → number_of (cond b (Err c.refuses) (verdict_of cs)) ≡ n
        → cond b (Err c.refuses) (verdict_of cs) ≡ Fine
    go later off true q = absurd (eqb-false (fault_number c.refuses.fault) n off.0 q)
    go later off false q = later off.1 q

never : (n : ℕ) (cs : List Check) → any (has_number (suc n)) cs ≡ false → number_of (verdict_of cs) ≡ suc n → ⊥
never n cs off e = let z : ◌≡◌ {A = ℕ} 0 (suc n) = sym (ap number_of (no_such (suc n) cs off e)) ∙ e in omega arith

-- a verdict that is one of such checks, of which none is 0 and none is 11
pub record Numbered (v : Verdict) : Type 0 where
  pub zero_done : (number_of v ≡ 0) ↔ (v ≡ Fine)
  pub not_eleven : number_of v ≡ 11 → ⊥

numbered : {v : Verdict} (cs : List Check) → any (has_number 0) cs ≡ false → any (has_number 11) cs ≡ false → v ≡ verdict_of cs → Numbered v
numbered cs zeros elevens e = record {
  zero_done = (λ q. e ∙ no_such 0 cs zeros (sym (ap number_of e) ∙ q), λ q. ap number_of q);
  not_eleven = λ q. never 10 cs elevens (sym (ap number_of e) ∙ q);
}

-- ---- ask, why, begin and step: 0 says done, and 11 is never said

module _ (k : Call) where
  pub begin_numbered : Numbered (begin_of k).verdict
  unfolding begin_of has_number header_checks row_checks
  begin_numbered = numbered (begin_checks k) refl refl (given_verdict (λ (b : Begun). b.verdict) _ _ (λ v. refl) refl (verdict_of (begin_checks k)))

  pub ask_numbered : (bytes : List ℕ) (c : Conf) → Numbered (ask_of k bytes c).verdict
  unfolding ask_of has_number header_checks row_checks
  ask_numbered bytes c =
      numbered (ask_checks k bytes c) refl refl (given_verdict (λ (a : Asked). a.verdict) _ _ (λ v. refl) refl (verdict_of (ask_checks k bytes c)))

  pub why_numbered : (bytes : List ℕ) (c : Conf) (x y : ℕ) → Numbered (why_of k bytes c x y).verdict
  unfolding has_number header_checks row_checks
  why_numbered bytes c x y = numbered (why_checks k bytes c x y) refl refl (why_verdict k bytes c x y)

  pub step_numbered : (bytes : List ℕ) (u : Run) (c : Cycle) → Numbered (step_of k bytes u c).verdict
  unfolding has_number header_checks row_checks
  step_numbered bytes u c = numbered (step_checks k bytes u c) refl refl (step_verdict k bytes u c)

-- ---- build: 0 says done, and 11 that there is no converter

pub checks_numbered : (k : Call) (before : List ℕ) → Numbered (verdict_of (build_checks k before))
unfolding has_number header_checks row_checks
checks_numbered k before = numbered (build_checks k before) refl refl refl

pub record NumberedBuild (v : Verdict) : Type 0 where
  pub zero_done : (number_of v ≡ 0) ↔ (v ≡ Fine)
  pub eleven_none : (number_of v ≡ 11) ↔ (v ≡ Refused StartDropped None 0)

pub build_numbered : (k : Call) (before after : List ℕ) (b : Built) → BuildSays k before after b → NumberedBuild b.verdict
build_numbered k before after b says =
    build_cases k before after b (NumberedBuild b.verdict) says (λ fine m. made m)
    (λ r e u. refused (subst Numbered (e ∙ sym (ap (λ (z : Built). z.verdict) u.0)) (checks_numbered k before)))
  where
    made : Made (pair_of k) before after b → NumberedBuild b.verdict
    made (inl a) = record {
      zero_done = (λ q. a.verdict, λ q. ap number_of q);
      eleven_none = (λ q. absurd (omega (arith, ap number_of a.verdict)), λ q. ap number_of q);
    }
    made (inr a) = record {
      zero_done = (λ q. absurd (omega (arith, ap number_of a.verdict)), λ q. ap number_of q);
      eleven_none = (λ q. a.verdict, λ q. ap number_of q);
    }

    refused : Numbered b.verdict → NumberedBuild b.verdict
    refused h = record {
      zero_done = h.zero_done;
      eleven_none = (λ q. absurd (h.not_eleven q), λ q. ap number_of q);
    }

-- ---- check: 0 says accepted, 19 that the place in the row permits a bad move, 20 that it has no way to finish; all three past 18

pub record NumberedCheck (k : Call) (list : List ℕ) (v : Verdict) : Type 0 where
  pub zero_done : (number_of v ≡ 0) ↔ (v ≡ Fine)
  pub zero_none : number_of v ≡ 0 → Whole k list × NoFault (pair_of k) list v
  pub nineteen_bad : number_of v ≡ 19 → Whole k list × BadMove (pair_of k) list v
  pub twenty_stuck : number_of v ≡ 20 → Whole k list × NoWay (pair_of k) list v

module _ (k : Call) (list : List ℕ) (v : Verdict) (says : CheckSays k list v) where
  -- a number that no check has is said past the checks
  past_checks : (n : ℕ) → any (has_number n) (check_checks k list) ≡ false → number_of v ≡ n → Whole k list × Judged (pair_of k) list v
  past_checks n off e =
      check_cases k list v (Whole k list × Judged (pair_of k) list v) says
      (λ whole m. (whole, m))
      (λ r q u. absurd (refused_not_fine (sym q ∙ no_such n (check_checks k list) off (ap number_of (q ∙ sym u) ∙ e))))

  by_zero : Judged (pair_of k) list v → number_of v ≡ 0 → NoFault (pair_of k) list v
  by_zero (inl p) e = p
  by_zero (inr (inl p)) e = absurd (omega (arith, e, ap number_of p.verdict))
  by_zero (inr (inr p)) e = absurd (omega (arith, e, ap number_of p.verdict))

  by_nineteen : Judged (pair_of k) list v → number_of v ≡ 19 → BadMove (pair_of k) list v
  by_nineteen (inl p) e = absurd (omega (arith, e, ap number_of p.verdict))
  by_nineteen (inr (inl p)) e = p
  by_nineteen (inr (inr p)) e = absurd (omega (arith, e, ap number_of p.verdict))

  by_twenty : Judged (pair_of k) list v → number_of v ≡ 20 → NoWay (pair_of k) list v
  by_twenty (inl p) e = absurd (omega (arith, e, ap number_of p.verdict))
  by_twenty (inr (inl p)) e = absurd (omega (arith, e, ap number_of p.verdict))
  by_twenty (inr (inr p)) e = p

  -- 0, 19 and 20 say what they stand for
  pub check_numbered : NumberedCheck k list v
  unfolding has_number header_checks row_checks
  check_numbered = record {
    zero_done = (λ e. (by_zero (past_checks 0 refl e).1 e).verdict, λ e. ap number_of e);
    zero_none = λ e. let m = past_checks 0 refl e in (m.0, by_zero m.1 e);
    nineteen_bad = λ e. let m = past_checks 19 refl e in (m.0, by_nineteen m.1 e);
    twenty_stuck = λ e. let m = past_checks 20 refl e in (m.0, by_twenty m.1 e);
  }
