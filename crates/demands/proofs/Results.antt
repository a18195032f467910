-- A result of build by its verdict: done means accepted, 11 means no converter, and what the bytes then keep. Assumes nothing.
use Prim.Native.Nat.{ℕ}
use mathlib.Core.Path.{◌≡◌, sym, ap, ◌∙◌, subst}
use mathlib.Core.Logic.{inl, inr}
use mathlib.Core.List.{List}
use lib.ListN.{take, drop}
use lib.Seq.{take_at}
use Rattle.format.specs.Verdicts.{Refusal, Fine, Refused, verdict_of, number_of}
use Rattle.format.proofs.Verdicts.{refused_not_fine}
use Rattle.rules.specs.declared.Pair.{Pair}
use Rattle.rules.specs.Configurations.{GoodPair, start, size}
use Rattle.rules.specs.Kept.{KeptAt, IsKept}
use Rattle.calls.specs.declared.Built.{Built}
use Rattle.calls.specs.Call.{Call, pair_of}
use Rattle.calls.specs.Build.{Accepted, NoConverter, Untouched, Made, build_checks, BuildSays}
use Rattle.calls.proofs.Silent.{enter_good}
use Rattle.calls.proofs.Codes.{checks_numbered}
use Rattle.calls.proofs.Largest.{answer_largest, build_cases, build_enters}
use Rattle.std.specs.Prelude.{None, Err}
use Rattle.format.specs.declared.Fault.TheVariants.{StartDropped}

module _ (k : Call) (before : List ℕ) where
  abbrev X : Pair
  X = pair_of k

  abbrev Well : Type 0
  Well = verdict_of (build_checks k before) ≡ Fine

  -- ---- by the verdict of the result

  module _ (after : List ℕ) (b : Built) (says : BuildSays k before after b) where
    verdict_of_lem : {r : Refusal} → Untouched before after b r → b.verdict ≡ Err r
    verdict_of_lem u = ap (λ (z : Built). z.verdict) u.0

    pub accepted : b.verdict ≡ Fine → Accepted X before after b × Well
    accepted e =
        build_cases k before after b (Accepted X before after b × Well) says
        (λ fine made. (either made, fine))
        (λ r q u. absurd (refused_not_fine (sym (verdict_of_lem u) ∙ e)))
      where
        either : Made X before after b → Accepted X before after b
        either (inl a) = a
        either (inr n) = absurd (refused_not_fine (sym n.verdict ∙ e))

    pub no_converter : b.verdict ≡ Refused StartDropped None 0 → NoConverter X before after b × Well
    no_converter e =
        build_cases k before after b (NoConverter X before after b × Well) says
        (λ fine made. (either made, fine))
        (λ r q u. absurd ((checks_numbered k before).not_eleven (ap number_of (q ∙ sym (verdict_of_lem u) ∙ e))))
      where
        either : Made X before after b → NoConverter X before after b
        either (inl a) = absurd (refused_not_fine (sym e ∙ a.verdict))
        either (inr n) = n

  pub good : Well → GoodPair X
  good fine = enter_good k (build_enters k before fine)

  -- ---- an accepted answer: the first N bytes are the largest correct set

  module _ (after : List ℕ) (b : Built) (g : GoodPair X) (a : Accepted X before after b) where
    pub first_bytes : take (size X) after ≡ a.bytes
    first_bytes = ap (take (size X)) a.buffer ∙ take_at a.bytes (drop (size X) before) (size X) a.answer.long

    pub first_largest : IsKept X (take (size X) after)
    first_largest = subst (IsKept X) (sym first_bytes) (answer_largest X g a.answer)

    pub start_kept : KeptAt X (take (size X) after) (start X)
    start_kept = subst (λ (l : List ℕ). KeptAt X l (start X)) (sym first_bytes) a.start_in
