-- Demand 3: runs under an accepted answer, other bridges, and what "no converter" means, for every result of build that satisfies its contract.
-- Assumes nothing.
use Prim.Native.Nat.{ℕ, ◌%◌, ◌^◌, ◌<◌}
use mathlib.Core.Path.{◌≡◌, sym, ◌∙◌}
use mathlib.Core.Logic.{◌↔◌, inl, inr}
use mathlib.Core.List.{List}
use lib.ListN.{take}
use Rattle.format.specs.Verdicts.{Fine, Refused, verdict_of}
use Rattle.format.proofs.Verdicts.{refused_not_fine}
use Rattle.rules.specs.declared.Conf.{Conf}
use Rattle.rules.specs.declared.Pair.{Pair}
use Rattle.rules.specs.Configurations.{GoodPair, size}
use Rattle.rules.specs.Sets.{AllowedIn}
use Rattle.rules.specs.Kept.{KeptAt, IsKept}
use Rattle.rules.specs.Bridges.{Seen, Bridge, Meets, OtherBridge}
use Rattle.rules.proofs.Places.{letter_in}
use Rattle.rules.proofs.Bridges.{permitted_allowed, no_bridge}
use Rattle.calls.specs.Call.{Call, pair_of}
use Rattle.calls.specs.declared.Built.{Built}
use Rattle.calls.specs.Build.{Accepted, Made, build_checks, BuildSays}
use Rattle.calls.proofs.Largest.{answer_largest, build_enters}
use Rattle.calls.proofs.Points.{run_points}
use Rattle.calls.specs.Packed.{PackedBuild}
use Rattle.demands.specs.Demands.{asks_bit, Demand3, of_built, of_packed}
use Rattle.demands.proofs.Results.{accepted, good, first_largest, start_kept}
use Rattle.demands.proofs.Demand2.{moves_are, packed_reads}
use Rattle.std.specs.Prelude.{None}
use Rattle.format.specs.declared.Fault.TheVariants.{StartDropped}

module _ (k : Call) (before after : List ℕ) (b : Built) (says : BuildSays k before after b) where
  abbrev X : Pair
  X = pair_of k

  -- the set that the first N bytes keep
  abbrev Ours : Conf → Type 0
  Ours = KeptAt X (take (size X) after)

  module _ (e : b.verdict ≡ Fine) where
    built : Accepted X before after b × (verdict_of (build_checks k before) ≡ Fine)
    built = accepted k before after b says e

    pair_good : GoodPair X
    pair_good = good k before built.1

    kept : IsKept X (take (size X) after)
    kept = first_largest k before after b pair_good built.0

    -- what the other bridge permits is allowed in the largest correct set, and that is what ask says
    only_ours : (Permits : Bridge) → OtherBridge X Permits → (h : List Seen) (c : Conf) (x y : ℕ) → Meets X Permits h c → Permits h x y → asks_bit k after c x y
    only_ours P o h c x y meets p =
        let a : AllowedIn X Ours c x y = permitted_allowed X pair_good P o Ours kept.largest h c x y meets p in
        let hx : x < 8 = letter_in X.writer pair_good.writer a.safe.writer_row.1 in
        let hy : y < 8 = letter_in X.reader pair_good.reader a.safe.reader_row.1 in
        (moves_are k before after b says e Ours kept.largest c a.member.within x y hx hy).1 a

  -- by what build says of input that is well-formed and has room
  none_iff : GoodPair X → Made X before after b → (b.verdict ≡ Refused StartDropped None 0) ↔ ((Permits : Bridge) → ¬ OtherBridge X Permits)
  none_iff g (inl a) =
      let k = answer_largest X g a.answer in (
        λ e. absurd (refused_not_fine (sym e ∙ a.verdict)),
        λ none. absurd ((no_bridge X g (KeptAt X a.bytes) k.largest).1 none a.start_in),
      )
  none_iff g (inr n) =
      let k = answer_largest X g n.answer in
      (λ e. (no_bridge X g (KeptAt X n.bytes) k.largest).0 n.start_out, λ none. n.verdict)

  pub demand3 : Demand3 k before after (of_built b)
  demand3 = record {
    runs = λ e. run_points k after (build_enters k before (built e).1) (kept e) (start_kept k before after b (pair_good e) (built e).0);
    others = only_ours;
    none = λ fine. none_iff (good k before fine) (rw fine at says);
  }

-- as the generator reads it
pub demand3_packed : (k : Call) (before after : List ℕ) (z : ℕ) → PackedBuild k before after z → Demand3 k before after (of_packed z)
demand3_packed k before after z p =
    let d = demand3 k before after p.built p.says in
    let r = packed_reads k before after z p in
    let number = r.1.number_is in
    let done : z % 2 ^ 8 ≡ 0 → p.built.verdict ≡ Fine = λ e. r.0.zero_done.0 (sym number ∙ e) in
    record {
      runs = λ e. d.runs (done e);
      others = λ e. d.others (done e);
      none = λ fine.
          let n = d.none fine in
          (λ e. n.0 (r.0.eleven_none.0 (sym number ∙ e)), λ none. number ∙ r.0.eleven_none.1 (n.1 none));
    }
