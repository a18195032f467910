-- Demand 2: every result of build that satisfies its contract is the largest correct set,
-- and ask over it says exactly the moves that the set permits. Assumes nothing.
use Prim.Native.Nat.{ℕ, ◌/◌, ◌%◌, ◌^◌, ◌<◌}
use mathlib.Core.Path.{◌≡◌, sym, ap, ◌∙◌, subst}
use mathlib.Core.Logic.{◌↔◌}
use mathlib.Core.List.{List}
use lib.ListN.{take}
use Rattle.format.specs.Verdicts.{Fine, Refused, verdict_of}
use Rattle.rules.specs.declared.Pair.{Pair}
use Rattle.rules.specs.declared.Conf.{Conf}
use Rattle.rules.specs.Configurations.{GoodPair, Within, start, size, move_of}
use Rattle.rules.specs.Sets.{AllowedIn, LargestSet, RoundsAre}
use Rattle.rules.specs.Kept.{KeptAt, IsKept, kept_count}
use Rattle.rules.proofs.Sets.{allowed_mono, one_largest}
use Rattle.rules.proofs.Bytes.{first_kept}
use Rattle.rules.proofs.Laws.{rounds_between}
use Rattle.calls.specs.declared.Asked.{Asked}
use Rattle.calls.specs.declared.Built.{Built}
use Rattle.calls.specs.Call.{Call, pair_of}
use Rattle.calls.specs.Refusals.{enter_checks}
use Rattle.calls.specs.Ask.{move_set, ask_of}
use Rattle.calls.specs.Build.{Accepted, build_checks, BuildSays}
use Rattle.calls.proofs.Silent.{answer_able}
use Rattle.calls.proofs.Asking.{set_bit, ask_done}
use Rattle.calls.proofs.Largest.{answer_largest, build_enters}
use Rattle.calls.specs.Packed.{PackedBuild}
use Rattle.calls.proofs.Codes.{NumberedBuild, build_numbered}
use Rattle.calls.proofs.Unpacked.{UnpackedBuilt, build_fields}
use Rattle.demands.specs.Demands.{asks_bit, Demand2, RoundsTrue, of_built, of_packed}
use Rattle.demands.proofs.Results.{accepted, no_converter, good, first_bytes, first_largest, start_kept}
use Rattle.std.specs.Prelude.{None}
use Rattle.format.specs.declared.Fault.TheVariants.{StartDropped}

module _ (k : Call) (before after : List ℕ) (b : Built) (says : BuildSays k before after b) where
  abbrev X : Pair
  X = pair_of k

  -- the first N bytes
  abbrev first : List ℕ
  first = take (size X) after

  module _ (e : b.verdict ≡ Fine) where
    well : verdict_of (build_checks k before) ≡ Fine
    well = (accepted k before after b says e).1

    answer : Accepted X before after b
    answer = (accepted k before after b says e).0

    pair_good : GoodPair X
    pair_good = good k before well

    kept_bytes : IsKept X first
    kept_bytes = first_largest k before after b pair_good answer

    -- ask over them, at a configuration of the pair, is done
    set_is : {c : Conf} → Within X c → move_set X after c ≡ (ask_of k after c).set
    set_is {c} i =
        let enters : verdict_of (enter_checks k) ≡ Fine = build_enters k before well in
        ap (λ (a : Asked). a.set) (ask_done k after c enters (answer_able k after enters kept_bytes i))

    pub moves_are : (S : Conf → Type 0) → LargestSet X S → (c : Conf) → Within X c → (x y : ℕ) → x < 8 → y < 8 → asks_bit k after c x y ↔ AllowedIn X S c x y
    moves_are S l c i x y hx hy =
        let same = one_largest X (KeptAt X first) S kept_bytes.largest l in
        let bit = set_bit X pair_good after i x y hx hy in (
          λ q. allowed_mono X (λ d m. (same d).0 ((first_kept X after d).1 m)) (bit.0 (subst (λ (z : ℕ). z / 2 ^ move_of x y % 2 ≡ 1) (sym (set_is i)) q)),
          λ a. subst (λ (z : ℕ). z / 2 ^ move_of x y % 2 ≡ 1) (set_is i) (bit.1 (allowed_mono X (λ d m. (first_kept X after d).0 ((same d).1 m)) a)),
        )

  -- accepted, or refused with 11
  rounds_true : verdict_of (build_checks k before) ≡ Fine → RoundsAre X b.rounds → RoundsTrue k b.rounds
  rounds_true well r =
      let h = rounds_between X (good k before well) b.rounds r in
      record { are_rounds = r; positive = h.0; few = h.1 }

  pub demand2 : Demand2 k after (of_built b)
  demand2 = record {
    kept_bytes = kept_bytes;
    start_in = λ e. (first_kept X after (start X)).0 (start_kept k before after b (pair_good e) (answer e));
    kept_count_is = λ e. (answer e).kept ∙ ap kept_count (sym (first_bytes k before after b (pair_good e) (answer e)));
    start_out = λ e S l m.
        let n = no_converter k before after b says e in
        let largest = (answer_largest X (good k before n.1) n.0.answer).largest in
        n.0.start_out ((one_largest X (KeptAt X n.0.bytes) S largest l (start X)).1 m);
    moves = moves_are;
    rounds_done = λ e. rounds_true (well e) (answer e).answer.are_rounds;
    rounds_none = λ e. let n = no_converter k before after b says e in rounds_true n.1 n.0.answer.are_rounds;
  }

-- ---- as the generator reads it

module _ (k : Call) (before after : List ℕ) (z : ℕ) (p : PackedBuild k before after z) where
  -- the packed number says what the result says
  pub packed_reads : NumberedBuild p.built.verdict × UnpackedBuilt z p.built
  packed_reads = (build_numbered k before after p.built p.says, build_fields k before after z p)

  done_of : z % 2 ^ 8 ≡ 0 → p.built.verdict ≡ Fine
  done_of e = packed_reads.0.zero_done.0 (sym packed_reads.1.number_is ∙ e)

  none_of : z % 2 ^ 8 ≡ 11 → p.built.verdict ≡ Refused StartDropped None 0
  none_of e = packed_reads.0.eleven_none.0 (sym packed_reads.1.number_is ∙ e)

  pub demand2_packed : Demand2 k after (of_packed z)
  demand2_packed =
      let d = demand2 k before after p.built p.says in
      let rounds_is = packed_reads.1.fifth_is in
      record {
        kept_bytes = λ e. d.kept_bytes (done_of e);
        start_in = λ e. d.start_in (done_of e);
        kept_count_is = λ e. packed_reads.1.fourth_is ∙ d.kept_count_is (done_of e);
        start_out = λ e. d.start_out (none_of e);
        moves = λ e. d.moves (done_of e);
        rounds_done = λ e. rw rounds_is (d.rounds_done (done_of e));
        rounds_none = λ e. rw rounds_is (d.rounds_none (none_of e));
      }
