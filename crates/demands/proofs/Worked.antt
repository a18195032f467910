-- Every claim of every case holds, from the definitions: one computed equation over the table, and the laws on largest sets and kept bytes. Assumes nothing.
use Prim.Native.Nat.{ℕ, ◌≤◌}
use mathlib.Core.Path.{◌≡◌, refl, sym, subst}
use mathlib.Core.Logic.{◌⊎◌, inl, inr}
use mathlib.Core.Bool.{Bool, true, false, cond}
use mathlib.Core.List.{List, ◌++◌, map, Memᴰ, head-eq_of_cons-eq, tail-eq_of_cons-eq}
use lib.Dec.{eqb}
use lib.ListN.{length, drop, replicate}
use borrow.Author.Tests.{eqb-true, eqb-false}
use Rattle.format.specs.Verdicts.{Verdict, Fine, verdict_of}
use Rattle.format.specs.Format.{byte}
use Rattle.format.specs.Reads.{header_checks, row_checks, read_of}
use Rattle.rules.specs.declared.Pair.{Pair}
use Rattle.rules.specs.Configurations.{GoodPair, start, size, place}
use Rattle.rules.specs.Sets.{RoundsAre}
use Rattle.rules.specs.Kept.{KeptAt, IsKept, kept_count}
use Rattle.rules.specs.Tools.Computed.{answer, rounds}
use Rattle.rules.proofs.Places.{start_within}
use Rattle.rules.proofs.Bytes.{one_kept}
use Rattle.rules.proofs.Laws.{answer_kept, answer_rounds}
use Rattle.calls.specs.declared.Asked.{Asked}
use Rattle.calls.specs.declared.Built.{Built}
use Rattle.calls.specs.Build.{Answer, Made, BuildSays}
use Rattle.calls.proofs.Largest.{largest_answer, build_made, one_result}
use Rattle.calls.specs.Refusals.{enter_checks}
use Rattle.calls.specs.Ask.{answered, ask_of}
use Rattle.calls.proofs.Silent.{enter_good}
use Rattle.calls.specs.Begin.{begin_of}
use Rattle.calls.specs.Walks.{Walked, walk}
use Rattle.demands.specs.Cases.{Claim, built, asked, ran, Case, pair_in, marks, BuiltSays, result_of, BuildGives, returned, ended, Says, cases}

module _ {A B : Type 0} where
  at_member : (f g : A → B) {a : A} {l : List A} → map f l ≡ map g l → Memᴰ a l → f a ≡ g a
  at_member f g e (Memᴰ.head {x} {xs} q) = rw q (head-eq_of_cons-eq e)
  at_member f g e (Memᴰ.tail m) = at_member f g (tail-eq_of_cons-eq e) m

-- ---- what is computed for a claim, and what the claim wants

data Result : Type 0 where
  of_build : ℕ → ℕ → ℕ → List ℕ → ℕ → Result
  of_ask : Asked → Result
  of_run : (ℕ → Walked) → (ℕ → List (ℕ × ℕ)) → Result

-- a pair is accepted where its start is marked
numbered : Pair → List ℕ → ℕ
numbered X bytes = cond (eqb (byte bytes (place X (start X))) 1) 0 11

computed : Case → Claim → Result
computed k (built number rounds' n places) =
    let X : Pair = pair_in k in
    of_build (numbered X (marks n places)) (rounds X) (size X) (answer X) (kept_count (marks n places))
computed k (asked c set) = of_ask (ask_of k.call (answer (pair_in k)) c)
computed k (ran cs outs c accepted delivered) =
    of_run (λ any. walk k.call (answer (pair_in k)) (cs any) (begin_of k.call).run)
    (λ any. returned k.call (answer (pair_in k)) (cs any) (begin_of k.call).run)

wanted : Case → Claim → Result
wanted k (built number rounds' n places) = of_build number rounds' n (marks n places) (length places)
wanted k (asked c set) = of_ask (answered set)
wanted k (ran cs outs c accepted delivered) = of_run (λ any. ended (cs any) c accepted delivered) (λ any. outs)

computed_of : Case → List Result
computed_of k = map (computed k) k.claims

wanted_of : Case → List Result
wanted_of k = map (wanted k) k.claims

all_computed : map computed_of cases ≡ map wanted_of cases
unfolding computed_of wanted_of computed wanted numbered marks place answer rounds ask_of walk returned begin_of read_of
all_computed = refl

entered : Case → Verdict
entered k = verdict_of (enter_checks k.call)

all_entered : map entered cases ≡ map (λ k. Fine) cases
unfolding entered header_checks row_checks
all_entered = refl

-- ---- what is computed holds

number_of : (b n : ℕ) → cond (eqb b 1) 0 11 ≡ n → ((n ≡ 0) × (b ≡ 1)) ⊎ ((n ≡ 11) × (¬ (b ≡ 1)))
number_of b n e = go (eqb b 1) refl e
  where
    go : (t : Bool) → eqb b 1 ≡ t → cond t 0 11 ≡ n → ((n ≡ 0) × (b ≡ 1)) ⊎ ((n ≡ 11) × (¬ (b ≡ 1)))
    go true q d = inl (sym d, eqb-true b 1 q)
    go false q d = inr (sym d, eqb-false b 1 q)

module _ (k : Case) (fine : verdict_of (enter_checks k.call) ≡ Fine) where
  abbrev X : Pair
  X = pair_in k

  g : GoodPair X
  g = enter_good k.call fine

  number_says : (number : ℕ) (bytes : List ℕ) → numbered X bytes ≡ number
      → ((number ≡ 0) × KeptAt X bytes (start X)) ⊎ ((number ≡ 11) × (¬ KeptAt X bytes (start X)))
  unfolding numbered
  number_says number bytes e = go (number_of (byte bytes (place X (start X))) number e)
    where
      go : ((number ≡ 0) × (byte bytes (place X (start X)) ≡ 1)) ⊎ ((number ≡ 11) × (¬ (byte bytes (place X (start X)) ≡ 1)))
          → ((number ≡ 0) × KeptAt X bytes (start X)) ⊎ ((number ≡ 11) × (¬ KeptAt X bytes (start X)))
      go (inl h) = inl (h.0, record { within = start_within X g; is_one = h.1 })
      go (inr h) = inr (h.0, λ m. h.1 m.is_one)

  -- what build returns and leaves is fixed by the rules' terms
  gives : (number rounds' n : ℕ) (places : List ℕ) → BuiltSays X number rounds' n places → kept_count (marks n places) ≡ length places
      → (before after : List ℕ) (b : Built) → n ≤ length before → BuildSays k.call before after b
      → BuildGives k.call number rounds' n places before after b
  gives number rounds' n places says count before after b room satisfies = go says.verdict
    where
      fits : size X ≤ length before
      fits = rw says.size_is room

      is : Answer X rounds' (marks n places)
      is = largest_answer X g says.kept says.are_rounds

      same : (a : Built) (left : List ℕ) → Made X before left a → (b ≡ a) × (after ≡ left)
      same a left made = one_result k.call before after left b a satisfies (build_made k.call before left a fine fits made)

      go : ((number ≡ 0) × KeptAt X (marks n places) (start X)) ⊎ ((number ≡ 11) × (¬ KeptAt X (marks n places) (start X)))
          → BuildGives k.call number rounds' n places before after b
      go (inl h) =
          let e = same (result_of 0 rounds' places) (marks n places ++ drop n before) (inl (record {
            bytes = marks n places;
            answer = is;
            start_in = h.1;
            verdict = refl;
            kept = sym count;
            buffer = rw says.size_is;
          })) in
          rw h.0 (record { number_is = rw e.0; result = e.0; bytes = e.1 })
      go (inr h) =
          let e = same (result_of 11 rounds' places) (replicate n 0 ++ drop n before) (inr (record {
            bytes = marks n places;
            answer = is;
            start_out = h.1;
            verdict = refl;
            kept = refl;
            buffer = rw says.size_is;
          })) in
          rw h.0 (record { number_is = rw e.0; result = e.0; bytes = e.1 })

  says : (q : Claim) → computed k q ≡ wanted k q → Says k q
  unfolding computed wanted
  says (built number rounds' n places) e =
      let v : numbered X (marks n places) ≡ number = cc in
      let r : rounds X ≡ rounds' = cc in
      let z : size X ≡ n = cc in
      let a : answer X ≡ marks n places = cc in
      let count : kept_count (marks n places) ≡ length places = cc in
      let built_says : BuiltSays X number rounds' n places = record {
        good = g;
        size_is = z;
        kept = subst (IsKept X) a (answer_kept X g);
        are_rounds = subst (RoundsAre X) r (answer_rounds X g);
        verdict = number_says number (marks n places) v;
      } in
      (built_says, gives number rounds' n places built_says count)
  says (asked c set) e = λ bytes is.
      let a : ask_of k.call (answer X) c ≡ answered set = cc in
      subst (λ (l : List ℕ). ask_of k.call l c ≡ answered set) (one_kept X g (answer X) bytes (answer_kept X g) is) a
  says (ran cs outs c accepted delivered) e = λ bytes any is.
      let u = (begin_of k.call).run in
      let f : ◌≡◌ {A = ℕ → Walked} (λ n. walk k.call (answer X) (cs n) u) (λ n. ended (cs n) c accepted delivered) = cc in
      let h : ◌≡◌ {A = ℕ → List (ℕ × ℕ)} (λ n. returned k.call (answer X) (cs n) u) (λ n. outs) = cc in
      let same = one_kept X g (answer X) bytes (answer_kept X g) is in (
        subst (λ (l : List ℕ). walk k.call l (cs any) u ≡ ended (cs any) c accepted delivered) same (λ i. f i any),
        subst (λ (l : List ℕ). returned k.call l (cs any) u ≡ outs) same (λ i. h i any),
      )

pub worked : (k : Case) → Memᴰ k cases → (q : Claim) → Memᴰ q k.claims → Says k q
unfolding entered computed_of wanted_of
worked k m q n =
    let fine : verdict_of (enter_checks k.call) ≡ Fine = at_member entered (λ k. Fine) all_entered m in
    says k fine q (at_member (computed k) (wanted k) (at_member computed_of wanted_of all_computed m) n)
