-- The executable builder solves: its list is the largest correct set, its rounds are the number of the definition,
-- from 1 to the number of places.
-- Assumes that the finish is a place.
use mathlib.Core.Path.{◌≡◌, refl, sym, ◌∙◌, subst}
use mathlib.Core.Logic.{◌↔◌}
use mathlib.Core.Bool.{Bool, true, false, cond}
use mathlib.Core.List.{List}
use Prim.Native.Nat.{ℕ, zero, suc, ◌+◌, ◌-◌, ◌≤◌, ◌<◌}
use native.Mathlib.Omega.{arith}
use lib.Dec.{T, eqb, eqb→eq, eqb_refl}
use lib.ListN.{length, replicate, length-replicate, get_or-replicate}
use Rattle.lists.specs.Lists.{count, In}
use Rattle.lists.proofs.Count.{in_length, count_length, count_positive, Sub, count_sub, same_of_count}
use Rattle.arena.specs.Arena.{Arena, Largest, Stage, Still, Rounds}
use Rattle.arena.specs.Builder.{round, Built, last_round, one_more, rest, build}
use Rattle.arena.proofs.Sets.{finish_stays, largest_same, rounds_largest}
use Rattle.arena.proofs.Marks.{round_exact, round_length}
use Rattle.arena.proofs.Loop.{NotYet, first_not_yet, not_last, round_next}

module _ (A : Arena) where
  -- ---- the round after K removes nothing exactly if the count stays

  module _ (K : List Bool) (i : ℕ) (e : length K ≡ A.size) (is : (p : ℕ) → In K p ↔ Stage A i p) where
    round_is : (p : ℕ) → In (round A K) p ↔ Stage A (suc i) p
    round_is = round_next A i (In K) (In (round A K)) is (round_exact A K e)

    round_sub : Sub (round A K) K
    round_sub p t = ((round_exact A K e p).0 t).was

    same_length : length (round A K) ≡ length K
    same_length = round_length A K e ∙ sym e

    round_count : count (round A K) ≤ count K
    round_count = count_sub (round A K) K same_length round_sub

    still_of_count : count (round A K) ≡ count K → Still A i
    still_of_count c p s =
        let q : round A K ≡ K = same_of_count (round A K) K same_length round_sub (omega arith) in
        (round_is p).0 (subst (λ (M : List Bool). In M p) (sym q) ((is p).1 s))

    count_of_still : Still A i → count (round A K) ≡ count K
    count_of_still s =
        let h : count K ≤ count (round A K) = count_sub K (round A K) (sym same_length) (λ p t. (round_is p).1 (s p ((is p).0 t))) in
        omega (arith, round_count)

  -- ---- the rounds from the i-th on, where n members were left, have ended in b

  record Ends (b : Built) (n i : ℕ) : Type 0 where
    long : length b.kept ≡ A.size
    positive : 1 ≤ b.rounds
    few : b.rounds ≤ n
    rounds_are : Rounds A (i + b.rounds)
    kept_is : (p : ℕ) → In b.kept p ↔ Stage A (i + b.rounds - 1) p

  ends_now : (n i : ℕ) (K : List Bool) → length K ≡ A.size → ((p : ℕ) → In K p ↔ Stage A i p) → NotYet A i → Still A i → Ends (last_round K) (suc n) i
  ends_now n i K e is before s =
      let q : i ≡ i + 1 - 1 = omega arith in
      record {
        long = e;
        positive = omega arith;
        few = omega arith;
        rounds_are = record {
          positive = omega arith;
          last = subst (Still A) q s;
          before = λ j h. before j (omega arith);
        };
        kept_is = subst (λ (k : ℕ). (p : ℕ) → In K p ↔ Stage A k p) q is;
      }

  ends_later : (n i : ℕ) (b : Built) → Ends b n (suc i) → Ends (one_more b) (suc n) i
  ends_later n i b h =
      let q : suc i + b.rounds ≡ i + suc b.rounds = omega arith in
      record {
        long = h.long;
        positive = omega arith;
        few = omega (arith, h.few);
        rounds_are = subst (Rounds A) q h.rounds_are;
        kept_is = subst (λ (k : ℕ). (p : ℕ) → In b.kept p ↔ Stage A (k - 1) p) q h.kept_is;
      }

  rest_ends :
      A.finish < A.size → (n i : ℕ) (K : List Bool) → length K ≡ A.size → ((p : ℕ) → In K p ↔ Stage A i p)
      → NotYet A i → count K ≤ n → Ends (rest A n K) n i
  unfolding rest
  rest_ends f zero i K e is before c = absurd (omega (arith, count_positive K A.finish ((is A.finish).1 (finish_stays A f i))))
  rest_ends f (suc n) i K e is before c =
      go (rest_ends f n (suc i) (round A K) (round_length A K e) (round_is K i e is)) (eqb (count (round A K)) (count K)) refl
    where
      go : (NotYet A (suc i) → count (round A K) ≤ n → Ends (rest A n (round A K)) n (suc i))
          → (b : Bool) → eqb (count (round A K)) (count K) ≡ b
          → Ends (cond b (last_round K) (one_more (rest A n (round A K)))) (suc n) i
      go later true q = ends_now n i K e is before (still_of_count K i e is (eqb→eq (count (round A K)) (count K) (subst T (sym q) tt)))
      go later false q =
          let differs : ¬ (count (round A K) ≡ count K) = λ d. subst T q (subst (λ (x : ℕ). T (eqb x (count K))) (sym d) (eqb_refl (count K))) in
          ends_later n i (rest A n (round A K))
          (later (not_last A i before (λ s. differs (count_of_still K i e is s))) (omega (arith, round_count K i e is)))

  in_full : (n p : ℕ) → In (replicate n true) p ↔ (p < n)
  in_full n p = (
    λ t. subst (λ (k : ℕ). p < k) (length-replicate n true) (in_length (replicate n true) p t),
    λ h. subst T (sym (get_or-replicate n p true false h)) tt,
  )

  -- ---- what `build` gives

  pub record Solved (b : Built) : Type 1 where
    pub long : length b.kept ≡ A.size
    pub largest : Largest A (In b.kept)
    pub kept_is : (p : ℕ) → In b.kept p ↔ Stage A (b.rounds - 1) p
    pub rounds_are : Rounds A b.rounds
    pub positive : 1 ≤ b.rounds
    pub few : b.rounds ≤ A.size

  pub build_solves : A.finish < A.size → Solved (build A)
  unfolding build
  build_solves f =
      let full : List Bool = replicate A.size true in
      let small : count full ≤ A.size = omega (arith, count_length full, length-replicate A.size true) in
      let h : Ends (build A) A.size 0 = rest_ends f A.size 0 full (length-replicate A.size true) (in_full A.size) (first_not_yet A) small in
      let q : 0 + (build A).rounds ≡ (build A).rounds = omega arith in
      let r : Rounds A (build A).rounds = subst (Rounds A) q h.rounds_are in
      let is : (p : ℕ) → In (build A).kept p ↔ Stage A ((build A).rounds - 1) p =
      subst (λ (x : ℕ). (p : ℕ) → In (build A).kept p ↔ Stage A (x - 1) p) q h.kept_is in
      record {
        long = h.long;
        largest = largest_same A (λ p. ((is p).1, (is p).0)) (rounds_largest A (build A).rounds r);
        kept_is = is;
        rounds_are = r;
        positive = h.positive;
        few = h.few;
      }
