-- Demand 3's first half: every point of a run from `begin`'s run, under kept bytes whose first N are the answer and keep the start.
-- Assumes nothing.
use Prim.Native.Nat.{ℕ, suc, ◌-◌, zero-le, suc-le-suc}
use native.Mathlib.Nat.{le_trans}
use native.Mathlib.Omega.{arith}
use mathlib.Core.Path.{◌≡◌, refl, sym, ap, ◌∙◌, subst}
use mathlib.Core.List.{List, [], ◌∷◌, ◌++◌, append_assoc, append-nil}
use lib.ListN.{length, take}
use Rattle.format.specs.declared.Row.{Row}
use Rattle.format.specs.Verdicts.{Verdict, Fine, verdict_of}
use Rattle.rules.specs.declared.Conf.{Conf}
use Rattle.rules.specs.declared.Pair.{Pair}
use Rattle.rules.specs.Configurations.{Within, size, Outcome, after, start, finish}
use Rattle.rules.specs.Ways.{there, onward}
use Rattle.rules.specs.Sets.{AllowedIn, ReachesIn}
use Rattle.rules.specs.Kept.{KeptAt, IsKept, kept_count}
use Rattle.rules.proofs.Sets.{allowed_mono}
use Rattle.rules.proofs.Bytes.{first_kept, kept_path}
use Rattle.calls.specs.Call.{Call, pair_of}
use Rattle.calls.specs.Refusals.{enter_checks}
use Rattle.calls.specs.Past.{Askable}
use Rattle.calls.proofs.Silent.{enter_good, open_silent, answer_able, begin_done}
use Rattle.calls.specs.declared.Run.{Run}
use Rattle.calls.specs.declared.Cycle.{Cycle}
use Rattle.calls.specs.declared.Stepped.{Stepped}
use Rattle.calls.specs.declared.Begun.{Begun}
use Rattle.calls.specs.Items.{padded}
use Rattle.calls.specs.Runs.{conf_of, held_of, GoodRun}
use Rattle.calls.specs.Begin.{start_run, begin_of}
use Rattle.calls.specs.Step.{done_by, step_of}
use Rattle.calls.specs.Walks.{accepted_in, delivered_by, Walked, more, go_on, walk}
use Rattle.calls.specs.Points.{cycle_of, FinishesIn, Point}
use Rattle.calls.proofs.Queues.{held_count}
use Rattle.calls.proofs.Turns.{outcome_movable}
use Rattle.calls.proofs.After.{run_held, run_good, good_after, mark_after}
use Rattle.calls.proofs.Accepted.{step_keeps, step_accepts}
use Rattle.calls.proofs.Refused.{step_returns}
use Rattle.calls.proofs.StepSays.{PastLetters, refused_because}
use Rattle.std.specs.Prelude.{Ok, Err}

no_items : (l : List ℕ) → length l ≡ 0 → l ≡ []
no_items [] e = refl
no_items (x ∷ l) e = absurd (omega arith)

-- ---- a walk keeps the items in order, over any bytes

module _ (k : Call) (bytes : List ℕ) where
  abbrev X : Pair
  X = pair_of k

  -- u is a run that makes sense, at a kept configuration
  pub record Stands (u : Run) : Type 0 where
    pub good : GoodRun X u
    pub kept : KeptAt X bytes (conf_of u)

  pub record WalkKeeps (u : Run) (w : Walked) : Type 0 where
    pub stands_at : Stands w.run
    pub in_order : w.delivered ++ held_of w.run ≡ held_of u ++ w.accepted

  pub walk_keeps : (cs : List Cycle) (u : Run) → Stands u → WalkKeeps u (walk k bytes cs u)
  unfolding walk
  walk_keeps [] u s = record { stands_at = s; in_order = sym (append-nil (held_of u)) }
  walk_keeps (c ∷ cs) u s = go (walk_keeps cs) (step_of k bytes u c).verdict refl
    where
      it : Stepped
      it = step_of k bytes u c

      go : ((v : Run) → Stands v → WalkKeeps v (walk k bytes cs v))
          → (v : Verdict) → it.verdict ≡ v
          → WalkKeeps u (go_on v u (more (accepted_in X u c) (delivered_by it) (walk k bytes cs it.run)))
      go rest (Err r) e = record { stands_at = s; in_order = sym (append-nil (held_of u)) }
      go rest (Ok tt) e =
          let s = step_keeps k bytes u c e in
          let h = rest it.run (record { good = s.good; kept = s.lands }) in
          let w : Walked = walk k bytes cs it.run in
          record {
            stands_at = h.stands_at;
            in_order =
                append_assoc (delivered_by it) w.delivered (held_of w.run)
                ∙ ap (λ (l : List ℕ). delivered_by it ++ l) h.in_order
                ∙ sym (append_assoc (delivered_by it) (held_of it.run) w.accepted)
                ∙ ap (λ (l : List ℕ). l ++ w.accepted) s.in_order
                ∙ append_assoc (held_of u) (accepted_in X u c) w.accepted;
          }

  -- ---- a path over configurations, walked with items

  module _ (fine : verdict_of (enter_checks k) ≡ Fine) (able : (c : Conf) → Within X c → Askable X bytes c) where
    one_more : {n : ℕ} (u : Run) {x y : ℕ} {a b : Row} → GoodRun X u → AllowedIn X (KeptAt X bytes) (conf_of u) x y → Outcome X (conf_of u) x y a b
        → FinishesIn k bytes n (done_by u a b (0 ∷ [])).run → FinishesIn k bytes (suc n) u
    unfolding walk done_by
    one_more u {x} {y} {a} {b} g move o rest =
        let e = step_accepts k bytes u fine (able (conf_of u) g.within) g move o 0 in
        record {
          cycles = cycle_of x y a b 0 ∷ rest.cycles;
          few = suc-le-suc rest.few;
          fine = rw e rest.fine;
          finished = rw e rest.finished;
        }

    finish_by : {n : ℕ} {c : Conf} → ReachesIn X (KeptAt X bytes) n c → (u : Run) → conf_of u ≡ c → GoodRun X u → FinishesIn k bytes n u
    unfolding walk done_by
    finish_by (there d) u e g =
        let at : conf_of u ≡ finish X = e ∙ d in
        let none : held_of u ≡ [] = no_items (held_of u) (held_count u ∙ ap (λ (z : Conf). z.level) at) in
        let zeros : u.items ≡ padded [] = g.zeros ∙ ap padded none in
        record {
          cycles = [];
          few = zero-le;
          fine = refl;
          finished = λ i. record { writer = (at i).writer; reader = (at i).reader; level = (at i).level; items = zeros i };
        }
    finish_by (onward {c = c} {x} {y} {w} {r} a o rest) u e g =
        let a' : AllowedIn X (KeptAt X bytes) (conf_of u) x y = subst (λ (z : Conf). AllowedIn X (KeptAt X bytes) z x y) (sym e) a in
        let o' : Outcome X (conf_of u) x y w r = subst (λ (z : Conf). Outcome X z x y w r) (sym e) o in
        let next = good_after u w r (0 ∷ []) X (a'.lands w r o').within in
        one_more u g a' o' (finish_by rest (done_by u w r (0 ∷ [])).run (ap (λ (z : Conf). after z w r) e) next)

  -- ---- under the answer: of the bytes lent, the first N are those of the largest correct set

  abbrev pub first : List ℕ
  first = take (size X) bytes

  path_lent : {n : ℕ} {c : Conf} → ReachesIn X (KeptAt X first) n c → ReachesIn X (KeptAt X bytes) n c
  path_lent (there e) = there e
  path_lent (onward a o rest) = onward (allowed_mono X (λ c m. (first_kept X bytes c).0 m) a) o (path_lent rest)

  module _ (fine : verdict_of (enter_checks k) ≡ Fine) (is : IsKept X first) where
    able : (c : Conf) → Within X c → Askable X bytes c
    able c i = answer_able k bytes fine is i

    from_kept : (u : Run) → Stands u → FinishesIn k bytes (kept_count first - 1) u
    from_kept u s =
        let n = kept_path X (enter_good k fine) first is (conf_of u) ((first_kept X bytes (conf_of u)).1 s.kept) in
        let f = finish_by fine able (path_lent n.path) u refl s.good in
        record { cycles = f.cycles; few = le_trans f.few n.few; fine = f.fine; finished = f.finished }

    point : (w : Walked) → WalkKeeps (start_run X) w → Point k bytes w
    point w h =
        let u : Run = w.run in
        let within : Within X (conf_of u) = h.stands_at.good.within in
        let none : held_of (start_run X) ≡ [] = run_held (start X) [] refl in
        record {
          in_order = h.in_order ∙ ap (λ (l : List ℕ). l ++ w.accepted) none;
          counted = held_count u;
          bounded = omega (arith, held_count u, within.level_in);
          can_finish = from_kept u h.stands_at;
          accepts = λ x y a b incoming move o. (
            step_accepts k bytes u fine (able (conf_of u) within) h.stands_at.good move o incoming,
            mark_after u a b (incoming ∷ []) (outcome_movable X bytes u (able (conf_of u) within) move o),
          );
          refuses = λ c hx hy none.
              let opens = open_silent X bytes u (able (conf_of u) within) h.stands_at.good in
              let past : PastLetters k bytes u c = record { enters = fine; opens = opens; writer_letter = hx; reader_letter = hy } in
              let r = refused_because k bytes u c past none in
              (r.0, r.1, step_returns k bytes u c r.2);
        }

    -- demand 3, of every point of a run from the start, over any cycles
    pub run_points : KeptAt X first (start X) → (cs : List Cycle) → Point k bytes (walk k bytes cs (begin_of k).run)
    run_points kept cs =
        let e : start_run X ≡ (begin_of k).run = ap (λ (z : Begun). z.run) (begin_done k fine) in
        let s : Stands (start_run X) = record { good = run_good (start X) [] refl X kept.within; kept = (first_kept X bytes (start X)).0 kept } in
        subst (λ (u : Run). Point k bytes (walk k bytes cs u)) e (point _ (walk_keeps cs (start_run X) s))
