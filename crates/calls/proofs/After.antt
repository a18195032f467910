-- The run after a step that is done with two rows: it holds what the lists say, and makes sense. Assumes nothing.
use Prim.Native.Nat.{ℕ, ◌≤◌}
use native.Mathlib.Omega.{arith}
use mathlib.Core.Path.{◌≡◌, refl, sym, ap}
use mathlib.Core.List.{List, [], ◌∷◌}
use lib.ListN.{length, get_or, take}
use Rattle.format.specs.declared.Row.{Row}
use Rattle.rules.specs.declared.Conf.{Conf}
use Rattle.rules.specs.declared.Pair.{Pair}
use Rattle.rules.specs.Configurations.{Within, after}
use Rattle.calls.specs.declared.Run.{Run}
use Rattle.calls.specs.Items.{delivered, held_after, padded}
use Rattle.calls.specs.Runs.{conf_of, held_of, run_at, GoodRun}
use Rattle.calls.specs.Step.{done_by}
use Rattle.calls.specs.Past.{Movable}
use Rattle.calls.specs.Walks.{delivered_by}
use Rattle.calls.proofs.Queues.{held_count, length_after, length_delivered, padded_held}

-- a run that is put together of a configuration and as many items as its level holds just these
module _ (c : Conf) (held : List ℕ) (count : length held ≡ c.level) where
  pub run_held : held_of (run_at c held) ≡ held
  unfolding held_of
  run_held = padded_held held c.level count

  pub run_good : (X : Pair) → Within X c → GoodRun X (run_at c held)
  run_good X i = record { within = i; zeros = ap padded (sym run_held) }

module _ (u : Run) (w r : Row) (incoming : List ℕ) where
  abbrev left : List ℕ
  left = held_after (held_of u) w.item r.item incoming

  -- the held count after is the level after, which is the net change
  pub count_after : length left ≡ (after (conf_of u) w r).level
  count_after = omega (arith, length_after (held_of u) w.item r.item incoming, held_count u)

  pub held_after_lem : held_of (done_by u w r incoming).run ≡ left
  unfolding done_by
  held_after_lem = run_held (after (conf_of u) w r) left count_after

  pub good_after : (X : Pair) → Within X (after (conf_of u) w r) → GoodRun X (done_by u w r incoming).run
  unfolding done_by
  good_after X i = run_good (after (conf_of u) w r) left count_after X i

  pub mark_after : Movable u w r → (done_by u w r incoming).mark ≡ r.item
  unfolding done_by
  mark_after m = length_delivered (held_of u) w.item r.item incoming (omega (arith, m.enough, held_count u))

  pub delivered_after : Movable u w r → delivered_by (done_by u w r incoming) ≡ delivered (held_of u) w.item r.item incoming
  unfolding done_by
  delivered_after m =
      let d = delivered (held_of u) w.item r.item incoming in
      let e : length d ≡ r.item = length_delivered (held_of u) w.item r.item incoming (omega (arith, m.enough, held_count u)) in
      single d (omega (arith, m.takes))
    where
      single : (l : List ℕ) → length l ≤ 1 → take (length l) (get_or l 0 0 ∷ []) ≡ l
      single [] h = refl
      single (x ∷ []) h = refl
      single (x ∷ y ∷ l) h = absurd (omega arith)
