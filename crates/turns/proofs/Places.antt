-- What the code takes from the 16 places of a run is what the lists say, where a row moves at most one item. Assumes nothing.
use Prim.Native.Nat.{ℕ, zero, suc, ◌+◌, ◌-◌, ◌≤◌, ◌<◌}
use native.Mathlib.Omega.{arith}
use mathlib.Core.Path.{◌≡◌, refl, sym, ap, ◌∙◌}
use mathlib.Core.Logic.{⊎_elim}
use mathlib.Core.List.{List, [], ◌∷◌}
use lib.ListN.{length, get_or, take, drop, length-drop, get_or-append}
use lib.Seq.{ext_get_or, get_or-drop, get_or-take, get_or-append-add}
use borrow.Author.Tests.{lt-ltb, le-ltb, ne_eqb}
use Rattle.lists.specs.Lists.{tab}
use Rattle.lists.proofs.Rest.{le_or_lt}
use Rattle.lists.proofs.Tab.{length_tab, tab_at}
use Rattle.format.specs.declared.Row.{Row}
use Rattle.format.specs.Verdicts.{Fine}
use Rattle.calls.specs.declared.Run.{Run}
use Rattle.calls.specs.Items.{firsts, queued, delivered, held_after, padded}
use Rattle.calls.specs.Runs.{held_at, held_of}
use Rattle.calls.specs.Step.{done_by}
use Rattle.calls.specs.Past.{Movable}
use Rattle.calls.proofs.Queues.{length_queued, length_delivered, held_count}
use Rattle.turns.specs.Cycles.{queued_at, left_at, front_of}

-- ---- the queue, over the places

module _ (items : List ℕ) (level incoming written : ℕ) (single : written ≤ 1) where
  abbrev held : List ℕ
  held = tab (held_at items) level

  abbrev behind : List ℕ
  behind = firsts written (incoming ∷ [])

  abbrev queue : List ℕ
  queue = queued held written (incoming ∷ [])

  queue_long : length queue ≡ level + written
  queue_long = omega (arith, length_queued held written 0 (incoming ∷ []), length_tab (held_at items) level)

  one_behind : (n : ℕ) → n ≤ 1 → 0 < n → get_or (firsts n (incoming ∷ [])) 0 0 ≡ incoming
  one_behind zero h l = absurd (omega arith)
  one_behind (suc n) h l = refl

  queue_at : (i : ℕ) → i < level + written → queued_at items level incoming i ≡ get_or queue i 0
  queue_at i h =
      let long = length_tab (held_at items) level in
      ⊎_elim
      (λ (past : level ≤ i).
      let e : i ≡ length held + 0 = omega arith in
      let last : get_or queue i 0 ≡ get_or behind 0 0 = ap (λ (z : ℕ). get_or queue z 0) e ∙ get_or-append-add held behind 0 0 in
      rw (le-ltb i level past) (sym (last ∙ one_behind written single (omega arith))))
      (λ (l : i < level). rw (lt-ltb i level l) (sym (get_or-append held behind 0 i (omega arith) ∙ tab_at (held_at items) level i 0 l)))
      (le_or_lt level i)

  module _ (taken : ℕ) (enough : taken ≤ level + written) where
    pub left_is : (n : ℕ) → n ≡ level + written - taken → tab (left_at items level incoming taken) n ≡ drop taken queue
    left_is n e =
        ext_get_or 0 _ (drop taken queue) (length_tab _ n ∙ e ∙ sym (omega (arith, length-drop taken queue, queue_long)))
        (λ i l.
        let b : i < n = omega (arith, length_tab (left_at items level incoming taken) n) in
        tab_at (left_at items level incoming taken) n i 0 b ∙ queue_at (taken + i) (omega arith) ∙ sym (get_or-drop taken queue i 0))

    pub front_is : front_of items level incoming taken ≡ get_or (take taken queue) 0 0
    front_is = go taken enough
      where
        go : (n : ℕ) → n ≤ level + written → front_of items level incoming n ≡ get_or (take n queue) 0 0
        go zero l = refl
        go (suc n) l = rw (ne_eqb (suc n) 0 (λ e. omega arith)) (queue_at 0 (omega arith) ∙ sym (get_or-take (suc n) queue 0 0 (omega arith)))

-- ---- a cycle that is done

module _ (u : Run) (w r : Row) (incoming : ℕ) (m : Movable u w r) where
  abbrev stays : List ℕ
  stays = held_after (held_of u) w.item r.item (incoming ∷ [])

  abbrev leaves : List ℕ
  leaves = delivered (held_of u) w.item r.item (incoming ∷ [])

  places_are : {to : ℕ} → to ≡ u.level + w.item - r.item → padded (tab (left_at u.items u.level incoming r.item) to) ≡ padded stays
  unfolding held_of
  places_are {to} e = ap padded (left_is u.items u.level incoming w.item m.writes r.item m.enough to e)

  item_is : front_of u.items u.level incoming r.item ≡ get_or leaves 0 0
  unfolding held_of
  item_is = front_is u.items u.level incoming w.item m.writes r.item m.enough

  mark_is : r.item ≡ length leaves
  mark_is = sym (length_delivered (held_of u) w.item r.item (incoming ∷ []) (omega (arith, held_count u, m.enough)))

  pub done_is : {to : ℕ} → to ≡ u.level + w.item - r.item
      → {left : List ℕ} → left ≡ padded (tab (left_at u.items u.level incoming r.item) to)
      → {item : ℕ} → item ≡ front_of u.items u.level incoming r.item
      → record {
        verdict = Fine;
        run = record { writer = w.next; reader = r.next; level = to; items = left };
        item = item;
        mark = r.item;
      } ≡ done_by u w r (incoming ∷ [])
  unfolding done_by
  done_is level places front =
      let after = places ∙ places_are level in
      let item = front ∙ item_is in
      λ i. record {
        verdict = Fine;
        run = record { writer = w.next; reader = r.next; level = level i; items = after i };
        item = item i;
        mark = mark_is i;
      }
