-- The items of a step over lists, and the 16 places of a run against its list of held items. Over any number of units.
-- Assumes nothing.
use Prim.Native.Nat.{ℕ, zero, suc, ◌+◌, ◌-◌, ◌≤◌, ◌<◌}
use native.Mathlib.Omega.{arith}
use mathlib.Core.Path.{◌≡◌, refl, sym, ap, ◌∙◌}
use mathlib.Core.List.{List, [], ◌∷◌, ◌++◌}
use lib.ListN.{length, take, drop, replicate, length-append, length-drop, take-append-drop, get_or-append}
use lib.Seq.{take-append-le, drop-append-le, ext_get_or, get_or-append-add, length-take-le}
use Rattle.lists.specs.Lists.{tab}
use Rattle.lists.proofs.Tab.{length_tab, tab_at, drop_replicate, get_d_same}
use Rattle.calls.specs.declared.Run.{Run}
use Rattle.calls.specs.Items.{firsts, queued, delivered, held_after, padded}
use Rattle.calls.specs.Runs.{held_at, held_of}

-- ---- over lists

pub length_firsts : (n : ℕ) (l : List ℕ) → length (firsts n l) ≡ n
length_firsts zero l = refl
length_firsts (suc n) [] = ap suc (length_firsts n [])
length_firsts (suc n) (x ∷ l) = ap suc (length_firsts n l)

module _ (held : List ℕ) (written taken : ℕ) (incoming : List ℕ) where
  pub length_queued : length (queued held written incoming) ≡ length held + written
  length_queued = omega (arith, length-append held (firsts written incoming), length_firsts written incoming)

  -- what is delivered, followed by what is held afterwards, is what was held, followed by what is accepted
  pub in_order : delivered held written taken incoming ++ held_after held written taken incoming ≡ held ++ firsts written incoming
  in_order = take-append-drop taken (queued held written incoming)

  -- the held count after is the net change
  pub length_after : length (held_after held written taken incoming) ≡ length held + written - taken
  length_after = omega (arith, length-drop taken (queued held written incoming), length_queued)

  -- where enough is there, as many are delivered as are taken
  pub length_delivered : taken ≤ length held + written → length (delivered held written taken incoming) ≡ taken
  length_delivered h = length-take-le taken (queued held written incoming) (omega (arith, length_queued))

  -- registered, where the tests ask that what is taken was held at the start of the cycle: the front of what was held leaves, and what is
  -- accepted goes behind the rest
  pub front_leaves : taken ≤ length held → delivered held written taken incoming ≡ take taken held
  front_leaves h = take-append-le taken held (firsts written incoming) h

  pub behind_rest : taken ≤ length held → held_after held written taken incoming ≡ drop taken held ++ firsts written incoming
  behind_rest h = drop-append-le taken held (firsts written incoming) h

-- ---- the 16 places of a run

pub held_count : (u : Run) → length (held_of u) ≡ u.level
unfolding held_of
held_count u = length_tab (held_at u.items) u.level

module _ (held : List ℕ) where
  -- the items that stand in the places are those that were put there, and zeros stand after them
  pub padded_held : (level : ℕ) → length held ≡ level → tab (held_at (padded held)) level ≡ held
  unfolding padded
  padded_held level e =
      ext_get_or 0 _ held (length_tab _ level ∙ sym e)
      (λ i h.
      let l : i < level = omega (arith, length_tab (held_at (padded held)) level) in
      tab_at (held_at (padded held)) level i 0 l ∙ get_or-append held (replicate (16 - length held) 0) 0 i (omega arith))

  pub padded_zero : (i : ℕ) → length held ≤ i → held_at (padded held) i ≡ 0
  unfolding padded
  padded_zero i h =
      let e : i ≡ length held + (i - length held) = omega arith in
      rw e (get_or-append-add held (replicate (16 - length held) 0) (i - length held) 0 ∙ get_d_same (16 - length held) (i - length held) 0)

pub padded_none : replicate 16 0 ≡ padded []
unfolding padded
padded_none = refl

-- places that are filled from the front, over zeros
pub padded_fill : (f : ℕ → ℕ) (n : ℕ) → tab f n ++ drop n (replicate 16 0) ≡ padded (tab f n)
unfolding padded
padded_fill f n = rw (drop_replicate {A = ℕ} 16 n 0, length_tab f n)
