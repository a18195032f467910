-- The cut of the input: how many bytes a table gets, the order of the places, whole tables, and later bytes. Assumes nothing.
use Prim.Native.Nat.{ℕ, suc, ◌+◌, ◌-◌, ◌≤◌, ◌<◌, min}
use native.Mathlib.Omega.{arith}
use mathlib.Core.Path.{◌≡◌, refl, sym, ◌∙◌}
use mathlib.Core.Logic.{◌⊎◌, inl, inr}
use mathlib.Core.Bool.{Bool, true, false, cond}
use mathlib.Core.List.{List, [], ◌∷◌, ◌++◌}
use lib.ListN.{length, get_or, drop, length-append, length-drop, get_or-append}
use lib.Seq.{drop-append-le, drop-append_seam, drop-append-add}
use lib.Dec.{ltb}
use borrow.Author.Tests.{lt-ltb, le-ltb}
use Rattle.lists.proofs.Rest.{le_or_lt}
use Rattle.texts.specs.Cut.{length_field, table_bytes, cut_of, Behind, InOrder}
use Rattle.texts.specs.declared.Cut.{Cut}

abbrev pub as_cut : ℕ → ℕ → ℕ → ℕ → Cut
as_cut w r b u = record { writer = w; reader = r; bound = b; rule = u }

-- ---- how many bytes a table gets

module _ (bs : List ℕ) where
  pub no_field : length bs < 3 → table_bytes bs ≡ length bs
  unfolding table_bytes
  no_field h = rw (lt-ltb (length bs) 3 h)

  pub a_field : 3 ≤ length bs → table_bytes bs ≡ min (3 + length_field bs) (length bs)
  unfolding table_bytes
  a_field h = rw (le-ltb (length bs) 3 h)

  pub table_inside : table_bytes bs ≤ length bs
  unfolding table_bytes
  table_inside = go (ltb (length bs) 3)
    where
      go : (b : Bool) → cond b (length bs) (min (3 + length_field bs) (length bs)) ≤ length bs
      go true = omega arith
      go false = omega arith

-- with more bytes behind them, the bytes of a whole table say where it ends
whole_table : (bs more : List ℕ) → 3 + length_field bs ≤ length bs → table_bytes (bs ++ more) ≡ 3 + length_field bs
whole_table bs more h =
    let l : length (bs ++ more) ≡ length bs + length more = length-append bs more in
    let one = get_or-append bs more 0 1 (omega arith) in
    let two = get_or-append bs more 0 2 (omega arith) in
    omega (arith, a_field (bs ++ more) (omega arith))

-- and a table that ends before the bytes do is whole
table_stays : (bs more : List ℕ) → table_bytes bs < length bs → table_bytes (bs ++ more) ≡ table_bytes bs
table_stays bs more h = go (le_or_lt 3 (length bs))
  where
    go : (3 ≤ length bs) ⊎ (length bs < 3) → table_bytes (bs ++ more) ≡ table_bytes bs
    go (inl k) = let f = a_field bs k in omega (arith, whole_table bs more (omega arith))
    go (inr k) = absurd (omega (arith, no_field bs k))

-- ---- the cut

-- w and m are the lengths of the tables, b and u bound and rule, as they were read
pub cut_read :
    (bs : List ℕ) (w m : ℕ) {b u : ℕ} → w ≡ table_bytes bs → m ≡ table_bytes (drop w bs)
    → b ≡ get_or (drop (w + m) bs) 0 0 → u ≡ get_or (drop (w + m) bs) 1 1 → as_cut w (w + m) b u ≡ cut_of bs
unfolding cut_of
cut_read bs w m e f g h = rw (g, h, f, e)

pub tables_inside : (bs : List ℕ) (w m : ℕ) → w ≡ table_bytes bs → m ≡ table_bytes (drop w bs) → w + m ≤ length bs
tables_inside bs w m e f = omega (arith, table_inside bs, table_inside (drop w bs), length-drop w bs)

behind : (rest : List ℕ) → Behind rest (get_or rest 0 0) (get_or rest 1 1)
behind [] = (refl, refl)
behind (b ∷ []) = (refl, refl)
behind (b ∷ r ∷ later) = (refl, refl)

pub in_order : (bs : List ℕ) → InOrder bs (cut_of bs)
unfolding cut_of
in_order bs = record { low = omega arith; high = tables_inside bs _ _ refl refl; behind = behind (drop (cut_of bs).reader bs) }

-- two tables whose length fields are true, and what follows them
pub cut_whole :
    (w r rest : List ℕ) → 3 + length_field w ≡ length w → 3 + length_field r ≡ length r
    → cut_of (w ++ (r ++ rest)) ≡ as_cut (length w) (length w + length r) (get_or rest 0 0) (get_or rest 1 1)
cut_whole w r rest e f =
    let d : drop (length w) (w ++ (r ++ rest)) ≡ r ++ rest = drop-append_seam w (r ++ rest) in
    let t : drop (length w + length r) (w ++ (r ++ rest)) ≡ rest = drop-append-add w (r ++ rest) (length r) ∙ drop-append_seam r rest in
    sym (cut_read (w ++ (r ++ rest)) (length w) (length r)
    (omega (arith, whole_table w (r ++ rest) (omega arith)))
    (rw d (omega (arith, whole_table r rest (omega arith))))
    (rw t)
    (rw t))

-- where the rule byte is there, bytes behind it change nothing
pub later_ignored : (bs more : List ℕ) → suc (suc (cut_of bs).reader) ≤ length bs → cut_of (bs ++ more) ≡ cut_of bs
unfolding cut_of
later_ignored bs more h =
    let w = table_bytes bs in
    let m = table_bytes (drop w bs) in
    let d : drop w (bs ++ more) ≡ drop w bs ++ more = drop-append-le w bs more (omega arith) in
    let t : drop (w + m) (bs ++ more) ≡ drop (w + m) bs ++ more = drop-append-le (w + m) bs more (omega arith) in
    let k : length (drop (w + m) bs) ≡ length bs - (w + m) = length-drop (w + m) bs in
    sym (cut_read (bs ++ more) w m
    (sym (table_stays bs more (omega arith)))
    (rw d (sym (table_stays (drop w bs) more (omega (arith, length-drop w bs)))))
    (rw (t, get_or-append (drop (w + m) bs) more 0 0 (omega arith)))
    (rw (t, get_or-append (drop (w + m) bs) more 1 1 (omega arith))))
