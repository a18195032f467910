-- The tests of a row and of a pair of rows, as facts on numbers. Assumes nothing.
use Prim.Native.Nat.{ℕ, ◌+◌, ◌-◌, ◌*◌, ◌≤◌, ◌<◌}
use native.Mathlib.Omega.{arith}
use mathlib.Core.Path.{◌≡◌, refl}
use mathlib.Core.Bool.{Bool, true, false, cond, ◌&&◌}
use mathlib.Core.List.{List}
use lib.ListN.{length, drop, replicate}
use lib.Dec.{ltb, leb, eqb, ltb→lt, leb→le}
use borrow.Author.Tests.{lt-ltb, le-leb, ltb-true, eqb-true, not-false}
use Rattle.lists.proofs.Bools.{and_left, and_right, true_is}
use Rattle.lists.proofs.Tab.{drop_replicate}
use Rattle.format.specs.Format.{row_at, zero_row, no_rows}
use Rattle.format.specs.Reads.{row_fits, rises, fall_row}
use Rattle.format.specs.declared.Row.{Row}

-- ---- 7

pub record Fits (n d m : ℕ) (r : Row) : Type 0 where
  pub state : r.state < n
  pub drive : r.drive < d
  pub answer : r.answer < 16
  pub item : r.item ≤ m
  pub next : r.next < n

module _ (n d m : ℕ) (r : Row) where
  pub fits_of : row_fits n d m r ≡ true → Fits n d m r
  unfolding row_fits
  fits_of e =
      let a = ltb r.state n in
      let b = ltb r.drive d in
      let c = ltb r.answer 16 in
      let f = leb r.item m in
      let g = ltb r.next n in
      let t = true_is (a && (b && (c && (f && g)))) e in
      let u = and_right a (b && (c && (f && g))) t in
      let v = and_right b (c && (f && g)) u in
      let w = and_right c (f && g) v in
      record {
        state = ltb→lt _ _ (and_left a (b && (c && (f && g))) t);
        drive = ltb→lt _ _ (and_left b (c && (f && g)) u);
        answer = ltb→lt _ _ (and_left c (f && g) v);
        item = leb→le _ _ (and_left f g w);
        next = ltb→lt _ _ (and_right f g w);
      }

  -- the code's answers
  pub fits_no : (Fits n d m r → ⊥) → false ≡ row_fits n d m r
  fits_no out = go (row_fits n d m r) refl
    where
      go : (t : Bool) → row_fits n d m r ≡ t → false ≡ t
      go true e = absurd (out (fits_of e))
      go false e = refl

  pub fits_last : r.state < n → r.drive < d → r.answer < 16 → r.item ≤ m → ltb r.next n ≡ row_fits n d m r
  unfolding row_fits
  fits_last s x a i = simp (lt-ltb _ _ s, lt-ltb _ _ x, lt-ltb _ _ a, le-leb _ _ i)

-- ---- 8

-- the number by which rows rise, where there are at most 8 letters and 16 answers
abbrev pub key : Row → ℕ
key r = 128 * r.state + 16 * r.drive + r.answer

key_by :
    (a b : Row) (x y : Bool) → eqb a.state b.state ≡ x → eqb a.drive b.drive ≡ y
    → cond x (cond y (ltb a.answer b.answer) (ltb a.drive b.drive)) (ltb a.state b.state) ≡ true
    → a.drive < 8 → a.answer < 16 → key a < key b
key_by a b true true p q e h k = omega (arith, eqb-true a.state b.state p, eqb-true a.drive b.drive q, ltb-true a.answer b.answer e)
key_by a b true false p q e h k = omega (arith, eqb-true a.state b.state p, ltb-true a.drive b.drive e)
key_by a b false y p q e h k = omega (arith, ltb-true a.state b.state e)

pub rises_key : (a b : Row) → rises a b ≡ true → a.drive < 8 → a.answer < 16 → key a < key b
unfolding rises
rises_key a b e h k = key_by a b (eqb a.state b.state) (eqb a.drive b.drive) refl refl e h k

pub no_fall : (bs : List ℕ) (i : ℕ) → fall_row bs (i + 1) ≡ false → rises (row_at bs i) (row_at bs (i + 1)) ≡ true
unfolding fall_row
no_fall bs i e =
    let k : i + 1 - 1 ≡ i = omega arith in
    not-false _ (rw (lt-ltb 0 (i + 1) (omega arith), k) at e)

-- ---- unused rows

pub length_no_rows : length no_rows ≡ 64
unfolding no_rows
length_no_rows = refl

pub drop_no_rows : (i : ℕ) → drop i no_rows ≡ replicate (64 - i) zero_row
unfolding no_rows
drop_no_rows i = drop_replicate 64 i zero_row
