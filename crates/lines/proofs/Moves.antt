-- The moves of a set put one behind the other, bit by bit. Assumes nothing.
use Prim.Native.Nat.{ℕ, ◌+◌, ◌/◌, ◌%◌, ◌≤◌}
use native.Mathlib.Numerals.{add-one}
use native.Mathlib.Omega.{arith}
use mathlib.Core.Path.{◌≡◌, ap}
use mathlib.Core.List.{List, [], ◌∷◌}
use Rattle.texts.specs.Text.{digit, move_text, bit_text, moves_below}
use Rattle.texts.proofs.Moves.{moves_length}
use Rattle.put.specs.Piece.{Put}
use Rattle.put.proofs.Pieces.{put_nothing, then, reads_as}

-- x and y are the code's bytes
pub put_move_as :
    (m x y : ℕ) {at r : ℕ} {l n : List ℕ} → x ≡ digit (m / 8) → y ≡ digit (m % 8) → Put (32 ∷ x ∷ 46 ∷ y ∷ []) at l r n
    → Put (move_text m) at l r n
put_move_as m x y e f p = reads_as (rw (e, f)) p

-- ---- the loop over the bits

pub moves_start : (set : ℕ) (l : List ℕ) (at : ℕ) → Put (moves_below set 0) at l at l
unfolding moves_below
moves_start set l at = put_nothing l at

pub moves_next :
    (set m : ℕ) {at s r : ℕ} {l o n : List ℕ} → Put (moves_below set m) at l s o → Put (bit_text set m) s o r n
    → Put (moves_below set (m + 1)) at l r n
unfolding moves_below
moves_next set m p q = rw (add-one m) (then p q)

pub moves_end :
    (set m : ℕ) {at r : ℕ} {l n : List ℕ} → m ≤ 64 → 64 ≤ m → Put (moves_below set m) at l r n
    → Put (moves_below set 64) at l r n × (r ≤ at + 256)
moves_end set m h k p =
    let e : 64 ≡ m = omega arith in (
      reads_as (ap (moves_below set) e) p,
      omega (arith, p.next, moves_length set m),
    )
