-- A number put digit by digit. Assumes nothing.
use Prim.Native.Nat.{ℕ, ◌/◌, ◌%◌, ◌≤◌, ◌<◌}
use mathlib.Core.List.{List, [], ◌∷◌}
use Rattle.texts.specs.Text.{digit, decimal}
use Rattle.texts.proofs.Digits.{decimal_small, decimal_more}
use Rattle.put.specs.Piece.{Put}
use Rattle.put.proofs.Pieces.{then, reads_as}

module _ (n : ℕ) {at r : ℕ} {l o : List ℕ} where
  pub put_small : n < 10 → Put (digit n ∷ []) at l r o → Put (decimal n) at l r o
  put_small h p = reads_as (decimal_small n h) p

  pub put_more :
      {s : ℕ} {m : List ℕ} → 10 ≤ n → Put (decimal (n / 10)) at l s m → Put (digit (n % 10) ∷ []) s m r o
      → Put (decimal n) at l r o
  put_more h p q = reads_as (decimal_more n h) (then p q)
