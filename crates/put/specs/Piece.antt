-- A piece of a text in a buffer: a step on the way to `Written` (`whole`, proofs/Pieces.antt). A tool of the code: no contract
-- of a public function of `lines` names it, and a reader need not believe it. Assumes nothing.
use Rattle.std.specs.Prelude.{ℕ, ◌+◌, ◌≡◌, List, length}
use Rattle.std.proofs.lemmas.List.Edits.{sets}

-- the piece is stored from `at` on, and r is the place behind it
pub record Put (piece : List ℕ) (at : ℕ) (before : List ℕ) (r : ℕ) (after : List ℕ) : Type 0 where
  pub next : r ≡ at + length piece
  pub stored : after ≡ sets before at piece
