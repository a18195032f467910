-- What a buffer holds after a text was written into it. Assumes nothing.
use Rattle.std.specs.Prelude.{ℕ, ◌≤◌, ◌≡◌, List, ◌++◌, length, take, drop}

-- the text stands at the start, what follows stands as before, and r is the text's length (`text_first`, `rest_stands`,
-- proofs/Written.antt).
-- (The last two follow from the first two; with them a caller can lend the text alone, as `&out[..r]`.)
pub record Written (text before : List ℕ) (r : ℕ) (after : List ℕ) : Type 0 where
  pub count : r ≡ length text
  pub bytes : after ≡ text ++ drop (length text) before
  pub inside : r ≤ length after
  pub lent : r ≡ length (take r after)
