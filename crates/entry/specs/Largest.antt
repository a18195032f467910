-- A mirror of the code, which a reader need not believe: the largest of the first n bytes. Assumes nothing.
use Rattle.std.specs.Prelude.{ℕ, ◌≤◌, ◌<◌, ◌≡◌, List}
use Rattle.format.specs.Format.{byte}

pub record Largest (bytes : List ℕ) (n z : ℕ) : Type 0 where
  pub above : (p : ℕ) → p < n → byte bytes p ≤ z
  -- one of them is it, or all are 0
  pub reached : 0 < z → (p : ℕ) × (p < n) × (byte bytes p ≡ z)
