-- A test over the numbers of a range. Assumes nothing.
use Rattle.std.specs.Prelude.{ℕ, Bool, not}
use Rattle.lists.specs.Search.{some}

abbrev pub fails : (ℕ → Bool) → ℕ → Bool
fails p i = not (p i)

-- p holds at every number from a on that is below e
unfoldable pub every : (ℕ → Bool) → ℕ → ℕ → Bool
every p a e = not (some (fails p) a e)
