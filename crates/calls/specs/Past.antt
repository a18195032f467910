-- A tool, which a reader need not believe: what is known of a call past its refusals, and what the functions below the calls ask.
-- Assumes nothing. (That it holds where none of them applies is proved: proofs/Silent.antt.)
use Rattle.std.specs.Prelude.{◌≡◌, ℕ, ◌+◌, ◌-◌, ◌*◌, ◌≤◌, ◌<◌, List, length}
use Rattle.format.specs.declared.Row.{Row}
use Rattle.format.specs.Format.{byte}
use Rattle.rules.specs.declared.Conf.{Conf}
use Rattle.rules.specs.declared.Pair.{Pair}
use Rattle.rules.specs.Configurations.{GoodPair, Within, size}
use Rattle.calls.specs.declared.Run.{Run}

-- past 9 and 17
pub record Entered (X : Pair) : Type 0 where
  pub good : GoodPair X
  pub few : X.bound ≤ 15

-- past 10, with m bytes lent
pub record Buildable (X : Pair) (m : ℕ) : Type 0 where
  pub good : GoodPair X
  pub few : X.bound ≤ 15
  pub room : size X ≤ m

-- past 13, at the configuration c
pub record Askable (X : Pair) (bytes : List ℕ) (c : Conf) : Type 0 where
  pub good : GoodPair X
  pub few : X.bound ≤ 15
  pub within : Within X c
  pub room : size X ≤ length bytes
  pub zero_one : (p : ℕ) → p < size X → byte bytes p ≤ 1

-- past 16: rows that move at most one item, in a run whose level is at most 15 and stays so, with no more taken than is held and written
pub record Movable (u : Run) (w r : Row) : Type 0 where
  pub level_in : u.level ≤ 15
  pub fits : u.level + w.item - r.item ≤ 15
  pub enough : r.item ≤ u.level + w.item
  pub writes : w.item ≤ 1
  pub takes : r.item ≤ 1

-- past 18
pub record Listed (X : Pair) (list : List ℕ) : Type 0 where
  pub good : GoodPair X
  pub few : X.bound ≤ 15
  pub long : length list ≡ 3 + 8 * size X
