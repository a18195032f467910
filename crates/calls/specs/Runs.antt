-- Document 01: "A run is the configuration and the held items, 32-bit, front first; places from the level to 15 are zero."
-- Assumes nothing: past the end of the places stands 0.
use Rattle.std.specs.Prelude.{ℕ, ◌≡◌, List, get_or}
use Rattle.lists.specs.Lists.{tab_from, tab}
use Rattle.rules.specs.declared.Conf.{Conf}
use Rattle.rules.specs.declared.Pair.{Pair}
use Rattle.rules.specs.Configurations.{Within}
use Rattle.calls.specs.declared.Run.{Run}
use Rattle.calls.specs.Items.{padded}

abbrev pub conf_of : Run → Conf
conf_of u = record { writer = u.writer; reader = u.reader; level = u.level }

abbrev pub held_at : List ℕ → ℕ → ℕ
held_at items i = get_or items i 0

-- the held items: those at the places below the level
unfoldable pub held_of : Run → List ℕ
unfolding tab_from
held_of u = tab (held_at u.items) u.level

-- the run at a configuration that holds these items
abbrev pub run_at : Conf → List ℕ → Run
run_at c held =
    record { writer = c.writer; reader = c.reader; level = c.level; items = padded held }

-- a run that makes sense: its configuration is one of the pair, and its places are the held items and zeros
pub record GoodRun (X : Pair) (u : Run) : Type 0 where
  pub within : Within X (conf_of u)
  pub zeros : u.items ≡ padded (held_of u)
