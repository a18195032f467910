-- `tables::fill` meets its contract: with i rows filled in, the rest is still zero. Assumes nothing.
use mathlib.Core.List.{◌++◌}
use lib.ListN.{length, drop}
use mathlib.Core.Path.{◌≡◌}
use Rattle.lists.specs.Lists.{tab}
use Rattle.format.specs.Format.{row_at, no_rows}
use Rattle.tables.proofs.fill.Given as goal

abbrev pub invariant-loop-i : goal.invariant-loop-i
invariant-loop-i l = (length l.rows ≡ 64) × (l.rows ≡ tab (row_at l.b) l.i ++ drop l.i no_rows)
