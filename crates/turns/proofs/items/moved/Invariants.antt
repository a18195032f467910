-- `turns::items::moved` meets its contract: with i places filled in, the rest is still zero. Assumes nothing.
use mathlib.Core.Path.{◌≡◌}
use mathlib.Core.List.{◌++◌}
use lib.ListN.{length, drop, replicate}
use Rattle.lists.specs.Lists.{tab}
use Rattle.turns.specs.Cycles.{left_at}
use Rattle.turns.proofs.items.moved.Given as goal

abbrev pub invariant-loop-i : goal.invariant-loop-i
invariant-loop-i l =
    (length l.left ≡ 16) × (l.left ≡ tab (left_at l.items l.level l.incoming l.taken) l.i ++ drop l.i (replicate 16 0))
