-- `reasons::look_on` meets its contract: with the moves below m looked at, the set and the last reason are theirs. Assumes nothing.
use Prim.Native.Nat.{◌-◌}
use Rattle.outcomes.specs.Outcomes.{reason_on}
use Rattle.reasons.proofs.Looking.{LooksTo}
use Rattle.reasons.proofs.look_on.Given as goal

abbrev pub invariant-loop-m : goal.invariant-loop-m
invariant-loop-m l = LooksTo (reason_on l.w l.r l.s l.k) l.first l.end l.m l.set l.last

abbrev pub decreases-loop-m : goal.decreases-loop-m
decreases-loop-m l = l.end - l.m
