use Rattle.std.proofs.Common.{take}
use Rattle.worked.specs.declared.TheConstants.{REGISTERED}
use Rattle.listing.specs.Printed.{PrintsEach}
use Rattle.listing.proofs.list_at.Given as goal

-- the listings at the bounds so far were written
abbrev pub invariant-loop-bound : goal.invariant-loop-bound
invariant-loop-bound g l =
    PrintsEach l.writer l.reader REGISTERED (take l.bound-index l.bounds) (g.W.Write.contents l.fn.out) (g.W.Write.contents l.out)
