-- `entry::largest` meets its contract: of the bytes so far, the largest. Assumes nothing.
use Rattle.entry.specs.Largest.{Largest}
use Rattle.entry.proofs.largest.Given as goal

abbrev pub invariant-loop-byte : goal.invariant-loop-byte
invariant-loop-byte l = Largest l.bytes l.byte-index l.most
