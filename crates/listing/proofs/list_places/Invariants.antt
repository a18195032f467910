use Rattle.std.specs.Io.KnownBytes.{Appends}
use Rattle.listing.specs.Printed.{places_text}
use Rattle.listing.proofs.list_places.Given as goal

-- the lines of the places before p were written
abbrev pub invariant-loop-p : goal.invariant-loop-p
invariant-loop-p g l =
    Appends (g.W.Write.contents l.fn.out) (g.W.Write.contents l.out) (places_text l.call l.kept l.p)
