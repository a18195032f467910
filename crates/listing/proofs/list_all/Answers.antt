-- `list_all`: what was read is what the reader held first. Assumes nothing.
use Rattle.listing.proofs.Joined.{no_input, some_input}
use Rattle.listing.proofs.list_all.Goals as goal

pub returns-then-n-eq0 : goal.returns-then-n-eq0
returns-then-n-eq0 g c = no_input _ _ _ _ _ _ c.if-n-eq0.true c.in_ok-n.ensures.first c.list_worked.ensures

pub returns : goal.returns
returns g c = some_input _ _ _ _ _ _ c.if-n-eq0.false c.in_ok-n.ensures.within c.in_ok-n.ensures.first c.list_input.ensures
