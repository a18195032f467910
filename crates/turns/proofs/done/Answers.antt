-- `turns::done` meets its contract. Assumes nothing.
use Rattle.turns.proofs.Places.{done_is}
use Rattle.turns.proofs.done.Goals as goal

pub returns : goal.returns
returns c =
    let after =
    done_is _ _ _ _ c.requires c.landed-to.ensures
    (rw (c.from-held.ensures, c.from.ensures, c.from-2.ensures) at c.moved-left.ensures)
    (rw c.from-held.ensures at c.front.ensures) in
    cc
