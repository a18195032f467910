-- `entry::enter` meets its contract. Assumes nothing.
use Rattle.entry.proofs.Entering.{enter_is}
use Rattle.entry.proofs.enter.Goals as goal

pub returns : goal.returns
returns c = rw (← c.call.view_is) (enter_is _ c.rule_of.ensures c.read-writer.ensures c.read-reader.ensures c.first_of.ensures)
