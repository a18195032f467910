-- `permissions::check_list` meets its contract. Assumes nothing.
use Rattle.permissions.proofs.check_list.Goals as goal

pub returns-then-is_wrong : goal.returns-then-is_wrong
returns-then-is_wrong c = rw (← c.is_wrong.ensures, c.if-is_wrong.true, c.from.ensures)

pub returns : goal.returns
returns c = rw (← c.is_wrong.ensures, c.if-is_wrong.false)
