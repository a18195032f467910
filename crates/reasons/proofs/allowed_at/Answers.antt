-- `reasons::allowed_at` meets its contract. Assumes nothing.
use Rattle.reasons.proofs.Sets.{set_looked, set_out}
use Rattle.reasons.proofs.allowed_at.Goals as goal

pub returns-in-Some : goal.returns-in-Some
returns-in-Some c = let a = c.args in set_looked a.p a.k.now a.c c.in-Some.ensures

pub returns-in-None : goal.returns-in-None
returns-in-None c = let a = c.args in set_out a.p a.k.now a.c c.in-None.ensures
