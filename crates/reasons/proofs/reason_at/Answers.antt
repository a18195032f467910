-- `reasons::reason_at` meets its contract. Assumes nothing.
use native.Mathlib.Omega.{arith}
use mathlib.Core.Path.{sym}
use Rattle.reasons.proofs.Looking.{looked_reason}
use Rattle.reasons.proofs.reason_at.Goals as goal

pub look-requires : goal.look-requires
look-requires c = (c.requires.0, omega (arith, c.requires.1, c.requires.2))

pub returns-in-Some : goal.returns-in-Some
returns-in-Some c = let a = c.args in looked_reason _ a.x a.y c.requires.2 c.in-Some.ensures

pub returns-in-None : goal.returns-in-None
returns-in-None c = let a = c.args in sym (c.in-None.ensures a.x a.y)
