-- `entry::rule_under` meets its contract: 9, then what the rule's number chooses. Assumes nothing.
use native.Mathlib.Omega.{arith}
use Rattle.entry.proofs.Entering.{bound_refused, rule_chosen}
use Rattle.entry.proofs.rule_under.Goals as goal

pub returns-then-bound-gt15 : goal.returns-then-bound-gt15
returns-then-bound-gt15 c = rw c.from.ensures (bound_refused c.args.bound c.args.rule (omega arith))

pub returns : goal.returns
returns c = rule_chosen _ _ (omega arith) _ c.try_from.ensures
