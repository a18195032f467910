-- `bridge::bridge_check` meets its contract. Assumes nothing.

use Rattle.bridge.proofs.bridge_check.Goals as goal

pub returns : goal.returns
returns c = let k = c.check-verdict in record { verdict = k.result; says = k.ensures; number_is = c.pack_verdict.ensures }
