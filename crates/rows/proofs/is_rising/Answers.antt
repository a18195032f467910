-- `rows::is_rising` meets its contract. Assumes nothing.
use Rattle.std.proofs.Common.{rules}
use Rattle.format.specs.Reads.{rises}
use Rattle.rows.proofs.is_rising.Goals as goal

pub returns : goal.returns
unfolding rises
returns c = search rules
