-- `rows::bad_row` meets its contract. Assumes nothing.
use Rattle.std.proofs.Common.{rules}
use Rattle.format.specs.Reads.{bad_row}
use Rattle.rows.proofs.bad_row.Goals as goal

pub returns : goal.returns
unfolding bad_row
returns c = search rules
