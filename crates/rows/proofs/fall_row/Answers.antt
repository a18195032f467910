-- `rows::fall_row` meets its contract. Assumes nothing.
use Rattle.std.proofs.Common.{rules}
use Rattle.format.specs.Reads.{fall_row}
use Rattle.rows.proofs.fall_row.Goals as goal

pub returns-then-i-gt0 : goal.returns-then-i-gt0
unfolding fall_row
returns-then-i-gt0 c = search rules

pub returns-else-i-gt0 : goal.returns-else-i-gt0
unfolding fall_row
returns-else-i-gt0 c = search rules
