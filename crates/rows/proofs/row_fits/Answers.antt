-- `rows::row_fits` meets its contract. Assumes nothing.
use Rattle.std.proofs.Common.{rules}
use Rattle.format.specs.Reads.{row_fits}
use Rattle.rows.proofs.row_fits.Goals as goal

pub returns-then-r-m : goal.returns-then-r-m
unfolding row_fits
returns-then-r-m c = search rules

pub returns-else-r-m : goal.returns-else-r-m
unfolding row_fits
returns-else-r-m c = search rules
