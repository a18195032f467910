-- `tables::refused` meets its contract: every field of the table is zero. Assumes nothing.
use Rattle.format.specs.Format.{no_rows}
use Rattle.tables.proofs.refused.Goals as goal

pub returns : goal.returns
unfolding no_rows
returns c = rw c.zero_row.ensures
