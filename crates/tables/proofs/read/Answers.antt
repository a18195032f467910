-- `tables::read` meets its contract. Assumes nothing.
use native.Mathlib.Omega.{arith}
use mathlib.Core.Path.{sym, ap, ◌∙◌}
use Rattle.format.specs.declared.Table.{Table}
use Rattle.format.specs.declared.Reading.{Reading}
use Rattle.format.specs.Verdicts.{Fine}
use Rattle.format.proofs.Readings.{header_of, read_refused, read_fine}
use Rattle.tables.proofs.read.Goals as goal

fine : Table → Reading
fine t = record { table = t; verdict = Fine }

pub taken-requires : goal.taken-requires
taken-requires c = let h = header_of _ _ _ (sym c.check.ensures ∙ c.in_default.is) in (h.ranges.4, omega arith)

pub returns : goal.returns
unfolding fine
returns c = ap fine c.taken.ensures ∙ read_fine _ _ c.check.ensures c.in_default.is

pub returns-in-Err : goal.returns-in-Err
returns-in-Err c = c.refused.ensures ∙ read_refused _ _ c.check.ensures c.in-Err.is
