-- `tables::check` meets its contract: the rows are looked at only behind a header without a refusal. Assumes nothing.
use native.Mathlib.Omega.{arith}
use mathlib.Core.Path.{sym, ◌∙◌}
use Rattle.format.specs.Reads.{header_checks, row_checks}
use Rattle.format.proofs.Verdicts.{handed_on, fine_goes_on, refused_stays}
use Rattle.format.proofs.Readings.{header_says}
use Rattle.tables.proofs.check.Goals as goal

pub returns-in_err-check_header : goal.returns-in_err-check_header
returns-in_err-check_header c =
    let told = c.check_header.ensures in
    handed_on _ c.from_residual.ensures ∙ sym c.in_err-check_header.was ∙ told
    ∙ refused_stays (header_checks _ _ _) (row_checks _ _) (sym told ∙ c.in_err-check_header.was)

pub check_rows-requires : goal.check_rows-requires
check_rows-requires c =
    let h = header_says _ _ _ (sym c.check_header.ensures ∙ c.in_ok-check_header.was) in
    (h.ranges.4, omega arith)

pub returns : goal.returns
returns c = c.check_rows.ensures ∙ fine_goes_on (header_checks _ _ _) (row_checks _ _) (sym c.check_header.ensures ∙ c.in_ok-check_header.was)
