-- `runs::begin` meets its contract: the entry checks under rule 0, then the start. Assumes nothing.
use Rattle.runs.proofs.Answers.{begin_refused, begin_starts}
use Rattle.runs.proofs.begin.Goals as goal

pub returns-in_default : goal.returns-in_default
returns-in_default c = λ rule. begin_refused _ _ _ c.enter-entry.ensures rule c.in_default.is c.empty_run.ensures

pub returns : goal.returns
returns c =
    λ rule.
    begin_starts _ _ _ c.enter-entry.ensures rule c.in-Ok.is (rw (c.from.ensures, c.from-2.ensures) at c.empty_run-2.ensures)
