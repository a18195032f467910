-- `runs::open` meets its contract: 10, 12 and 13 in their order. Assumes nothing.
use mathlib.Core.Path.{◌∙◌}
use Rattle.format.proofs.Verdicts.{handed_on, known_fine, known_refused}
use Rattle.calls.specs.Runs.{conf_of}
use Rattle.runs.proofs.Opening.{run_refused, run_is}
use Rattle.runs.proofs.open.Goals as goal

pub returns-in_err-find : goal.returns-in_err-find
returns-in_err-find c =
    let a = c.args in
    handed_on _ c.from_residual.ensures
    ∙ run_refused a.p a.kept.now a.run (known_refused _ (conf_of a.run) c.find.ensures c.in_err-find.was)

pub returns-then-some_nonzero : goal.returns-then-some_nonzero
returns-then-some_nonzero c =
    let a = c.args in
    rw (← run_is a.p a.kept.now a.run (known_fine _ (conf_of a.run) c.find.ensures c.in_ok-find.was), ← c.some_nonzero.ensures, c.if-some_nonzero.true, c.from.ensures)

pub returns : goal.returns
returns c =
    let a = c.args in
    rw (← run_is a.p a.kept.now a.run (known_fine _ (conf_of a.run) c.find.ensures c.in_ok-find.was), ← c.some_nonzero.ensures, c.if-some_nonzero.false)
