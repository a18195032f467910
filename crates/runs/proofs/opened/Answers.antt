-- `runs::opened` meets its contract: the entry checks, then 10, 12 and 13. Assumes nothing.
use mathlib.Core.Path.{sym, ◌∙◌}
use Rattle.format.proofs.Verdicts.{handed_on, unless_fine, unless_refused}
use Rattle.rules.specs.declared.Pair.{Pair}
use Rattle.calls.specs.Call.{pair_of}
use Rattle.calls.specs.Step.{open_checks}
use Rattle.entry.proofs.Entering.{entry_known, entry_err, entry_ok}
use Rattle.runs.proofs.opened.Goals as goal

pub returns-in_err-p : goal.returns-in_err-p
returns-in_err-p c =
    let a = c.args in
    let X = pair_of a.call.now in
    handed_on _ c.from_residual.ensures
    ∙ entry_err a.call.now X (open_checks X a.kept.now a.run) (sym c.entered.ensures ∙ c.in_err-p.was)

pub open-requires : goal.open-requires
open-requires c = entry_known c.args.call.now (sym c.entered.ensures ∙ c.in_ok-p.was)

pub returns-in_err-open : goal.returns-in_err-open
returns-in_err-open c =
    let a = c.args in
    handed_on _ c.from_residual-in_err-open.ensures
    ∙ unless_refused c.in_ok-p.p (sym c.open.ensures ∙ c.in_err-open.was)
    ∙ entry_ok a.call.now (sym c.entered.ensures ∙ c.in_ok-p.was) (λ (X : Pair). X) (λ (X : Pair). open_checks X a.kept.now a.run)

pub returns : goal.returns
returns c =
    let a = c.args in
    unless_fine c.in_ok-p.p (sym c.open.ensures ∙ c.in_ok-open.was)
    ∙ entry_ok a.call.now (sym c.entered.ensures ∙ c.in_ok-p.was) (λ (X : Pair). X) (λ (X : Pair). open_checks X a.kept.now a.run)
