-- `ask::allowed` meets its contract: the refusals, then the set. Assumes nothing.
use mathlib.Core.Path.{sym, ap, ◌∙◌}
use Rattle.std.specs.Prelude.{Ok}
use Rattle.format.proofs.Verdicts.{handed_on, known_fine, known_value, known_refused, unless_fine, unless_refused}
use Rattle.rules.specs.declared.Pair.{Pair}
use Rattle.rules.specs.Configurations.{conf_named}
use Rattle.calls.specs.Call.{pair_of}
use Rattle.calls.specs.Ask.{move_set, asks_checks}
use Rattle.calls.proofs.Silent.{ask_known}
use Rattle.entry.proofs.Entering.{entry_known, entry_err, entry_ok}
use Rattle.ask.proofs.allowed.Goals as goal

pub returns-in_err-p : goal.returns-in_err-p
returns-in_err-p c =
    let a = c.args in
    let asked = conf_named a.at in
    handed_on _ c.from_residual.ensures
    ∙ entry_err a.call.now (move_set (pair_of a.call.now) a.kept.now asked) (asks_checks (pair_of a.call.now) a.kept.now asked) (sym c.entered.ensures ∙ c.in_err-p.was)

pub find-requires : goal.find-requires
find-requires c = entry_known c.args.call.now (sym c.entered.ensures ∙ c.in_ok-p.was)

pub returns-in_err-c : goal.returns-in_err-c
returns-in_err-c c =
    let a = c.args in
    let asked = conf_named a.at in
    handed_on _ c.from_residual-in_err-c.ensures
    ∙ unless_refused _ (known_refused _ asked c.find.ensures c.in_err-c.was)
    ∙ entry_ok a.call.now (sym c.entered.ensures ∙ c.in_ok-p.was) (λ (X : Pair). move_set X a.kept.now asked) (λ (X : Pair). asks_checks X a.kept.now asked)

pub allowed_at-requires : goal.allowed_at-requires
allowed_at-requires c =
    let a = c.args in
    let asked = conf_named a.at in
    rw (← known_value _ asked c.find.ensures c.in_ok-c.was)
    (ask_known _ a.kept.now asked (entry_known a.call.now (sym c.entered.ensures ∙ c.in_ok-p.was)) (known_fine _ asked c.find.ensures c.in_ok-c.was))

pub returns : goal.returns
returns c =
    let a = c.args in
    let asked = conf_named a.at in
    ap Ok (c.allowed_at.ensures ∙ rw (← known_value _ asked c.find.ensures c.in_ok-c.was))
    ∙ unless_fine _ (known_fine _ asked c.find.ensures c.in_ok-c.was)
    ∙ entry_ok a.call.now (sym c.entered.ensures ∙ c.in_ok-p.was) (λ (X : Pair). move_set X a.kept.now asked) (λ (X : Pair). asks_checks X a.kept.now asked)
