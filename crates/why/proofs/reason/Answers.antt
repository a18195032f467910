-- `why::reason` meets its contract: the refusals of ask, then 14, then the reason. Assumes nothing.
use native.Mathlib.Omega.{arith}
use mathlib.Core.Path.{sym, ap, ◌∙◌}
use Rattle.std.specs.Prelude.{Ok}
use Rattle.format.proofs.Verdicts.{handed_on, known_fine, known_value, known_refused, unless_fine, unless_refused, unless_front, unless_goes_on}
use Rattle.rules.specs.declared.Pair.{Pair}
use Rattle.rules.specs.Configurations.{conf_named}
use Rattle.rules.specs.Tools.Computed.{reason_of}
use Rattle.calls.specs.Call.{pair_of}
use Rattle.calls.specs.Past.{Askable}
use Rattle.calls.specs.Refusals.{letter_checks}
use Rattle.calls.specs.Ask.{asks_checks}
use Rattle.calls.specs.Why.{whys_checks}
use Rattle.calls.proofs.Silent.{ask_known, letters_known}
use Rattle.entry.proofs.Entering.{entry_known, entry_err, entry_ok}
use Rattle.why.proofs.reason.Goals as goal

pub returns-in_err-p : goal.returns-in_err-p
returns-in_err-p c =
    let a = c.args in
    let asked = conf_named a.at in
    let X = pair_of a.call.now in
    handed_on _ c.from_residual.ensures
    ∙ entry_err a.call.now (reason_of X a.kept.now asked a.x a.y) (whys_checks X a.kept.now asked a.x a.y) (sym c.entered.ensures ∙ c.in_err-p.was)

pub find-requires : goal.find-requires
find-requires c = entry_known c.args.call.now (sym c.entered.ensures ∙ c.in_ok-p.was)

pub returns-in_err-c : goal.returns-in_err-c
returns-in_err-c c =
    let a = c.args in
    let asked = conf_named a.at in
    let p = c.in_ok-p.p in
    let r = reason_of p a.kept.now asked a.x a.y in
    handed_on _ c.from_residual-in_err-c.ensures
    ∙ unless_front r (asks_checks p a.kept.now asked) (letter_checks p a.x a.y) (known_refused _ asked c.find.ensures c.in_err-c.was)
    ∙ entry_ok a.call.now (sym c.entered.ensures ∙ c.in_ok-p.was) (λ (X : Pair). reason_of X a.kept.now asked a.x a.y)
    (λ (X : Pair). whys_checks X a.kept.now asked a.x a.y)

pub returns-in_err-check_letters : goal.returns-in_err-check_letters
returns-in_err-check_letters c =
    let a = c.args in
    let asked = conf_named a.at in
    let p = c.in_ok-p.p in
    let r = reason_of p a.kept.now asked a.x a.y in
    handed_on _ c.from_residual-in_err-check_letters.ensures
    ∙ unless_refused r (sym c.check_letters.ensures ∙ c.in_err-check_letters.was)
    ∙ unless_goes_on r (asks_checks p a.kept.now asked) (letter_checks p a.x a.y) (known_fine _ asked c.find.ensures c.in_ok-c.was)
    ∙ entry_ok a.call.now (sym c.entered.ensures ∙ c.in_ok-p.was) (λ (X : Pair). reason_of X a.kept.now asked a.x a.y)
    (λ (X : Pair). whys_checks X a.kept.now asked a.x a.y)

pub overflow_cast-x : goal.overflow_cast-x
overflow_cast-x c =
    let a = c.args in
    let l = letters_known c.in_ok-p.p a.x a.y (sym c.check_letters.ensures ∙ c.in_ok-check_letters.was) in
    let known = entry_known a.call.now (sym c.entered.ensures ∙ c.in_ok-p.was) in
    omega (arith, l.0, known.good.writer.letters)

pub overflow_cast-y : goal.overflow_cast-y
overflow_cast-y c =
    let a = c.args in
    let l = letters_known c.in_ok-p.p a.x a.y (sym c.check_letters.ensures ∙ c.in_ok-check_letters.was) in
    let known = entry_known a.call.now (sym c.entered.ensures ∙ c.in_ok-p.was) in
    omega (arith, l.1, known.good.reader.letters)

pub reason_at-requires : goal.reason_at-requires
reason_at-requires c =
    let a = c.args in
    let asked = conf_named a.at in
    let p = c.in_ok-p.p in
    let able : Askable p a.kept.now asked =
    ask_known p a.kept.now asked (entry_known a.call.now (sym c.entered.ensures ∙ c.in_ok-p.was)) (known_fine _ asked c.find.ensures c.in_ok-c.was) in
    let l = letters_known p a.x a.y (sym c.check_letters.ensures ∙ c.in_ok-check_letters.was) in
    let g = able.good in
    (rw (← known_value _ asked c.find.ensures c.in_ok-c.was) able, omega (arith, l.0, g.writer.letters), omega (arith, l.1, g.reader.letters))

pub returns : goal.returns
returns c =
    let a = c.args in
    let asked = conf_named a.at in
    let p = c.in_ok-p.p in
    let r = reason_of p a.kept.now asked a.x a.y in
    ap Ok (c.reason_at.ensures ∙ rw (← known_value _ asked c.find.ensures c.in_ok-c.was))
    ∙ unless_fine r (sym c.check_letters.ensures ∙ c.in_ok-check_letters.was)
    ∙ unless_goes_on r (asks_checks p a.kept.now asked) (letter_checks p a.x a.y) (known_fine _ asked c.find.ensures c.in_ok-c.was)
    ∙ entry_ok a.call.now (sym c.entered.ensures ∙ c.in_ok-p.was) (λ (X : Pair). reason_of X a.kept.now asked a.x a.y)
    (λ (X : Pair). whys_checks X a.kept.now asked a.x a.y)
