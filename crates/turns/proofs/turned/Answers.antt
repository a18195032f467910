-- `turns::turned` meets its contract: 14, 15, then the rest. Assumes nothing.
use native.Mathlib.Omega.{arith}
use mathlib.Core.Path.{sym, ◌∙◌}
use Rattle.format.proofs.Verdicts.{handed_on}
use Rattle.calls.proofs.Silent.{letters_known}
use Rattle.turns.proofs.Turning.{letters_refused, move_refused, move_allowed, answerable}
use Rattle.turns.proofs.turned.Goals as goal

pub returns-in_err-check_letters : goal.returns-in_err-check_letters
returns-in_err-check_letters c =
    let a = c.args in
    handed_on _ c.from_residual.ensures
    ∙ letters_refused a.p a.kept.now a.run a.cycle (sym c.check_letters.ensures ∙ c.in_err-check_letters.was)

pub reason_at-reason-requires : goal.reason_at-reason-requires
reason_at-reason-requires c =
    let a = c.args in
    let l = letters_known a.p a.cycle.writer_letter a.cycle.reader_letter (sym c.check_letters.ensures ∙ c.in_ok-check_letters.was) in
    let g = c.requires.good in
    (c.requires, omega (arith, l.0, g.writer.letters), omega (arith, l.1, g.reader.letters))

pub by_answers-requires : goal.by_answers-requires
by_answers-requires c =
    let a = c.args in
    answerable a.p a.kept.now a.run a.cycle (sym c.check_letters.ensures ∙ c.in_ok-check_letters.was)
    c.reason_at-reason.ensures c.is_allowed.ensures c.requires c.if-is_allowed.true

pub returns-then-is_allowed : goal.returns-then-is_allowed
returns-then-is_allowed c =
    let a = c.args in
    c.by_answers.ensures
    ∙ move_allowed a.p a.kept.now a.run a.cycle (sym c.check_letters.ensures ∙ c.in_ok-check_letters.was)
    c.reason_at-reason.ensures c.is_allowed.ensures c.if-is_allowed.true

pub returns : goal.returns
returns c =
    let a = c.args in
    rw c.not_allowed.ensures
    (move_refused a.p a.kept.now a.run a.cycle (sym c.check_letters.ensures ∙ c.in_ok-check_letters.was)
    c.reason_at-reason.ensures c.is_allowed.ensures c.if-is_allowed.false)
