-- `ask::find` meets its contract: 10, 12 and 13 in their order. Assumes nothing.
use mathlib.Core.Path.{refl, ◌∙◌}
use Rattle.format.proofs.Verdicts.{handed_on}
use Rattle.outcomes.proofs.Framed.{framed_lent, framed_range}
use Rattle.ask.proofs.Answers.{bytes_refused, conf_told}
use Rattle.ask.proofs.find.Goals as goal

pub returns-in_err-check_bytes : goal.returns-in_err-check_bytes
returns-in_err-check_bytes c =
    let a = c.args in
    handed_on _ c.from_residual.ensures
    ∙ bytes_refused a.p a.kept.now _ (framed_lent a.p c.frame_of-f.ensures a.kept.now c.places.ensures c.check_bytes.ensures) c.in_err-check_bytes.was

pub returns : goal.returns
returns c =
    let a = c.args in
    let told = framed_lent a.p c.frame_of-f.ensures a.kept.now c.places.ensures c.check_bytes.ensures in
    c.ok_or.ensures.value
    ∙ rw (c.conf_in.ensures, c.from.ensures)
    (conf_told a.p a.kept.now _ told c.in_ok-check_bytes.was (framed_range a.p c.frame_of-f.ensures _ refl))
