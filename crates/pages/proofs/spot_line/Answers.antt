-- `pages::spot_line` meets its contract: the place divided, and the line of what ask answers there. Assumes nothing.
use mathlib.Core.Path.{ap}
use Rattle.calls.specs.Call.{Call}
use Rattle.listings.proofs.Texts.{nothing, instead, text_refused, text_fine}
use Rattle.pages.proofs.spot_line.Goals as goal

pub returns-in_default : goal.returns-in_default
returns-in_default c =
    let bound = ap (λ (z : Call). z.bound) c.call.view_is in
    nothing _ (text_refused c.args.call.now _ _ c.requires.1.1 (rw bound at c.ask-a.ensures) c.in_default.is)

pub returns : goal.returns
returns c =
    let bound = ap (λ (z : Call). z.bound) c.call.view_is in
    instead (text_fine c.args.call.now _ _ c.requires.1.1 (rw bound at c.ask-a.ensures) c.in-Ok.is) (rw bound at c.conf_line.ensures)
