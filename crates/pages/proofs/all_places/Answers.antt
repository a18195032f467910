-- `pages::all_places` meets its contract. Assumes nothing.
use native.Mathlib.Omega.{arith}
use mathlib.Core.Path.{sym, ap, ◌∙◌}
use Rattle.rules.specs.Configurations.{size}
use Rattle.calls.specs.Call.{pair_of}
use Rattle.format.proofs.Verdicts.{refused_not_fine, known_refused}
use Rattle.outcomes.proofs.Framed.{framed_size}
use Rattle.entry.proofs.Entering.{entry_is, entry_known}
use Rattle.pages.proofs.all_places.Goals as goal

pub frame_of-f-requires : goal.frame_of-f-requires
frame_of-f-requires c = omega (arith, (entry_known c.args.call.now (sym c.entered.ensures ∙ c.in-Ok.is)).few)

pub returns-in-Ok : goal.returns-in-Ok
returns-in-Ok c =
    framed_size c.in-Ok.p c.frame_of-f.ensures c.places.ensures ∙ ap size (sym (entry_is c.args.call.now (sym c.entered.ensures ∙ c.in-Ok.is)))

pub returns-in-Err : goal.returns-in-Err
returns-in-Err c = absurd (refused_not_fine (sym (known_refused _ (pair_of c.args.call.now) c.entered.ensures c.in-Err.is) ∙ c.requires))
