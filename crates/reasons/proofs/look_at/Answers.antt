-- `reasons::look_at` meets its contract. Assumes nothing.
use mathlib.Core.Path.{refl}
use Rattle.rules.specs.declared.Pair.{Pair}
use Rattle.outcomes.specs.Outcomes.{Viewed}
use Rattle.outcomes.proofs.Sides.{view_reason, view_sides}
use Rattle.reasons.specs.Reasoning.{pair_with}
use Rattle.reasons.proofs.Looking.{looks_same}
use Rattle.reasons.proofs.look_at.Goals as goal

pub look_on-requires : goal.look_on-requires
look_on-requires c =
    let a = c.args in
    let pair : Pair = pair_with a.writer a.reader a.bound a.rule in
    let seen : Viewed pair a.c c.columns-w.result c.columns-r.result c.spot_at-s.result =
    record { writer = c.columns-w.ensures; reader = c.columns-r.ensures; spot = c.spot_at-s.ensures } in
    (view_sides _ _ _ c.requires.0 refl c.requires.1 seen, c.requires.2)

pub returns : goal.returns
returns c =
    let a = c.args in
    let pair : Pair = pair_with a.writer a.reader a.bound a.rule in
    let seen : Viewed pair a.c c.columns-w.result c.columns-r.result c.spot_at-s.result =
    record { writer = c.columns-w.ensures; reader = c.columns-r.ensures; spot = c.spot_at-s.ensures } in
    looks_same _ a.first a.end (view_reason _ _ _ c.requires.0 refl c.requires.1 seen) c.look_on.ensures
