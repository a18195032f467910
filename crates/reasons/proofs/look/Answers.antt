-- `reasons::look` meets its contract. Assumes nothing.
use mathlib.Core.Path.{sym, ◌∙◌}
use Rattle.outcomes.proofs.Sides.{place_lent, out_reason}
use Rattle.reasons.proofs.look.Goals as goal

pub is_kept-requires : goal.is_kept-requires
is_kept-requires c = place_lent _ _ _ c.requires.0

pub returns-then-not-is_kept : goal.returns-then-not-is_kept
returns-then-not-is_kept c = out_reason _ _ _ c.requires.0 c.is_kept.ensures c.if-not-is_kept.true

pub look_at-requires : goal.look_at-requires
look_at-requires c = (c.requires.0, sym c.is_kept.ensures ∙ c.if-not-is_kept.false, c.requires.1)

pub returns : goal.returns
returns c = c.look_at.ensures
