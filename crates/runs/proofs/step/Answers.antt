-- `runs::step` meets its contract: by the refusal, or by what the cycle does. Assumes nothing.
use mathlib.Core.Path.{◌∙◌}
use Rattle.runs.proofs.Answers.{step_askable, step_turns, step_refused}
use Rattle.runs.proofs.step.Goals as goal

pub turn-requires : goal.turn-requires
turn-requires c = step_askable _ _ _ c.opened.ensures c.in-Ok.is

pub returns-in-Ok : goal.returns-in-Ok
returns-in-Ok c = c.turn.ensures ∙ step_turns _ _ _ c.opened.ensures c.args.cycle c.in-Ok.is

pub returns-in-Err : goal.returns-in-Err
returns-in-Err c = c.refused.ensures ∙ step_refused _ _ _ c.opened.ensures c.args.cycle c.in-Err.is
