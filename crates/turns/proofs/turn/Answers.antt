-- `turns::turn` meets its contract: by what the cycle does, or by the refusal. Assumes nothing.
use mathlib.Core.Path.{◌∙◌}
use Rattle.format.proofs.Verdicts.{returned_done, returned_refused}
use Rattle.calls.specs.declared.Stepped.{Stepped}
use Rattle.calls.specs.Step.{refused_step, turn_of}
use Rattle.turns.proofs.turn.Goals as goal

pub returns-in-Ok : goal.returns-in-Ok
unfolding turn_of
returns-in-Ok c = returned_done _ _ c.turned.ensures (refused_step c.args.run) (λ (s : Stepped). s) c.in-Ok.is

pub returns-in-Err : goal.returns-in-Err
unfolding turn_of
returns-in-Err c = c.refused.ensures ∙ returned_refused _ _ c.turned.ensures (refused_step c.args.run) (λ (s : Stepped). s) c.in-Err.is
