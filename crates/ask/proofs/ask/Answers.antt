-- `ask::ask` meets its contract: by what is allowed, or by the refusal. Assumes nothing.
use mathlib.Core.Path.{◌∙◌}
use Rattle.format.proofs.Verdicts.{returned_done, returned_refused}
use Rattle.calls.specs.Ask.{answered, unanswered, ask_of}
use Rattle.ask.proofs.ask.Goals as goal

pub returns-in-Ok : goal.returns-in-Ok
unfolding ask_of
returns-in-Ok c = c.answer.ensures ∙ returned_done _ _ c.allowed.ensures unanswered answered c.in-Ok.is

pub returns-in-Err : goal.returns-in-Err
unfolding ask_of
returns-in-Err c = c.refused.ensures ∙ returned_refused _ _ c.allowed.ensures unanswered answered c.in-Err.is
