-- `why::why` meets its contract: by the reason, or by the refusal. Assumes nothing.
use mathlib.Core.Path.{◌∙◌}
use Rattle.format.proofs.Verdicts.{returned_done, returned_refused}
use Rattle.calls.specs.Why.{explained, unexplained, why_of}
use Rattle.why.proofs.why.Goals as goal

pub returns-in-Ok : goal.returns-in-Ok
unfolding why_of
returns-in-Ok c = c.explain.ensures ∙ returned_done _ _ c.reason.ensures unexplained explained c.in-Ok.is

pub returns-in-Err : goal.returns-in-Err
unfolding why_of
returns-in-Err c = c.refused.ensures ∙ returned_refused _ _ c.reason.ensures unexplained explained c.in-Err.is
