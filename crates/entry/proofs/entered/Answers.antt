-- `entry::entered` meets its contract. Assumes nothing.
use mathlib.Core.Path.{refl, ◌∙◌}
use Rattle.format.proofs.Verdicts.{handed_on}
use Rattle.entry.proofs.Entering.{writer_refused, reader_refused, numbers_refused, both_read}
use Rattle.entry.proofs.entered.Goals as goal

pub returns-in_err-writer : goal.returns-in_err-writer
returns-in_err-writer c =
    rw (← c.call.view_is)
    (handed_on _ c.from_residual.ensures ∙ writer_refused _ c.read-writer.ensures refl c.in_err-writer.was)

pub returns-in_err-reader : goal.returns-in_err-reader
returns-in_err-reader c =
    rw (← c.call.view_is)
    (handed_on _ c.from_residual-in_err-reader.ensures
    ∙ reader_refused _ c.read-writer.ensures c.read-reader.ensures c.in_ok-writer.was c.in_err-reader.was)

pub returns-in_err-rule : goal.returns-in_err-rule
returns-in_err-rule c =
    rw (← c.call.view_is)
    (handed_on _ c.from_residual-in_err-rule.ensures
    ∙ numbers_refused _ c.read-writer.ensures c.read-reader.ensures c.in_ok-writer.was c.in_ok-reader.was c.rule_under.ensures c.in_err-rule.was)

pub returns : goal.returns
returns c =
    rw (← c.call.view_is)
    (both_read _ c.read-writer.ensures c.read-reader.ensures c.in_ok-writer.was c.in_ok-reader.was c.rule_under.ensures c.in_ok-rule.was)
