-- `tables::length_wrong` meets its contract: the two tests are the two of refusal 3. Assumes nothing.
use native.Mathlib.Omega.{arith}
use Rattle.format.proofs.Header.{length_wrong_lem, length_right}
use Rattle.tables.proofs.length_wrong.Goals as goal

pub returns-then-field-b : goal.returns-then-field-b
returns-then-field-b c = length_wrong_lem _ (λ h. c.if-field-b.true (omega arith))

pub returns-then-field-from : goal.returns-then-field-from
returns-then-field-from c = length_wrong_lem _ (λ h. c.if-field-from.true (omega arith))

pub returns : goal.returns
returns c = length_right _ (omega arith, omega arith)
