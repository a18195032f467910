-- `tables::range_wrong` meets its contract: each test that fails puts a number out of its range. Assumes nothing.
use native.Mathlib.Omega.{arith}
use Rattle.format.proofs.Header.{range_wrong_lem, range_right}
use Rattle.tables.proofs.range_wrong.Goals as goal

pub returns-then-n-lt1 : goal.returns-then-n-lt1
returns-then-n-lt1 c = range_wrong_lem _ (λ h. omega arith)

pub returns-then-n-gt16 : goal.returns-then-n-gt16
returns-then-n-gt16 c = range_wrong_lem _ (λ h. omega arith)

pub returns-then-d-lt1 : goal.returns-then-d-lt1
returns-then-d-lt1 c = range_wrong_lem _ (λ h. omega arith)

pub returns-then-d-gt8 : goal.returns-then-d-gt8
returns-then-d-gt8 c = range_wrong_lem _ (λ h. omega arith)

pub returns-then-rows-gt64 : goal.returns-then-rows-gt64
returns-then-rows-gt64 c = range_wrong_lem _ (λ h. omega arith)

pub returns : goal.returns
returns c = range_right _ (omega arith, omega arith, omega arith, omega arith, omega arith)
