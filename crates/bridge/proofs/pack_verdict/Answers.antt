-- `bridge::pack_verdict` meets its contract, case by case. Assumes nothing.
use Rattle.bridge.proofs.pack_verdict.Goals as goal

pub returns-in-Ok : goal.returns-in-Ok
returns-in-Ok c = rw c.in-Ok.is c.pack.ensures

pub returns-in-Err : goal.returns-in-Err
returns-in-Err c = rw (c.in-Err.is, ← c.number.ensures, ← c.side_number.ensures) c.pack-in-Err.ensures
