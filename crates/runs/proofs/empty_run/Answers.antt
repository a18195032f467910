-- `runs::empty_run` meets its contract. Assumes nothing.
use Rattle.calls.proofs.Queues.{padded_none}
use Rattle.runs.proofs.empty_run.Goals as goal

pub returns : goal.returns
returns c = rw (padded_none)
