-- What every call has once both tables are read and bound and rule are tested: the pair, and the verdict of 1 to 9 and 17. Assumes nothing.
use Rattle.std.specs.Prelude.{◌≡◌}
use Rattle.format.specs.Verdicts.{verdict_of}
use Rattle.calls.specs.Call.{Call, pair_of}
use Rattle.calls.specs.Refusals.{enter_checks}
use Rattle.entry.specs.declared.Entry.{Entry}

pub record Enters (k : Call) (o : Entry) : Type 0 where
  pub pair_is : o.pair ≡ pair_of k
  pub told : o.verdict ≡ verdict_of (enter_checks k)
