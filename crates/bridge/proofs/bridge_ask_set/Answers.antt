-- `bridge::bridge_ask_set` meets its contract. Assumes nothing.
use mathlib.Core.Path.{ap}
use Rattle.calls.specs.declared.Asked.{Asked}
use Rattle.bridge.proofs.bridge_ask_set.Goals as goal

pub returns : goal.returns
returns c = ap (λ (a : Asked). a.set) c.ask.ensures
