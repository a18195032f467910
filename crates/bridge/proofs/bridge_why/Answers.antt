-- `bridge::bridge_why` meets its contract. Assumes nothing.
use mathlib.Core.Path.{ap, ◌∙◌}
use Rattle.calls.specs.Packed.{packed_explained}
use Rattle.bridge.proofs.bridge_why.Goals as goal

pub returns : goal.returns
returns c = (rw c.from.ensures at c.pack_verdict.ensures) ∙ ap packed_explained c.why-e.ensures
