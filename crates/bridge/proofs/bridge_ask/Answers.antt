-- `bridge::bridge_ask` meets its contract: count and lowest fit their places. Assumes nothing.
use native.Mathlib.Omega.{arith}
use mathlib.Core.Path.{sym, ap, subst, ◌∙◌}
use Rattle.calls.specs.Packed.{packed_asked}
use Rattle.calls.proofs.Ranges.{FewMoves, asked_few}
use Rattle.bridge.proofs.bridge_ask.Goals as goal

pub pack_verdict-requires : goal.pack_verdict-requires
pack_verdict-requires c =
    let few : FewMoves c.ask-a.result = subst FewMoves (sym c.ask-a.ensures) (asked_few _ _ _) in
    (omega (arith, few.0), omega (arith, few.1))

pub returns : goal.returns
returns c = (rw (c.from.ensures, c.from-2.ensures) at c.pack_verdict.ensures) ∙ ap packed_asked c.ask-a.ensures
