-- `lines::put_moves` meets its contract: with m bits looked at, the moves of the bits below m stand there. Assumes nothing.
use Rattle.texts.proofs.Moves.{moves_length}
use native.Mathlib.Omega.{arith}
use mathlib.Core.Path.{◌∙◌, refl}
use Rattle.lines.proofs.Moves.{moves_next, moves_end, moves_start}
use Rattle.lines.proofs.put_moves.Goals as goal

pub loop-m-preserved : goal.loop-m-preserved
loop-m-preserved c =
    let v = c.loop-m.invariant in
    (c.put_bit-next.auto.out ∙ v.0, moves_next _ _ v.1 c.put_bit-next.ensures)

pub returns : goal.returns
returns c =
    let all = moves_end _ _ c.loop-m.auto.m-end c.loop-m-test.false c.loop-m.invariant.1 in
    record { put = all.0; upper_bound = all.1 }

pub loop-m-init : goal.loop-m-init
loop-m-init c = (refl, moves_start _ _ _)

pub put_bit-next-requires : goal.put_bit-next-requires
put_bit-next-requires c = omega (arith, c.loop-m.invariant.1.next, moves_length c.args.set c.loop-m.m)
