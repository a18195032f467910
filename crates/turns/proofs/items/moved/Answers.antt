-- `turns::items::moved` meets its contract: with i places filled in, the rest is still zero. Assumes nothing.
use native.Mathlib.Omega.{arith}
use mathlib.Core.Path.{◌≡◌, ◌∙◌, refl}
use lib.ListN.{replicate, length-set}
use Rattle.lists.proofs.Tab.{fill_next, fill_start}
use Rattle.calls.proofs.Queues.{padded_fill}
use Rattle.turns.proofs.items.moved.Goals as goal

pub loop-i-preserved : goal.loop-i-preserved
loop-i-preserved c =
    let v = c.loop-i.invariant in
    (simp length-set v.0, rw (c.queued_at.ensures, v.1) (fill_next _ (replicate 16 0) c.loop-i.i (omega arith)))

pub returns : goal.returns
returns c =
    let e : c.loop-i.i ≡ c.args.n = omega arith in
    c.loop-i.invariant.1 ∙ rw e (padded_fill _ _)

pub loop-i-init : goal.loop-i-init
loop-i-init c = (refl, fill_start _ (replicate 16 0))
