-- `worked_main::writing::line` lends no more than the buffer has: what writes the line says so. Assumes nothing.
use native.Mathlib.Omega.{arith}
use mathlib.Core.Path.{refl}
use lib.ListN.{length-take}
use Rattle.worked_main.proofs.writing.line.Goals as goal

pub slice_bounds-buffer-end : goal.slice_bounds-buffer-end
slice_bounds-buffer-end g c =
    let few = c.requires.inside _ _ _ record { shown = _; shows = refl; left = _; met = c.write-n.ensures; leaves = refl } in
    omega (arith, few, c.write-n.array_long)

pub slice_bounds-text-end : goal.slice_bounds-text-end
slice_bounds-text-end g c =
    let few = c.requires.inside _ _ _ record { shown = _; shows = refl; left = _; met = c.write-n.ensures; leaves = refl } in
    simp length-take (omega (arith, few, c.write-n.array_long))
