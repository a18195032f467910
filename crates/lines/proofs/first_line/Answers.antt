-- `lines::first_line` meets its contract: five words with their numbers, and the end of the line. Assumes nothing.
use Prim.Native.Nat.{◌<◌}
use native.Mathlib.Omega.{arith}
use mathlib.Core.Path.{◌≡◌}
use lib.ListN.{length}
use Rattle.texts.specs.Text.{first_line}
use Rattle.put.proofs.Pieces.{then, whole}
use Rattle.lines.proofs.first_line.Goals as goal

-- p1 to p5 are the places behind the five fields
pub returns : goal.returns
unfolding first_line
returns c =
    let size : length c.args.out.now ≡ 512 =
    omega arith in
    let room : c.put_field-end.result < 512 =
    omega arith in
    let two = then c.put_field-second.ensures.put c.put_field-third.ensures.put in
    let four = then (then two c.put_field-fourth.ensures.put) c.put_field-fifth.ensures.put in
    whole (then (then four c.put_field-end.ensures.put) c.end_line.ensures) (omega (arith, size, room))
