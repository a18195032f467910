-- `lines::refusal_line` meets its contract: three words with their numbers, and the end of the line. Assumes nothing.
use native.Mathlib.Omega.{arith}
use Rattle.texts.specs.Text.{refusal_line}
use Rattle.put.proofs.Pieces.{then, whole}
use Rattle.lines.proofs.refusal_line.Goals as goal

-- p1 to p3 are the places behind the three fields
pub returns : goal.returns
unfolding refusal_line
returns c =
    let two = then c.put_field-second.ensures.put c.put_field-third.ensures.put in
    whole (then (then two c.put_field-end.ensures.put) c.end_line.ensures) (omega arith)
