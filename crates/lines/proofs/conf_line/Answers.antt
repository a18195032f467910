-- `lines::conf_line` meets its contract: three numbers, the word, the moves and the end of the line. Assumes nothing.
use native.Mathlib.Omega.{arith}
use Rattle.texts.specs.Text.{conf_line}
use Rattle.put.proofs.Pieces.{then, whole}
use Rattle.lines.proofs.conf_line.Goals as goal

-- p1 to p3 are the places behind the three numbers, w that behind the word, m that behind the moves
pub returns : goal.returns
unfolding conf_line
returns c =
    let two = then c.put_field-second.ensures.put c.put_field-third.ensures.put in
    let word = then (then two c.put_field-word.ensures.put) c.put-moves.ensures in
    whole (then (then word c.put_moves-end.ensures.put) c.end_line.ensures) (omega arith)
