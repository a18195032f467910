-- `lines::put_bit` meets its contract: the move stands there exactly if the set has the bit. Assumes nothing.
use Rattle.put.proofs.Pieces.{put_nothing, reads_as}
use Rattle.texts.proofs.Moves.{bit_set, bit_clear}
use Rattle.lines.proofs.put_bit.Goals as goal

pub returns-then-set-m-eq1 : goal.returns-then-set-m-eq1
returns-then-set-m-eq1 c = reads_as (bit_set _ _ c.if-set-m-eq1.true) c.put_move.ensures

pub returns : goal.returns
returns c = reads_as (bit_clear _ _ c.if-set-m-eq1.false) (put_nothing _ _)
