-- `put::put` meets its contract: the piece stands from its place on. Assumes nothing.
use Rattle.put.proofs.Pieces.{copied}
use Rattle.put.proofs.put.Goals as goal

pub returns : goal.returns
returns c = copied c.args.piece.now c.args.at c.requires c.copy_from_slice.ensures.after
