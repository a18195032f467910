-- `entry::check_bytes` meets its contract. Assumes nothing.
use borrow.Author.Tests.{lt-ltb, le-ltb}
use Rattle.entry.proofs.Bytes.{largest_other, largest_fine}
use Rattle.entry.proofs.check_bytes.Goals as goal

pub returns-then-bytes-n : goal.returns-then-bytes-n
returns-then-bytes-n c = rw (lt-ltb _ _ c.if-bytes-n.true, c.from.ensures)

pub returns-then-largest-gt1 : goal.returns-then-largest-gt1
returns-then-largest-gt1 c =
    rw (le-ltb _ _ c.if-bytes-n.false, largest_other c.largest.ensures c.if-largest-gt1.true, c.from-then-largest-gt1.ensures)

pub returns : goal.returns
returns c = rw (le-ltb _ _ c.if-bytes-n.false, largest_fine c.largest.ensures c.if-largest-gt1.false)
