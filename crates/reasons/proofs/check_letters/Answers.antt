-- `reasons::check_letters` meets its contract. Assumes nothing.
use Rattle.reasons.proofs.Letters.{writer_letter, reader_letter, both_letters}
use Rattle.reasons.proofs.check_letters.Goals as goal

pub returns-then-from-x : goal.returns-then-from-x
returns-then-from-x c = let a = c.args in rw c.of.ensures (writer_letter a.p a.x a.y (rw c.from.ensures at c.if-from-x.true))

pub returns-then-from-y : goal.returns-then-from-y
returns-then-from-y c =
    let a = c.args in
    rw c.of-then-from-y.ensures
    (reader_letter a.p a.x a.y (rw c.from.ensures at c.if-from-x.false) (rw c.from-2.ensures at c.if-from-y.true))

pub returns : goal.returns
returns c = let a = c.args in both_letters a.p a.x a.y (rw c.from.ensures at c.if-from-x.false) (rw c.from-2.ensures at c.if-from-y.false)
