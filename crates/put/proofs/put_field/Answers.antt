-- `put::put_field` meets its contract: a word and then a number, which has at most 20 digits. Assumes nothing.
use native.Mathlib.Omega.{arith}
use Rattle.texts.proofs.Digits.{most_digits}
use Rattle.put.proofs.Pieces.{then}
use Rattle.put.proofs.put_field.Goals as goal

pub put_number-requires : goal.put_number-requires
put_number-requires c =
    let few = most_digits c.ranges.n.fits in
    omega (arith, c.put-number.auto.out, c.put-number.ensures.next)

pub returns : goal.returns
returns c =
    let few = most_digits c.ranges.n.fits in
    record { put = then c.put-number.ensures c.put_number.ensures; upper_bound = omega (arith, c.put_number.ensures.next, c.put-number.ensures.next) }
