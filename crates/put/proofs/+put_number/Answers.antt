-- `put::put_number` meets its contract: the digits of n / 10, and then the last. Assumes nothing.
use Rattle.std.proofs.Common.{arith}
use Rattle.texts.proofs.Digits.{length_small, length_more}
use Rattle.put.proofs.Numbers.{put_small, put_more}
use Rattle.put.proofs.+put_number.Goals as goal

pub put_digit-requires : goal.put_digit-requires
put_digit-requires t c = (omega (arith, length_small c.args.n (omega arith)), omega arith)

pub returns-then-n-lt10 : goal.returns-then-n-lt10
returns-then-n-lt10 t c = put_small c.args.n (omega arith) c.put_digit.ensures

pub put_number-last-requires : goal.put_number-last-requires
put_number-last-requires t c = (omega arith, omega (arith, length_more c.args.n (omega arith)))

pub put_digit-requires-2 : goal.put_digit-requires-2
put_digit-requires-2 t c =
    let more = length_more c.args.n (omega arith) in
    (omega (arith, c.put_number-last.auto.out, c.put_number-last.ensures.next), omega arith)

pub returns : goal.returns
returns t c = put_more c.args.n (omega arith) c.put_number-last.ensures c.put_digit-2.ensures
