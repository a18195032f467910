-- `put::put_number` calls itself for the digits of n / 10: n is the measure.
use Rattle.put.proofs.+put_number.Given as goal

abbrev pub decreases-put_number : goal.decreases-put_number
decreases-put_number l = l.n
