-- `lines::table_bytes` meets its contract. Assumes nothing.
use native.Mathlib.Omega.{arith}
use Prim.Native.Nat.{◌+◌, min}
use lib.ListN.{length}
use Rattle.texts.specs.Cut.{length_field, table_bytes}
use mathlib.Core.Path.{sym, ◌≡◌}
use Rattle.texts.proofs.Cuts.{no_field, a_field}
use Rattle.lines.proofs.table_bytes.Goals as goal

pub returns-in_default : goal.returns-in_default
returns-in_default c = sym (no_field _ (omega (arith, c.in_default.len_below)))

pub returns : goal.returns
returns c =
    let by_field : let bs = c.args.bytes.now in table_bytes bs ≡ min (3 + length_field bs) (length bs) =
    a_field _ (omega (arith, c.in-len3-up.len_at_least)) in
    omega (arith, by_field)
