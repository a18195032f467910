-- `tables::fill` meets its contract: with i rows filled in, the rest is still zero. Assumes nothing.
use lib.ListN.{length-set}
use borrow.Author.Rules.{rules}
use native.Mathlib.Omega.{arith}
use mathlib.Core.Path.{◌≡◌, ◌∙◌}
use Rattle.lists.proofs.Tab.{fill_start, fill_next}
use Rattle.format.specs.Format.{row_at, no_rows, rows_of}
use Rattle.format.proofs.RowTests.{length_no_rows, drop_no_rows}
use Rattle.tables.proofs.fill.Goals as goal

pub loop-i-init : goal.loop-i-init
unfolding no_rows
loop-i-init c = (search rules, rw c.zero_row-rows.ensures (fill_start (row_at c.args.b.now) no_rows))

pub loop-i-preserved : goal.loop-i-preserved
loop-i-preserved c =
    let v = c.loop-i.invariant in (
      simp length-set v.0,
      rw (c.row_at.ensures, v.1) (fill_next (row_at c.args.b.now) no_rows c.loop-i.i (omega (arith, length_no_rows))),
    )

pub returns : goal.returns
unfolding rows_of
returns c =
    let e : c.loop-i.i ≡ c.args.n = omega arith in
    c.loop-i.invariant.1 ∙ rw (e, c.requires.0, drop_no_rows)
