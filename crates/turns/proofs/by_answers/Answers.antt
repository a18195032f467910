-- `turns::by_answers` meets its contract: 16 of the writer, 16 of the reader, then the rows. Assumes nothing.
use mathlib.Core.Path.{◌∙◌, sym}
use Rattle.turns.proofs.Turning.{no_writer_row, no_reader_row, both_rows, rows_movable}
use Rattle.turns.proofs.by_answers.Goals as goal

pub returns-in_default : goal.returns-in_default
returns-in_default c =
    let a = c.args in
    rw c.of.ensures (no_writer_row a.p a.run a.cycle c.requires (sym c.in_default.is ∙ c.row_of.ensures))

pub returns-in_default-row_of : goal.returns-in_default-row_of
returns-in_default-row_of c =
    let a = c.args in
    rw c.of-in_default-row_of.ensures
    (no_reader_row a.p a.run a.cycle c.requires (sym c.in-Some.is ∙ c.row_of.ensures) (sym c.in_default-row_of.is ∙ c.row_of-2.ensures))

pub done-requires : goal.done-requires
done-requires c =
    let a = c.args in
    rows_movable a.p a.run a.cycle c.requires (sym c.in-Some.is ∙ c.row_of.ensures) (sym c.in-Some-row_of.is ∙ c.row_of-2.ensures)

pub returns : goal.returns
returns c =
    let a = c.args in
    rw c.done.ensures
    (both_rows a.p a.run a.cycle c.requires (sym c.in-Some.is ∙ c.row_of.ensures) (sym c.in-Some-row_of.is ∙ c.row_of-2.ensures))
