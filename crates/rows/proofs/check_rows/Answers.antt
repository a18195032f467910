-- `rows::check_rows` meets its contract: what `position` over the rows finds is the first. Each answer reads a byte of the list at j, so that the
-- set `ranges` is tried at j. Assumes nothing.
use Rattle.std.proofs.Common.{rules, ◌<◌, refl}
use Rattle.std.proofs.iter.runs.Sources.{ranges}
use Rattle.lists.proofs.Search.{first_by, first_out}
use Rattle.format.specs.Reads.{bad_row, fall_row}
use Rattle.format.proofs.Readings.{rows_7, rows_8, rows_fine}
use Rattle.rows.proofs.check_rows.Goals as goal

pub returns-in-Some : goal.returns-in-Some
returns-in-Some g c =
    let below : c.in-Some.bad < c.from-n.result = search rules in
    let is_first = first_by (bad_row c.args.b.now) _ c.in-Some.bad below (search (rules, ranges))
    (λ j low high. let byte = c.type_inv.b j in search (rules, ranges)) in
    rw c.refuse_row.ensures (rows_7 _ _ c.from-n.ensures is_first below)

pub returns-in-Some-position : goal.returns-in-Some-position
returns-in-Some-position g c =
    let below : c.in-Some-position.fall < c.from-n.result = search rules in
    let none_bad = first_out (bad_row c.args.b.now) c.from-n.result
    (λ j low high. let byte = c.type_inv.b j in search (rules, ranges)) in
    let is_first = first_by (fall_row c.args.b.now) _ c.in-Some-position.fall below (search (rules, ranges))
    (λ j low high. let byte = c.type_inv.b j in search (rules, ranges)) in
    rw c.refuse_row-in-Some-position.ensures (rows_8 _ _ c.from-n.ensures refl none_bad is_first below)

pub returns : goal.returns
returns g c =
    let none_bad = first_out (bad_row c.args.b.now) c.from-n.result
    (λ j low high. let byte = c.type_inv.b j in search (rules, ranges)) in
    let none_falls = first_out (fall_row c.args.b.now) c.from-n.result
    (λ j low high. let byte = c.type_inv.b j in search (rules, ranges)) in
    rows_fine _ _ c.from-n.ensures refl none_bad refl none_falls
