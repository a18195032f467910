-- `reasons::reason` meets its contract: the tests in their order. Assumes nothing.
use mathlib.Core.Path.{sym, ◌∙◌}
use Rattle.units.proofs.Passing.{room_little, stock_little, all_passing}
use Rattle.reasons.proofs.Extremes.{no_writer, no_reader, some_overflows, some_underflows, some_leaves, none_leaves}
use Rattle.reasons.proofs.reason.Goals as goal

pub returns-in_default : goal.returns-in_default
returns-in_default c = no_writer _ _ _ _ _ _ c.requires.0 (rw c.in_default.is at c.requires.1).1

pub returns-in_default-takes : goal.returns-in_default-takes
returns-in_default-takes c =
    let w = rw c.in-Some.is at c.requires.1 in
    no_reader _ _ _ _ _ _ c.requires.0 w.0 w.1 (rw c.in_default-takes.is at c.requires.2).1

pub has_room-requires : goal.has_room-requires
has_room-requires c =
    let w = rw c.in-Some.is at c.requires.1 in
    let t = rw c.in-Some-takes.is at c.requires.2 in
    room_little _ _ _ _ _ w.0 t.0 w.1 t.1 c.requires.0

pub returns-then-not-has_room : goal.returns-then-not-has_room
returns-then-not-has_room c =
    let w = rw c.in-Some.is at c.requires.1 in
    let t = rw c.in-Some-takes.is at c.requires.2 in
    some_overflows _ _ _ _ _ _ c.requires.0 w.0 t.0 w.1 t.1 c.has_room.ensures c.if-not-has_room.true

pub has_stock-requires : goal.has_stock-requires
has_stock-requires c =
    let w = rw c.in-Some.is at c.requires.1 in
    let t = rw c.in-Some-takes.is at c.requires.2 in
    stock_little _ _ _ _ _ w.0 t.0 w.1 t.1 c.requires.0

pub returns-then-not-has_stock : goal.returns-then-not-has_stock
returns-then-not-has_stock c =
    let w = rw c.in-Some.is at c.requires.1 in
    let t = rw c.in-Some-takes.is at c.requires.2 in
    some_underflows _ _ _ _ _ _ c.requires.0 w.0 t.0 w.1 t.1 c.has_room.ensures c.if-not-has_room.false
    c.has_stock.ensures c.if-not-has_stock.true

pub leaves-requires : goal.leaves-requires
leaves-requires c =
    let w = rw c.in-Some.is at c.requires.1 in
    let t = rw c.in-Some-takes.is at c.requires.2 in (
      c.requires.0,
      all_passing _ _ c.args.s _ _ w.0 t.0 (sym c.has_room.ensures ∙ c.if-not-has_room.false) (sym c.has_stock.ensures ∙ c.if-not-has_stock.false),
    )

pub returns-then-leaves : goal.returns-then-leaves
returns-then-leaves c =
    let w = rw c.in-Some.is at c.requires.1 in
    let t = rw c.in-Some-takes.is at c.requires.2 in
    some_leaves _ _ _ _ _ _ c.requires.0 w.0 t.0 w.1 t.1 c.has_room.ensures c.if-not-has_room.false
    c.has_stock.ensures c.if-not-has_stock.false c.leaves.ensures c.if-leaves.true

pub returns : goal.returns
returns c =
    let w = rw c.in-Some.is at c.requires.1 in
    let t = rw c.in-Some-takes.is at c.requires.2 in
    none_leaves _ _ _ _ _ _ c.requires.0 w.0 t.0 w.1 t.1 c.has_room.ensures c.if-not-has_room.false
    c.has_stock.ensures c.if-not-has_stock.false c.leaves.ensures c.if-leaves.false
