-- `lines::cut_input` meets its contract. Assumes nothing.
use native.Mathlib.Omega.{arith}
use Prim.Native.Nat.{ℕ, ◌+◌, ◌-◌, ◌≤◌}
use mathlib.Core.Path.{◌≡◌, ap, ◌∙◌}
use mathlib.Core.List.{List}
use lib.ListN.{length, get_or, take, drop}
use Rattle.std.proofs.lemmas.List.{take_rest}
use Rattle.texts.specs.Cut.{table_bytes}
use Rattle.texts.proofs.Cuts.{tables_inside, cut_read, table_inside}
use Rattle.lines.proofs.cut_input.Goals as goal

-- the reader's table, measured on the part behind the writer's
second : (bs : List ℕ) (w : ℕ) {m : ℕ} → m ≡ table_bytes (take (length bs - w) (drop w bs)) → m ≡ table_bytes (drop w bs)
second bs w e = e ∙ ap table_bytes (take_rest bs w)

both_inside :
    (bs : List ℕ) (w : ℕ) {m : ℕ} → w ≡ table_bytes bs → m ≡ table_bytes (take (length bs - w) (drop w bs)) → w + m ≤ length bs
both_inside bs w e f = tables_inside bs w _ e (second bs w f)

pub slice_bounds-table_bytes-count : goal.slice_bounds-table_bytes-count
slice_bounds-table_bytes-count c = omega (arith, table_inside c.args.input.now)

pub slice_bounds-table_bytes-start : goal.slice_bounds-table_bytes-start
slice_bounds-table_bytes-start c = omega (arith, table_inside c.args.input.now)

pub overflow_add-reader : goal.overflow_add-reader
overflow_add-reader c = omega (arith, both_inside _ _ c.table_bytes-writer.ensures c.table_bytes.ensures)

pub slice_bounds-rest-start : goal.slice_bounds-rest-start
slice_bounds-rest-start c = omega (arith, both_inside _ _ c.table_bytes-writer.ensures c.table_bytes.ensures)

pub slice_bounds-rest-count : goal.slice_bounds-rest-count
slice_bounds-rest-count c = both_inside _ _ c.table_bytes-writer.ensures c.table_bytes.ensures

pub returns : goal.returns
returns c =
    let bs = c.args.input.now in
    let rest = take_rest bs (c.table_bytes-writer.result + c.table_bytes.result) in
    cut_read bs _ _
    c.table_bytes-writer.ensures
    (second bs _ c.table_bytes.ensures)
    (c.byte_or-bound.ensures ∙ ap (λ (l : List ℕ). get_or l 0 0) rest)
    (c.byte_or-rule.ensures ∙ ap (λ (l : List ℕ). get_or l 1 1) rest)
