-- `list_input`: the two parts that it lends lie within the input. Assumes nothing.
use Rattle.std.proofs.Common.{◌≡◌, ℕ, List, sym, subst, length-take-le, arith}
use Rattle.texts.specs.declared.Cut.{Cut}
use Rattle.texts.specs.Cut.{InOrder, cut_of}
use Rattle.texts.proofs.Cuts.{in_order}
use Rattle.listing.proofs.list_input.Goals as goal

ordered : (bs : List ℕ) (cut : Cut) → cut ≡ cut_of bs → InOrder bs cut
ordered bs cut e = subst (λ (z : Cut). InOrder bs z) (sym e) (in_order bs)

pub slice_bounds-call-end : goal.slice_bounds-call-end
slice_bounds-call-end g c =
    let cut = ordered _ _ c.cut_input-cut.ensures in
    sym (length-take-le _ _ (omega (arith, cut.low, cut.high)))

pub slice_bounds-call-count : goal.slice_bounds-call-count
slice_bounds-call-count g c = (ordered _ _ c.cut_input-cut.ensures).low

pub slice_bounds-call-start : goal.slice_bounds-call-start
slice_bounds-call-start g c = (ordered _ _ c.cut_input-cut.ensures).low

pub slice_bounds-call-end-2 : goal.slice_bounds-call-end-2
slice_bounds-call-end-2 g c = (ordered _ _ c.cut_input-cut.ensures).high
