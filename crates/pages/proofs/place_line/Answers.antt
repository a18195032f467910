-- `pages::place_line` meets its contract. Assumes nothing.
use native.Mathlib.Omega.{arith}
use mathlib.Core.Path.{sym, ap, ◌∙◌}
use Rattle.rules.specs.declared.Pair.{Pair}
use Rattle.calls.specs.Call.{pair_of}
use Rattle.format.proofs.Verdicts.{known_refused}
use Rattle.entry.proofs.Entering.{entry_is, entry_known}
use Rattle.listings.proofs.Texts.{nothing, instead, place_past, place_out, place_kept, place_refused}
use Rattle.pages.proofs.place_line.Goals as goal

pub returns-then-kept-p : goal.returns-then-kept-p
returns-then-kept-p c = nothing _ (place_past _ _ _ c.if-kept-p.true)

pub returns-then-kept-p-ne1 : goal.returns-then-kept-p-ne1
returns-then-kept-p-ne1 c = nothing _ (place_out _ _ _ c.if-kept-p-ne1.true)

pub returns-in_default : goal.returns-in_default
returns-in_default c =
    nothing _ (place_refused _ _ _ c.if-kept-p-ne1.false (known_refused _ (pair_of c.args.call.now) c.entered.ensures c.in_default.is))

pub spot_line-requires : goal.spot_line-requires
spot_line-requires c =
    let ok = sym c.entered.ensures ∙ c.in-Ok.is in
    let known = entry_known c.args.call.now ok in
    let same = ap (λ (X : Pair). X.bound) (entry_is c.args.call.now ok) in
    let readers = ap (λ (X : Pair). X.reader.states) (entry_is c.args.call.now ok) in
    (omega (arith, c.from.ensures, known.good.reader.states.0), (omega (arith, known.few, same), c.from.ensures ∙ sym readers))

pub returns : goal.returns
returns c = instead (place_kept _ _ _ c.if-kept-p-ne1.false) c.spot_line.ensures
