-- `list_at`: the listings so far, and one more. Assumes nothing.
use Rattle.std.proofs.Common.{List, ℕ, sym, subst, rules}
use Rattle.std.proofs.lemmas.List.{take_more}
use Rattle.worked.specs.declared.TheConstants.{REGISTERED}
use Rattle.listing.specs.Printed.{PrintsEach}
use Rattle.listing.proofs.Joined.{each_more}
use Rattle.listing.proofs.list_at.Goals as goal

pub loop-bound-preserved : goal.loop-bound-preserved
loop-bound-preserved g c =
    subst (λ (z : List ℕ). PrintsEach c.args.writer.now c.args.reader.now REGISTERED z (g.W.Write.contents c.args.out.now) (g.W.Write.contents c.list.new.out))
    (sym (take_more c.args.bounds.now c.loop-bound.bound-index 0 (search rules)))
    (each_more _ _ _ _ _ _ _ _ c.loop-bound.invariant c.in_ok-list.ensures)
