-- `runs::some_nonzero` meets its contract: a search from low to high. Assumes nothing.
use Rattle.std.proofs.Common.{rules, tests, arith}
use Rattle.std.proofs.lemmas.Iterator.{YieldsList-from_slice}
use Rattle.std.proofs.lemmas.Iterator.Adapters.{YieldsList-from_skip}
use Rattle.std.proofs.lemmas.Iterator.Search.{any_from_yields_List}
use Rattle.runs.proofs.Opening.{places_from}
use Rattle.runs.proofs.some_nonzero.Goals as goal

pub returns : goal.returns
returns c =
    places_from _ _ (omega arith)
    (any_from_yields_List _ _ _ _ c.any.ensures.ran
    (YieldsList-from_skip c.args.from (YieldsList-from_slice c.args.items (cc)) (cc))
    (λ x b q k. search (rules, tests)))
