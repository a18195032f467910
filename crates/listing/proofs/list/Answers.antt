-- `list`: the first line, then the places. Assumes nothing.
use Rattle.std.proofs.Common.{rules}
use Rattle.listing.proofs.Joined.{whole}
use Rattle.listing.proofs.list.Goals as goal

pub returns : goal.returns
returns g c = whole _ _ _ _ _ _ c.in_ok-list_head.ensures (search rules) c.list_places.ensures
