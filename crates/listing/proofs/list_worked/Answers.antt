-- `list_worked`: pair A, then pair C. Assumes nothing.
use Rattle.listing.proofs.Joined.{both}
use Rattle.listing.proofs.list_worked.Goals as goal

pub returns : goal.returns
returns g c = both _ _ _ _ c.in_ok-list_at.ensures c.list_at-2.ensures
