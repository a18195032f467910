-- `permissions::permitted` meets its contract: the eight bytes of the place, big-endian. Assumes nothing.
use Rattle.std.proofs.Common.{rules, ◌∙◌}
use Rattle.std.proofs.lemmas.List.{places}
use Rattle.permissions.proofs.ListLaws.{set_from}
use Rattle.permissions.proofs.permitted.Goals as goal

pub returns : goal.returns
returns c = c.from_be_bytes.ensures ∙ set_from _ c.copy_from_slice.new.self c.args.p (λ i few. search (rules, places))
