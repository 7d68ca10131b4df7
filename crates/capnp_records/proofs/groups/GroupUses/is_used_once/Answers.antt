use Rattle.std.proofs.Common.{◌∙◌}
use Rattle.capnp_model.specs.Accepted.{uses_of}
use Rattle.capnp_records.specs.Listed.{listed}
use Rattle.capnp_records.proofs.Holders.{not_seen, seen_once}
use Rattle.capnp_records.proofs.groups.GroupUses.is_used_once.Goals as goal

pub returns-in-None : goal.returns-in-None
returns-in-None c = not_seen (uses_of (listed c.args.nodes) c.args.id) (c.in-None.ensures.value ∙ c.requires.once c.args.id)

pub returns-in-Some : goal.returns-in-Some
returns-in-Some c = seen_once (uses_of (listed c.args.nodes) c.args.id) c.in-Some.once.now (c.in-Some.ensures.value ∙ c.requires.once c.args.id)
