use Rattle.capnp_model.proofs.CopiedGroups.{set_by_writes, begun_whole}
use Rattle.capnp_model.proofs.laws_of_edits.groups_set_by_writes.Goals as goal

pub returns : goal.returns
returns c = record { whole = set_by_writes; begun = begun_whole }
