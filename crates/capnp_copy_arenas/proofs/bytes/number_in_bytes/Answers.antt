use Rattle.std.proofs.Common.{◌∙◌, rules}
use Rattle.capnp_copy_arenas.proofs.ByteSets.{all_number}
use Rattle.capnp_copy_arenas.proofs.bytes.number_in_bytes.Goals as goal

pub returns : goal.returns
returns c = c.get.ensures.value ∙ all_number c.args.bytes.now _ c.requires (search rules)
