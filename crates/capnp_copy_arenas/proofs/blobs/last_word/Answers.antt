use Rattle.std.proofs.Common.{◌≡◌, ◌∙◌, ℕ, List, replicate, refl, rules}
use Rattle.capnp_copy_arenas.specs.Memory.{overwritten}
use Rattle.capnp_copy_arenas.proofs.lemmas.BlobNumbers.{last_number}
use Rattle.capnp_copy_arenas.proofs.blobs.last_word.Goals as goal

pub returns : goal.returns
returns c = c.get.ensures.value ∙ last_number c.args.rest.now (replicate 8 0) _ c.requires refl (search rules)
