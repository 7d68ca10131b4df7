-- A root that is opened with the older schema's sizes is whole.
use Rattle.std.proofs.Common.{ℕ, ◌*◌, max, arith}
use Rattle.std.proofs.lemmas.Nat.{pow_pos}
use Rattle.capnp_model.specs.Trees.{Tree, null, capability, structure, plain_list, pointer_list, struct_list, none}
use Rattle.capnp_model.specs.Trimming.{trim}
use Rattle.capnp_model.specs.Schemas.{Shape, shape, Schema}
use Rattle.capnp_model.specs.Answers.{widened_root, opened_root}
use Rattle.capnp_model.proofs.lemmas.Numbers.{wider}
use Rattle.capnp_model_versions.specs.Whole.{IsWhole}
use Rattle.capnp_model_versions.proofs.lemmas.WholeValues.{whole-trim, whole-resized, whole-padded_to}
use Rattle.capnp_model_versions.proofs.lemmas.TrimmedRelays.{whole_root}
