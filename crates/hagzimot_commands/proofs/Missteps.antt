-- Steps that lead nowhere.
use Rattle.std.proofs.Common.{◌≡◌, ℕ, List, Some, None}
use Rattle.capnp_model.specs.Calls.{Step as ModelStep, name}
use Rattle.capnp_records.specs.declared.node.NodeRecord.{NodeRecord}
use Rattle.hagzimot_commands.specs.declared.paths.Landing.{Landing}
use Rattle.hagzimot_commands.specs.declared.paths.Misstep.{Misstep}
use Rattle.hagzimot_commands.specs.declared.paths.Misstep.TheVariants as misstep
use Rattle.hagzimot_commands.specs.Paths.{node_of_landing, field_named, IsMisstep, TellsNoField}

-- a node that has no field of a name
pub no_field_misses : (nodes : List NodeRecord) (at : Landing) (s : ModelStep) (n : NodeRecord) (text : List ℕ) (e : Misstep) → s ≡ name text → node_of_landing nodes at ≡ Some n → field_named n text ≡ None → TellsNoField n text e → IsMisstep nodes at s e
no_field_misses nodes at s n text (misstep.NoField told node nearest) is there gone tells = (n, text, is, there, gone, tells)
no_field_misses nodes at s n text (misstep.NoStruct told) is there gone tells = absurd tells
no_field_misses nodes at s n text (misstep.NoList i) is there gone tells = absurd tells
no_field_misses nodes at s n text misstep.Memory is there gone tells = absurd tells
