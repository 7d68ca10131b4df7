use Rattle.capnp_model_versions.proofs.BareSchemas.{relay-puts-none}
use Rattle.capnp_model_versions.proofs.laws_of_capabilities.relayed_values_without_capabilities.Goals as goal

pub returns : goal.returns
returns c = relay-puts-none
