use Rattle.capnp_model_versions.proofs.TrimmedCalls.{trimmed-calls}
use Rattle.capnp_model_versions.proofs.laws.calls_at_trimmed_values.Goals as goal

pub returns : goal.returns
returns c = trimmed-calls
