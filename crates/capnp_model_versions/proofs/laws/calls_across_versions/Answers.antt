use Rattle.capnp_model_versions.proofs.Versions.{values-across-versions, records-across-versions, replies-across-versions}
use Rattle.capnp_model_versions.proofs.laws.calls_across_versions.Goals as goal

pub returns : goal.returns
returns c = record { values = values-across-versions; records = records-across-versions; replies = replies-across-versions }
