use Rattle.capnp_model_versions.proofs.RenamedVersions.{values-across-renamed, records-across-renamed, replies-across-renamed}
use Rattle.capnp_model_versions.proofs.laws_of_renamings.calls_across_renamed_versions.Goals as goal

pub returns : goal.returns
returns c = record { values = values-across-renamed; records = records-across-renamed; replies = replies-across-renamed }
