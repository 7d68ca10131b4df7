use Rattle.capnp_model_versions.proofs.RenamedVersions.{view-across-renamed}
use Rattle.capnp_model_versions.proofs.laws_of_renamings.records_by_older_names.Goals as goal

pub returns : goal.returns
returns c = view-across-renamed
