use Rattle.capnp_model_versions.specs.TwoVersions.{older}
use Rattle.capnp_model_versions.proofs.PlainViews.{plain-view}
use Rattle.capnp_model_versions.proofs.laws_of_renamings.calls_without_renamings.Goals as goal

pub returns-clause-views : goal.returns-clause-views
returns-clause-views c = λ v r. plain-view (older v) v.older_root r
