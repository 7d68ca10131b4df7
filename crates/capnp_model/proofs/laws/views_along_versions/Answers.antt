use Rattle.capnp_model.proofs.ComposedViews.{views_along_versions}
use Rattle.capnp_model.proofs.laws.views_along_versions.Goals as goal

pub returns : goal.returns
returns c = views_along_versions
