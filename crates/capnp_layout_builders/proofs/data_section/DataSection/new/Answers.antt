use Rattle.std.proofs.Common.{◌∷◌, [], refl}
use Rattle.capnp_layout_builders.proofs.DataSections.{zero_section}
use Rattle.capnp_layout_builders.proofs.data_section.DataSection.new.Goals as goal

pub returns : goal.returns
returns g c = zero_section g.row.N (0 ∷ 0 ∷ 0 ∷ 0 ∷ 0 ∷ 0 ∷ 0 ∷ 0 ∷ []) refl
