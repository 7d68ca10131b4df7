-- The elements of lists.
use Rattle.std.proofs.Common.{ℕ, ◌<◌, ◌*◌, ◌^◌, nat_le}
use Rattle.capnp_model.specs.Sections.{bits_at}
use Rattle.capnp_units.specs.Sizes.{size_number}
use Rattle.capnp_wire.specs.Elements.{step_bits, element_bits}
use Rattle.capnp_wire.specs.Views.{ListView, element_number}
use Rattle.capnp_model.proofs.lemmas.Bits.{bits_at-lt}
use Rattle.capnp_values.proofs.Bits.{either_lt}
use Rattle.capnp_values.proofs.Named.{named_struct}

-- the number at the front of an element is within its width
pub element_number-lt : (l : ListView) (i w : ℕ) → element_number l i w < 2 ^ w
element_number-lt l i w =
    either_lt (nat_le w (element_bits (size_number l.size) l.data_words)) (bits_at (step_bits (size_number l.size) l.data_words l.pointers * i) w l.section) w (bits_at-lt (step_bits (size_number l.size) l.data_words l.pointers * i) w l.section)

pub ruleset element_rules = (element_number-lt, named_struct)
