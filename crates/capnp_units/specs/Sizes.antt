-- The sizes of lists' elements by their numbers in list pointers. (Encoding, "Lists")
use Rattle.std.specs.Prelude.{ℕ, ◌==◌, nat_lt, if◌then◌else◌}
use Rattle.capnp_model.specs.Trees.{size_bits}
use Rattle.capnp_units.specs.declared.sizes.ElementSize.{ElementSize}
use Rattle.capnp_units.specs.declared.sizes.WirePointerKind.{WirePointerKind}
use Rattle.capnp_units.specs.declared.sizes.WirePointerKind.TheVariants as kind
use Rattle.capnp_units.specs.declared.sizes.ElementSize.TheVariants.{Void, Bit, Byte, TwoBytes, FourBytes, EightBytes, Pointer, InlineComposite}

-- The number that a list pointer has for a size.
abbrev pub size_number : ElementSize → ℕ
size_number Void = 0
size_number Bit = 1
size_number Byte = 2
size_number TwoBytes = 3
size_number FourBytes = 4
size_number EightBytes = 5
size_number Pointer = 6
size_number InlineComposite = 7

-- The bits of data in an element, by its size's number. Pointers and structs aren't counted.
abbrev pub data_bits : ℕ → ℕ
data_bits number = if nat_lt number 6 then size_bits number else 0

-- The pointers in an element, by its size's number. Those of structs aren't counted.
abbrev pub pointer_count : ℕ → ℕ
pointer_count number = if number == 6 then 1 else 0

-- The number that a pointer's lowest two bits have for its kind. (Encoding, "Structs", "Lists", "Inter-Segment Pointers", "Capabilities (Interfaces)")
abbrev pub kind_number : WirePointerKind → ℕ
kind_number kind.Struct = 0
kind_number kind.List = 1
kind_number kind.Far = 2
kind_number kind.Other = 3
