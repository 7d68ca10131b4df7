-- Objects in the segment of the pointer to them.
use Rattle.std.specs.Prelude.{◌≡◌, ◌*◌, Ok}
use Rattle.capnp_model.specs.Sections.{words_for}
use Rattle.capnp_model.specs.Segments.{Segments, Place}
use Rattle.capnp_units.specs.Sizes.{size_number, data_bits}
use Rattle.capnp_wire_objects.specs.declared.lists.NearList.{NearList}
use Rattle.capnp_wire_objects.specs.declared.structs.NearStruct.{NearStruct}
use Rattle.capnp_wire_objects.specs.declared.structs.NearStructs.{NearStructs}
use Rattle.capnp_wire_objects.specs.declared.object.Object.{Object}
use Rattle.capnp_wire_objects.specs.declared.object.Object.TheVariants as object
use Rattle.capnp_wire_objects.specs.Objects.{object_at, IsInside}

-- The list as an object.
abbrev pub list_object : NearList → Object
list_object l = object.List l.start l.size l.count

-- The bits of a list are those of its elements, and its words hold them.
abbrev pub IsMeasured : NearList → Type 0
IsMeasured l = (l.bits ≡ data_bits (size_number l.size) * l.count) × (l.words ≡ words_for l.bits)

-- The struct as an object.
abbrev pub struct_object : NearStruct → Object
struct_object o = object.Struct o.start o.size.data_words o.size.pointers

-- The list of structs as an object.
abbrev pub structs_object : NearStructs → Object
structs_object l = object.StructList l.start l.words l.count l.size.data_words l.size.pointers

-- The pointer at a place names the object, without a pad, and its words are there.
abbrev pub IsNear : Segments → Place → Object → Type 0
IsNear s p o = (object_at s p ≡ Ok (record { pads = 0; object = o })) × IsInside s o
