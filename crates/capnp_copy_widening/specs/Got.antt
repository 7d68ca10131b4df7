-- Lists that are got. (Encoding, "Lists")
use Rattle.std.specs.Prelude.{◌-◌, ◌==◌, ◌&&◌, ◌||◌, Bool, Result, Ok, Err}
use Rattle.capnp_model.specs.Kinds.{Kind, WrongElementSize, WrongPointerKind}
use Rattle.capnp_model.specs.Chains.{◌and_then◌, guard}
use Rattle.capnp_model.specs.Readings.{is_accepted_as}
use Rattle.capnp_model.specs.Segments.{Segments}
use Rattle.capnp_units.specs.declared.sizes.ElementSize.{ElementSize}
use Rattle.capnp_units.specs.declared.sizes.ElementSize.TheVariants.{Pointer, InlineComposite}
use Rattle.capnp_units.specs.Sizes.{size_number}
use Rattle.capnp_wire.specs.Reads.{list_head}
use Rattle.capnp_wire_objects.specs.declared.place.Place.{Place}
use Rattle.capnp_wire_objects.specs.Objects.{object_at}
use Rattle.capnp_wire_objects.specs.Places.{place_view}
use Rattle.capnp_wire_objects.specs.declared.object.Object.{Object}
use Rattle.capnp_wire_objects.specs.declared.object.Object.TheVariants as object
use Rattle.capnp_copy_arenas.specs.declared.init.ListPlace.{ListPlace}
use Rattle.capnp_copy_widening.specs.declared.lists.Taker.{Taker}
use Rattle.capnp_copy_widening.specs.declared.lists.Taker.TheVariants as taker

-- A list's elements are taken as ones of the expected size where they can be read as such; a builder takes bits as voids too.
abbrev pub is_taken_by : Taker → ElementSize → ListPlace → Bool
is_taken_by taker.Reader expected l = is_accepted_as (size_number expected) (list_head l.size l.data_words l.pointers)
is_taken_by taker.Builder expected l = (size_number expected == 0 && size_number l.size == 1) || is_accepted_as (size_number expected) (list_head l.size l.data_words l.pointers)

-- A list whose elements are taken so.
abbrev pub list_taken : Taker → ElementSize → ListPlace → Result ListPlace Kind
list_taken by expected l = guard (is_taken_by by expected l) WrongElementSize and_then λ _. Ok l

-- The list that an object is, where someone takes elements as ones of a size: null the empty one of them, at its pointer; one of structs from its tag on.
abbrev pub list_place_in : Taker → Place → ElementSize → Object → Result ListPlace Kind
list_place_in by slot expected object.Null = Ok (record { start = slot; size = expected; claimed = 0; count = 0; data_words = 0; pointers = 0 })
list_place_in by slot expected (object.List p size n) = list_taken by expected (record { start = p; size = size; claimed = n; count = n; data_words = 0; pointers = 0 })
list_place_in by slot expected (object.PointerList p n) = list_taken by expected (record { start = p; size = Pointer; claimed = n; count = n; data_words = 0; pointers = 0 })
list_place_in by slot expected (object.StructList p words n d k) = list_taken by expected (record { start = record { segment = p.segment; position = p.position - 1 }; size = InlineComposite; claimed = words; count = n; data_words = d; pointers = k })
list_place_in by slot expected _ = Err WrongPointerKind

-- The list that the pointer at a place names, where someone takes elements as ones of a size, else the kind of the fault.
abbrev pub list_named : Taker → Segments → Place → ElementSize → Result ListPlace Kind
list_named by s slot expected = object_at s (place_view slot) and_then λ f. list_place_in by slot expected f.object
