-- Objects that pointers name, as values of the model.
use Rattle.std.specs.Prelude.{ℕ, Result}
use Rattle.std.specs.Option.{ok_or}
use Rattle.capnp_model.specs.Kinds.{Kind, OutOfBounds}
use Rattle.capnp_model.specs.Chains.{◌and_then◌}
use Rattle.capnp_model.specs.Segments.{Segments, Place, words_at}
use Rattle.capnp_model.specs.Pointers as model
use Rattle.capnp_units.specs.Sizes.{size_number}
use Rattle.capnp_wire_objects.specs.declared.named.NamedObject.{NamedObject}
use Rattle.capnp_wire_objects.specs.declared.named.NamedObject.TheVariants as named
use Rattle.capnp_wire_objects.specs.declared.named.FoundObject.{FoundObject}
use Rattle.capnp_wire_objects.specs.Places.{place_view}

-- The object.
abbrev pub named_view : NamedObject → model.Object
named_view named.Null = model.nothing
named_view (named.Struct p d k) = model.a_struct (place_view p) d k
named_view (named.List p size n) = model.a_list (place_view p) (size_number size) n
named_view (named.Capability i) = model.a_capability i

-- The found object.
abbrev pub found_view : FoundObject → model.Found
found_view f = record { pads = f.pads; object = named_view f.object }

-- The object of a landing pad of n words.
abbrev pub pad_object : Segments → Place → ℕ → Result model.Object Kind
pad_object s p n = ok_or (words_at s p n) OutOfBounds and_then λ ws. model.in_pad p ws
