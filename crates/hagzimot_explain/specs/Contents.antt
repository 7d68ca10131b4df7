-- What a pointer's word says by itself.
use Rattle.capnp_model.specs.Pointers.{Pointer, to_struct, to_list, to_pad, to_capability, to_nothing_known}
use Rattle.capnp_units.specs.Sizes.{size_number}
use Rattle.capnp_wire_objects.specs.Places.{place_view}
use Rattle.hagzimot_explain.specs.declared.contents.Contents.{Contents}
use Rattle.hagzimot_explain.specs.declared.contents.Contents.TheVariants as contents
use Rattle.hagzimot_explain.specs.Parts.{pad_words}

-- The pointer, as the model has it.
abbrev pub contents_view : Contents → Pointer
contents_view (contents.Struct o d k) = to_struct o d k
contents_view (contents.List o size n) = to_list o (size_number size) n
contents_view (contents.Far pad) = to_pad (pad_words pad) (place_view pad.place)
contents_view (contents.Capability i) = to_capability i
contents_view contents.Unknown = to_nothing_known
