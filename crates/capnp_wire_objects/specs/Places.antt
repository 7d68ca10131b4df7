-- Places, pointers and results of the code, as values of the model.
use Rattle.std.specs.Prelude.{Result, Ok, Err}
use Rattle.capnp_model.specs.Kinds.{Kind}
use Rattle.capnp_model.specs.Segments as model
use Rattle.capnp_model.specs.Pointers.{Pointer, to_struct, to_list, to_pad, to_capability, to_nothing_known}
use Rattle.capnp_units.specs.declared.errors.Error.{Error}
use Rattle.capnp_units.specs.Errors.{kind_of}
use Rattle.capnp_units.specs.Sizes.{size_number}
use Rattle.capnp_wire_objects.specs.declared.place.Place.{Place}
use Rattle.capnp_wire_objects.specs.declared.word_pointer.WordPointer.{WordPointer}
use Rattle.capnp_wire_objects.specs.declared.word_pointer.WordPointer.TheVariants as word

-- The returned value, seen by a view, or the kind of the refusal.
abbrev pub seen : {X Y : Type 0} → (X → Y) → Result X Error → Result Y Kind
seen view (Ok x) = Ok (view x)
seen view (Err e) = Err (kind_of e.kind)

-- The place.
abbrev pub place_view : Place → model.Place
place_view p = model.place p.segment p.position

-- The place as the code has it.
abbrev pub placed : model.Place → Place
placed p = record { segment = p.segment; position = p.position }

-- The pointer.
abbrev pub pointer_view : WordPointer → Pointer
pointer_view (word.Struct o d k) = to_struct o d k
pointer_view (word.List o size n) = to_list o (size_number size) n
pointer_view (word.Far p) = to_pad 1 (place_view p)
pointer_view (word.DoubleFar p) = to_pad 2 (place_view p)
pointer_view (word.Capability i) = to_capability i
pointer_view word.Unknown = to_nothing_known
