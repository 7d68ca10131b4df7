-- The message grows where structs and lists of structs are got.
use Rattle.std.proofs.Common.{inl, inr, List, ℕ, Option, Ok, Err, Result, IfOk, IfErr}
use Rattle.capnp_model.specs.Coverage.{Grows}
use Rattle.capnp_model.specs.Segments.{Segments, Place}
use Rattle.capnp_units.specs.declared.errors.Error.{Error}
use Rattle.capnp_units.specs.declared.sizes.ElementSize.{ElementSize}
use Rattle.capnp_units.specs.declared.sizes.StructSize.{StructSize}
use Rattle.capnp_wire_objects.specs.declared.place.Place as code
use Rattle.capnp_wire_objects.specs.Places.{place_view}
use Rattle.capnp_copy_arenas.specs.declared.fields.StructPlace.{StructPlace}
use Rattle.capnp_copy_arenas.specs.declared.init.ListPlace.{ListPlace}
use Rattle.capnp_layout_builders.specs.Gets.{StructGot, ListGot, NoListGot, StructListGot, NoStructListGot}
use Rattle.capnp_schema_structs.specs.Grown.{GrowsBehind}
use Rattle.capnp_schema_structs.proofs.lemmas.Grown.{begin_grows, gets_grow}

pub struct_grows : (default : Option (List (List ℕ))) (s u : Segments) (p : Place) (size : StructSize) (o : StructPlace) → StructGot default s u p size o → GrowsBehind s u p
struct_grows default s u p size o got = gets_grow default s u p _ got.value

pub structs_grow : (default : Option (List (List ℕ))) (s u : Segments) (slot : code.Place) (size : StructSize) (o : ListPlace) → StructListGot default s u slot size o → GrowsBehind s u (place_view slot)
structs_grow default s u slot size o got = gets_grow default s u (place_view slot) _ got.value

pub no_structs_grow : (default : Option (List (List ℕ))) (s u : Segments) (slot : code.Place) (size : StructSize) (e : Error) → NoStructListGot default s u slot size e → Grows s u
no_structs_grow default s u slot size e (inl b) = begin_grows default s u (place_view slot) (Err e) b
no_structs_grow default s u slot size e (inr b) = begin_grows default s u (place_view slot) (Ok tt) b.0

pub others_grow : (default : Option (List (List ℕ))) (s u : Segments) (slot : code.Place) (size : ElementSize) (r : Result ListPlace Error) → IfOk r (ListGot default s u slot size) → IfErr r (NoListGot default s u slot size) → GrowsBehind s u (place_view slot)
others_grow default s u slot size (Ok o) got h n t own = gets_grow default s u (place_view slot) _ got.value n t own
others_grow default s u slot size (Err e) got (inl b) n t own = begin_grows default s u (place_view slot) (Err e) b
others_grow default s u slot size (Err e) got (inr b) n t own = begin_grows default s u (place_view slot) (Ok tt) b.0
