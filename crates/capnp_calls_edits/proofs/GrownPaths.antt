-- The message grows, whatever becomes of a call.
use Rattle.std.proofs.Common.{◌≡◌, ℕ, suc, ◌+◌, List, Option, subst, arith}
use Rattle.capnp_model.specs.Segments.{Segments, Place}
use Rattle.capnp_model.specs.Pointers.{Found}
use Rattle.capnp_model.specs.Trees.{Tree, structure, widened}
use Rattle.capnp_units.specs.declared.sizes.StructSize.{StructSize}
use Rattle.capnp_wire_objects.specs.Places.{place_view}
use Rattle.capnp_model_writes.specs.Footprints.{Owns, OwnsObject}
use Rattle.capnp_model_writes.proofs.lemmas.Spans.{grows_then}
use Rattle.capnp_model_writes.proofs.lemmas.Lift.{object_of_pointer, replaced_owned}
use Rattle.capnp_model_writes.proofs.lemmas.Levels.{owned_more}
use Rattle.capnp_model_writes.proofs.lemmas.Turns.{struct_shape}
use Rattle.capnp_copy_arenas.specs.Structs.{object_of_struct}
use Rattle.capnp_copy_arenas.specs.declared.fields.StructPlace.{StructPlace}
use Rattle.capnp_layout_builders.specs.Gets.{StructGot}
use Rattle.capnp_schema_structs.specs.Grown.{GrowsAround, GrowsBehind}

-- what stands behind it grows further
pub got_grows : (s u v : Segments) (p : Place) (default : Option (List (List ℕ))) (size : StructSize) (o : StructPlace) → StructGot default s u p size o → GrowsAround u v o → GrowsBehind s v p
got_grows s u v p default size o got inner n t own =
    let x = got.value n t own in
    let t1 : Tree = widened size.data_words size.pointers x.0 in
    let first : Owns (n + 65) s p t = owned_more n (n + 65) s p t (omega arith) own in
    let deep : n + 65 ≡ suc (n + 64) = omega arith in
    let now : Owns (suc (n + 64)) u p t1 = subst (λ k. Owns k u p t1) deep (replaced_owned (n + 65) s u p t t1 first x.2) in
    let found : Found = record { pads = got.object.0; object = object_of_struct o } in
    let object : OwnsObject (n + 64) u (object_of_struct o) t1 = object_of_pointer (n + 64) u p found t1 got.object.1 now in
    let shape = struct_shape (n + 64) u (place_view o.start) o.data_words o.pointers t1 object in
    let whole : OwnsObject (n + 64) u (object_of_struct o) (structure o.data_words shape.0 shape.1) = subst (λ y. OwnsObject (n + 64) u (object_of_struct o) y) shape.2 object in
    grows_then s u v x.2.changes.grows (inner (n + 64) shape.0 shape.1 whole)
