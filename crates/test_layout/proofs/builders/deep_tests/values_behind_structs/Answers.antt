use Rattle.std.proofs.Common.{sym, subst}
use Rattle.capnp_model.specs.Segments.{after}
use Rattle.capnp_model.specs.Pointers.{a_struct}
use Rattle.capnp_model.specs.Trees.{Tree}
use Rattle.capnp_model_writes.specs.Footprints.{Owns, OwnsObject}
use Rattle.capnp_model_writes.specs.Changes.{ReplacesObject}
use Rattle.capnp_copy_arenas.specs.Structs.{object_of_struct}
use Rattle.capnp_wire_objects.specs.Places.{place_view}
use Rattle.test_layout.specs.Deep.{value_at_pointer, with_behind, with_number}
use Rattle.test_layout.proofs.builders.deep_tests.values_behind_structs.Goals as goal

pub returns : goal.returns
returns c =
    let pointers = c.objects_of_pointers.ensures in
    let children = c.children_of_structs.ensures in
    let shape = c.shapes_of_objects.ensures.structs in
    record {
      down = λ n s p q d k i t leads less own.
          let object = pointers.down n s p _ t leads.1 own in
          let is = shape n s q d k t object in
          let object' = subst (λ (x : Tree). OwnsObject n s (a_struct q d k) x) is.2 object in
          subst (λ (x : Tree). Owns n s (after (after q d) i) (value_at_pointer i x)) (sym is.2) (children.down n s q d k i d is.0 is.1 less object');
      up = λ n s u p q d k i t v leads less own change.
          let object = pointers.down n s p _ t leads.1 own in
          let is = shape n s q d k t object in
          let object' = subst (λ (x : Tree). OwnsObject n s (a_struct q d k) x) is.2 object in
          let lifted = children.up n s u q d k i d is.0 is.1 v less object' change in
          pointers.up n s u p _ t _ leads.1 own (subst (λ (x : Tree). ReplacesObject n s u (a_struct q d k) (with_behind i v x)) (sym is.2) lifted);
      number = λ n s u p o v t leads sets own.
          let object = pointers.down n s p _ t leads.1 own in
          let is = shape n s (place_view o.start) o.data_words o.pointers t object in
          let object' = subst (λ (x : Tree). OwnsObject n s (object_of_struct o) x) is.2 object in
          pointers.up n s u p _ t _ leads.1 own (subst (λ (x : Tree). ReplacesObject n s u (object_of_struct o) (with_number v x)) (sym is.2) (sets n is.0 is.1 object'));
    }
