-- The list behind a pointer: a call written at its element is written at the pointer.
use Rattle.std.proofs.Common.{◌≡◌, ℕ, suc, ◌+◌, ◌<◌, List, ◌∷◌, Option, subst, ap, arith}
use Rattle.capnp_model.specs.Segments.{Segments}
use Rattle.capnp_model.specs.Pointers.{Found}
use Rattle.capnp_model.specs.Trees.{Tree}
use Rattle.capnp_model.specs.Schemas.{Ty, list, Schema}
use Rattle.capnp_model.specs.Calls.{Step, index, Verb}
use Rattle.capnp_model.specs.Edits.{opened_tree, as_list, edit_list, edit_element}
use Rattle.capnp_wire_objects.specs.declared.place.Place as code
use Rattle.capnp_wire_objects.specs.Places.{place_view}
use Rattle.capnp_model_writes.specs.Footprints.{Owns, OwnsObject}
use Rattle.capnp_model_writes.specs.Changes.{Replaces}
use Rattle.capnp_model_writes.proofs.lemmas.Lift.{object_of_pointer, pointer_of_object, replaced_owned, replaced_then}
use Rattle.capnp_model_writes.proofs.lemmas.Levels.{owned_more, replaced_more}
use Rattle.capnp_model_writes.proofs.lemmas.Spans.{grows_then}
use Rattle.capnp_copy_arenas.specs.Lists.{object_of_list}
use Rattle.capnp_copy_arenas.specs.declared.init.ListPlace.{ListPlace}
use Rattle.capnp_schema_structs.specs.Grown.{GrowsBehind}
use Rattle.capnp_schema_lists.specs.Lists.{GrowsIn}
use Rattle.capnp_calls_edits.specs.Written.{EditsValueAt, HoldsDefaultOrNull}
use Rattle.capnp_calls_edits.specs.Elements.{ListBehind, EditsElementAt}
use Rattle.capnp_calls_edits.proofs.Begun.{begun_opened}
use Rattle.capnp_calls_edits.proofs.ListSteps.{element_done}

module _ (s u v : Segments) (slot : code.Place) (default : Option (List (List ℕ))) (around : Schema) (ty : Ty) (o : ListPlace) (got : ListBehind default s u slot around ty o) (k : ℕ) (inside : k < o.count) where
  some : 0 < o.count
  some = omega (arith, inside)

  pub list_written : (d : Tree) → HoldsDefaultOrNull default d → (rest : List Step) (verb : Verb) → EditsElementAt u v (record { place = o; at = k; around = around; ty = ty }) (record { path = rest; verb = verb }) → EditsValueAt s v (place_view slot) (record { around = around; ty = list ty; default = d }) (record { path = index k ∷ rest; verb = verb })
  list_written d holds rest verb written n t own is_done =
      let p = place_view slot in
      let x = got.value n t own in
      let opened : x.0 ≡ opened_tree (list ty) d t = begun_opened (list ty) n s p t own.means d x.0 default holds x.1 in
      let t1 : Tree = as_list around ty (opened_tree (list ty) d t) in
      let replaced : Replaces (n + 65) s u p t1 = subst (λ y. Replaces (n + 65) s u p y) (ap (as_list around ty) opened) x.2 in
      let first : Owns (n + 65) s p t = owned_more n (n + 65) s p t (omega arith) own in
      let deep : n + 65 ≡ suc (n + 64) = omega arith in
      let now : Owns (suc (n + 64)) u p t1 = subst (λ j. Owns j u p t1) deep (replaced_owned (n + 65) s u p t t1 first replaced) in
      let leads = got.object some in
      let found : Found = record { pads = leads.0; object = object_of_list o } in
      let object : OwnsObject (n + 64) u (object_of_list o) t1 = object_of_pointer (n + 64) u p found t1 leads.1 now in
      let w = written (n + 64) t1 ((got.found some).values (n + 64) t1 object) object (element_done around ty rest verb d t k is_done) in
      let new : Tree = edit_list (edit_element around rest verb ty) k t1 in
      let levels : ℕ = suc (n + 64 + w.0) in
      let wider : Owns levels u p t1 = owned_more (suc (n + 64)) levels u p t1 (omega arith) now in
      let out : Replaces levels u v p new = pointer_of_object (n + 64 + w.0) u v p found t1 new leads.1 wider w.1 in
      let before : Replaces levels s u p t1 = replaced_more (n + 65) levels s u p t t1 (omega arith) first replaced in
      let all : Replaces levels s v p new = replaced_then levels s u v p t1 new before out in
      let sum : levels ≡ n + (65 + w.0) = omega arith in
      (65 + w.0, subst (λ j. Replaces j s v p new) sum all)

  pub list_grows : GrowsIn u v o → GrowsBehind s v (place_view slot)
  list_grows inner n t own =
      let p = place_view slot in
      let x = got.value n t own in
      let t1 : Tree = as_list around ty x.0 in
      let first : Owns (n + 65) s p t = owned_more n (n + 65) s p t (omega arith) own in
      let deep : n + 65 ≡ suc (n + 64) = omega arith in
      let now : Owns (suc (n + 64)) u p t1 = subst (λ j. Owns j u p t1) deep (replaced_owned (n + 65) s u p t t1 first x.2) in
      let leads = got.object some in
      let found : Found = record { pads = leads.0; object = object_of_list o } in
      let object : OwnsObject (n + 64) u (object_of_list o) t1 = object_of_pointer (n + 64) u p found t1 leads.1 now in
      grows_then s u v x.2.changes.grows (inner (n + 64) t1 ((got.found some).values (n + 64) t1 object) object)
