-- What is claimed of the value behind a pointer: its default is refused for memory alone, and where the call is done a struct or a list is there.
use Rattle.std.proofs.Common.{◌≡◌, inl, inr, ℕ, suc, ◌+◌, ◌||◌, not, Bool, true, false, List, [], ◌∷◌, Option, Some, None, Err, refl, sym, subst, ap, ◌∙◌, arith}
use Rattle.capnp_model.specs.Segments.{Segments, Place, root}
use Rattle.capnp_model.specs.Pointers.{Found}
use Rattle.capnp_model.specs.Trees.{Tree, null, capability, structure, plain_list, pointer_list, struct_list, widened}
use Rattle.capnp_model.specs.Traversal.{cost_at}
use Rattle.capnp_model.specs.Visits.{visits}
use Rattle.capnp_model.specs.Schemas.{struct, words_of_shape, pointers_of_shape, Schema, Ty}
use Rattle.capnp_model.specs.Readings.{read}
use Rattle.capnp_model.specs.Calls.{Step, name, index, Verb}
use Rattle.capnp_model.specs.Edits.{opened_tree}
use Rattle.capnp_model.proofs.lemmas.Depth.{tree_at_more}
use Rattle.capnp_model.proofs.lemmas.Visits.{values_tell}
use Rattle.capnp_units.specs.declared.errors.Error.{Error}
use Rattle.capnp_units.specs.declared.sizes.StructSize.{StructSize}
use Rattle.capnp_units.specs.Limits.{left_of, less}
use Rattle.capnp_units.specs.Segments.{words_in}
use Rattle.capnp_wire_objects.specs.declared.place.Place as code
use Rattle.capnp_wire_objects.proofs.lemmas.Walks.{unstopped}
use Rattle.capnp_wire_objects.specs.Places.{place_view}
use Rattle.capnp_model_writes.specs.Footprints.{Owns, OwnsObject}
use Rattle.capnp_model_writes.specs.Changes.{Replaces}
use Rattle.capnp_model_writes.proofs.lemmas.Lift.{object_of_pointer, replaced_owned, replaced_then}
use Rattle.capnp_model_writes.proofs.lemmas.Levels.{owned_more, replaced_more, replaced_by_itself}
use Rattle.capnp_model_writes.proofs.lemmas.Turns.{struct_shape}
use Rattle.capnp_copy_arenas.specs.States.{ArenaState}
use Rattle.capnp_copy_arenas.specs.Structs.{object_of_struct}
use Rattle.capnp_copy_arenas.specs.declared.fields.StructPlace.{StructPlace}
use Rattle.capnp_copy_values.specs.Defaults.{default_segments, is_null_or_absent}
use Rattle.capnp_layout_builders.specs.Gets.{BeginsTold, Begun, StructGot, StructLacking}
use Rattle.capnp_layout_builders.proofs.lemmas.Begun.{Laws, begun_value}
use Rattle.capnp_values_queries.specs.Structs.{schema_around, shape_of_struct, id_of}
use Rattle.capnp_values_queries.specs.declared.structs.StructSchema.{StructSchema}
use Rattle.capnp_calls.specs.Roots.{starts_with_name}
use Rattle.capnp_calls.specs.Sizes.{IsDone}
use Rattle.capnp_calls_edits.specs.Written.{HoldsDefaultOrNull, WhereValueDone, value_outcome}
use Rattle.capnp_calls_edits.specs.Elements.{WhereDoneWithin, IsOfStruct}
use Rattle.capnp_calls_edits.proofs.Lifting.{cell}
use Rattle.capnp_calls_edits.proofs.Begun.{begun_opened}
use Rattle.capnp_calls_edits.proofs.ThereObjects.{struct_there}
use Rattle.capnp_calls_edits.proofs.lemmas.Outcomes.{whole_within, struct_done}

-- ---- defaults

the_laws : Laws
the_laws = record { none = replaced_by_itself; again = replaced_then; owned = replaced_owned; more_owned = owned_more; more_replaced = replaced_more }

module _ (default : Option (List (List ℕ))) (d : Tree) (holds : HoldsDefaultOrNull default d) where
  -- one that can be read is refused for memory alone
  pub begun_told : (old new : ArenaState) (p : Place) (told : Error → Type 0) (e : Error) → BeginsTold default old new p (Err e) told → told e
  begun_told old new p told e b = by default holds b
    where
      by : (o : Option (List (List ℕ))) → HoldsDefaultOrNull o d → BeginsTold o old new p (Err e) told → told e
      by None has b = absurd (let x = b.1 in cc x)
      by (Some words) has b = each (is_null_or_absent (words_in old.segments) p) (is_null_or_absent (default_segments words) root) refl refl
        where
          each : (x y : Bool) → is_null_or_absent (words_in old.segments) p ≡ x → is_null_or_absent (default_segments words) root ≡ y → told e
          each false y ex ey = absurd (let z = (b.kept (ap (λ w. not w || is_null_or_absent (default_segments words) root) ex)).1 in cc z)
          each true true ex ey = absurd (let z = (b.kept (subst (λ w. (not (is_null_or_absent (words_in old.segments) p) || w) ≡ true) (sym ey) (subst (λ w. (not w || true) ≡ true) (sym ex) refl))).1 in cc z)
          each true false ex ey =
              let f = b.written ex ey in
              let none : left_of f.old ≡ None = ap (λ o. less o f.old.granted) f.endless in
              elim f.cause [
                | inl stop ↦ absurd (unstopped (visits 64 (default_segments words) root) (cost_at 64 (default_segments words) root) f.old f.new e (values_tell 64 (default_segments words) root d has).0 none stop)
                | inr x ↦ x
              ]

  -- the value once it is begun
  pub begun_there : (s m : ArenaState) (p : Place) (told : Error → Type 0) → Begun default s m p told → (ty : Ty) (n : ℕ) (t : Tree) → Owns n (words_in s.segments) p t → Owns (n + 64) (words_in m.segments) p (opened_tree ty d t)
  begun_there s m p told b ty n t own =
      let y = begun_value the_laws default (words_in s.segments) (words_in m.segments) p n t tt b.begins own in
      let opened : y.0 ≡ opened_tree ty d t = begun_opened ty n (words_in s.segments) p t own.means d y.0 default holds y.1 in
      let first : Owns (n + 64) (words_in s.segments) p t = owned_more n (n + 64) (words_in s.segments) p t (omega arith) own in
      subst (Owns (n + 64) (words_in m.segments) p) opened (replaced_owned (n + 64) (words_in s.segments) (words_in m.segments) p t y.0 first y.2)

-- ---- structs

of_struct : (s : Schema) (id : ℕ) (d t : Tree) (st : Step) (rest : List Step) (verb : Verb) → IsDone (value_outcome (record { around = s; ty = struct id; default = d }) (st ∷ rest) verb t) → IsOfStruct (opened_tree (struct id) d t)
unfolding read
of_struct s id null null st rest verb h = tt
of_struct s id (capability i) null st rest verb h = absurd h
of_struct s id (structure w x ts) null st rest verb h = tt
of_struct s id (plain_list size n x) null st rest verb h = absurd h
of_struct s id (pointer_list ts) null st rest verb h = absurd h
of_struct s id (struct_list w p es) null st rest verb h = absurd h
of_struct s id d (capability i) st rest verb h = absurd h
of_struct s id d (structure w x ts) st rest verb h = tt
of_struct s id d (plain_list size n x) st rest verb h = absurd h
of_struct s id d (pointer_list ts) st rest verb h = absurd h
of_struct s id d (struct_list w p es) st rest verb h = absurd h

-- a struct that isn't got is refused for memory alone
pub no_struct_claimed : (default : Option (List (List ℕ))) (d : Tree) → HoldsDefaultOrNull default d → (old new : ArenaState) (slot : code.Place) (size : StructSize) (told : Error → Type 0) (e : Error) → StructLacking default old new slot size told e
    → (around : Schema) (id : ℕ) (path : List Step) (verb : Verb) → WhereValueDone (words_in old.segments) (place_view slot) (record { around = around; ty = struct id; default = d }) (record { path = path; verb = verb }) (told e)
no_struct_claimed default d holds old new slot size told e lacking around id [] verb = λ n t own is_done. absurd is_done
no_struct_claimed default d holds old new slot size told e (inl b) around id (st ∷ rest) verb = λ n t own is_done. begun_told default d holds old new (place_view slot) told e b
no_struct_claimed default d holds old new slot size told e (inr x) around id (st ∷ rest) verb = λ n t own is_done. (
    let m : ArenaState = x.0 in
    let v : Tree = opened_tree (struct id) d t in
    let there = begun_there default d holds old m (place_view slot) told x.2 (struct id) n t own in
    let tree = tree_at_more (n + 64) (suc (n + 64)) (words_in m.segments) (place_view slot) v (omega arith) there.means in
    x.4 (struct_there (n + 64) (words_in m.segments) (place_view slot) v tree (of_struct around id d t st rest verb is_done))
    )

module _ (s u : Segments) (p : Place) (schema : StructSchema) (default : Option (List (List ℕ))) (size : StructSize) (o : StructPlace) (words : size.data_words ≡ words_of_shape (shape_of_struct schema)) (pointers : size.pointers ≡ pointers_of_shape (shape_of_struct schema)) (got : StructGot default s u p size o) (d : Tree) (holds : HoldsDefaultOrNull default d) (verb : Verb) (Claim : Type 0) where
  -- what is claimed at the struct that is got is claimed at the pointer
  pub struct_claimed : (path : List Step) → starts_with_name path ≡ true → WhereDoneWithin u o schema (record { path = path; verb = verb }) Claim → WhereValueDone s p (record { around = schema_around schema; ty = struct (id_of schema); default = d }) (record { path = path; verb = verb }) Claim
  struct_claimed [] named h = absurd (cc named)
  struct_claimed (index k ∷ rest) named h = absurd (cc named)
  struct_claimed (name n ∷ rest) named h = λ k t own is_done. (
      let around = schema_around schema in
      let id = id_of schema in
      let g = shape_of_struct schema in
      let x = got.value k t own in
      let opened : x.0 ≡ opened_tree (struct id) d t = begun_opened (struct id) k s p t own.means d x.0 default holds x.1 in
      let wide : Tree = widened (words_of_shape g) (pointers_of_shape g) (opened_tree (struct id) d t) in
      let same : widened size.data_words size.pointers x.0 ≡ wide =
      ap (λ w. widened w size.pointers x.0) words ∙ ap (λ q. widened (words_of_shape g) q x.0) pointers ∙ ap (widened (words_of_shape g) (pointers_of_shape g)) opened in
      let replaced : Replaces (k + 65) s u p wide = subst (λ y. Replaces (k + 65) s u p y) same x.2 in
      let first : Owns (k + 65) s p t = owned_more k (k + 65) s p t (omega arith) own in
      let deep : k + 65 ≡ suc (k + 64) = omega arith in
      let now : Owns (suc (k + 64)) u p wide = subst (λ j. Owns j u p wide) deep (replaced_owned (k + 65) s u p t wide first replaced) in
      let found : Found = record { pads = got.object.0; object = object_of_struct o } in
      let inner : OwnsObject (k + 64) u (object_of_struct o) wide = object_of_pointer (k + 64) u p found wide got.object.1 now in
      let shape = struct_shape (k + 64) u (place_view o.start) o.data_words o.pointers wide inner in
      let whole : OwnsObject (k + 64) u (object_of_struct o) (structure o.data_words shape.0 shape.1) = subst (λ y. OwnsObject (k + 64) u (object_of_struct o) y) shape.2 inner in
      h (k + 64) shape.0 shape.1 whole (whole_within around g (name n ∷ rest) verb (cell shape.0 shape.1) (struct_done around id n rest verb o.data_words shape.0 shape.1 (words_of_shape g) (pointers_of_shape g) d t shape.2 is_done))
      )
