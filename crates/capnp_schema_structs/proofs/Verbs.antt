-- What a call that ends at a field does there, as the model has it.
use Rattle.std.proofs.Common.{◌≡◌, ℕ, ◌<◌, [], length, map, Ok, Err, Option, Some, refl, sym, ap, subst, ◌∙◌}
use Rattle.std.specs.Prelude.{option_map}
use Rattle.capnp_model.specs.Segments.{Place, after}
use Rattle.capnp_model.specs.Schemas.{Ty, Field as FieldNode, Schema, Body, pointer_slot}
use Rattle.capnp_model.specs.Sizes.{object_words}
use Rattle.capnp_model.specs.Trees.{Tree}
use Rattle.capnp_model.specs.Calls.{Verb, object}
use Rattle.capnp_model.specs.Edits.{Cell, put_child, put_field, mark, edit_field}
use Rattle.capnp_units.specs.Segments.{words_in}
use Rattle.capnp_units.specs.declared.errors.Error.{Error}
use Rattle.capnp_wire_objects.specs.Places.{place_view}
use Rattle.capnp_wire_objects.specs.declared.place.Place as code
use Rattle.capnp_values_queries.specs.Fields.{Entry, entry_in, union_in}
use Rattle.capnp_values_queries.specs.Structs.{schema_around, shape_of_struct}
use Rattle.capnp_values_queries.specs.Handles.{entry_of_field, IsFieldRecord}
use Rattle.capnp_values_queries.specs.declared.fields.Field.{Field}
use Rattle.capnp_copy_arenas.specs.declared.fields.StructPlace.{StructPlace}
use Rattle.capnp_layout_builders.specs.Making.{ArenaState, Makes}
use Rattle.capnp_schema_structs.specs.Calls.{edit_of, edit_entry}
use Rattle.capnp_schema_structs.specs.Edits.{Edits, marked, marked_in}
use Rattle.capnp_schema_structs.specs.Puts.{PutsContent, NewObjectRefused}
use Rattle.capnp_schema_structs.proofs.lemmas.GroupFields.{body_is}
use Rattle.capnp_schema_structs.proofs.lemmas.SetPointers.{object_made, written_after, puts_same, marked_last}

last_step : (s : Schema) (verb : Verb) (union : Option ℕ) (e : Entry) (c : Cell) → put_field s verb e.body (mark union e.member c) ≡ edit_field s [] verb union e.member e.body c
unfolding edit_field
last_step s verb union e c = refl

module _ (f : Field) (r : FieldNode) (is : IsFieldRecord f.parent f.index r) (b : Body) (same : option_map (λ e. e.body) (entry_of_field f) ≡ Some b) (verb : Verb) where
  pub edit_is : (c : Cell) → put_field (schema_around f.parent) verb b (marked f c) ≡ edit_of f verb c
  edit_is c =
      let s = schema_around f.parent in
      let union = union_in (shape_of_struct f.parent) in
      let e = entry_in (schema_around f.parent) r in
      ap (λ x. put_field s verb x (marked f c)) (sym (body_is f r is b same)) ∙ ap (λ o. put_field s verb e.body (marked_in union o c)) is.entry
      ∙ last_step s verb union e c ∙ ap (λ o. edit_entry f verb o c) (sym is.entry)

-- a child is put, and then the union marked
module _ (f : Field) (r : FieldNode) (is : IsFieldRecord f.parent f.index r) (i : ℕ) (ty : Ty) (d : Option Tree) (same : option_map (λ e. e.body) (entry_of_field f) ≡ Some (pointer_slot i ty d)) (verb : Verb) (t : Tree)
    (put : (c : Cell) → put_child i t c ≡ put_field (schema_around f.parent) verb (pointer_slot i ty d) c) where
  pub child_put : {X : Type 0} (old mid new : ArenaState) (p : StructPlace) (slot : code.Place) (x : X) (n : ℕ) → object_words t ≡ n → place_view slot ≡ after (after (place_view p.start) p.data_words) i → i < p.pointers → Makes old mid slot t n
      → Edits (words_in mid.segments) (words_in new.segments) p (marked f) → map length (words_in new.segments) ≡ map length (words_in mid.segments) → PutsContent {X = X} old new p (edit_of f verb) (object t) (Ok x)
  child_put old mid new p slot x n words at_is l m k sizes =
      let made = object_made old mid p slot i at_is t n words l m in
      let both = written_after old mid new p (put_child i t) (marked f) (object_words t) made k sizes in
      let union = union_in (shape_of_struct f.parent) in (
        puts_same old new p (λ c. marked f (put_child i t c)) (edit_of f verb) (object_words t)
            (λ c. marked_last union (entry_of_field f) i t c ∙ put (marked f c) ∙ edit_is f r is (pointer_slot i ty d) same verb c) both,
        tt,
      )

  pub child_refused : (X : Type 0) (old new : ArenaState) (p : StructPlace) (slot : code.Place) (e : Error) → place_view slot ≡ after (after (place_view p.start) p.data_words) i → NewObjectRefused old slot.segment t e → PutsContent {X = X} old new p (edit_of f verb) (object t) (Err e)
  child_refused X old new p slot e at_is h = (tt, subst (λ k. NewObjectRefused old k t e) (ap (λ (q : Place). q.segment) at_is) h)
