-- Fields that `init` begins, as the model has them.
use Rattle.std.proofs.Common.{◌≡◌, ℕ, true, false, length, map, Ok, Err, Option, Some, None, refl, sym, ap, subst, ◌∙◌}
use Rattle.std.specs.Prelude.{option_map}
use Rattle.capnp_model.specs.Segments.{Segments}
use Rattle.capnp_model.specs.Schemas.{Ty, void, plain, text, blob, untyped, interface, struct, list, Field as FieldNode, Schema, Body, pointer_slot, group_slot}
use Rattle.capnp_model.specs.Sizes.{object_words}
use Rattle.capnp_model.specs.Trees.{Tree, null}
use Rattle.capnp_model.specs.Calls.{Content, refused_by, bits_of, object, init, clear}
use Rattle.capnp_model.specs.Edits.{Cell, put_field}
use Rattle.capnp_units.specs.Segments.{words_in}
use Rattle.capnp_units.specs.declared.errors.Error.{Error}
use Rattle.capnp_wire_objects.specs.Places.{place_view}
use Rattle.capnp_values_queries.specs.Structs.{schema_around, shape_of_struct}
use Rattle.capnp_values_queries.specs.Handles.{entry_of_field, IsFieldRecord}
use Rattle.capnp_values_queries.specs.declared.fields.Field.{Field}
use Rattle.capnp_values_queries.specs.declared.structs.StructSchema.{StructSchema}
use Rattle.capnp_copy_arenas.specs.declared.fields.StructPlace.{StructPlace}
use Rattle.capnp_copy_arenas.specs.declared.room.Room.TheVariants.{Here}
use Rattle.capnp_copy_arenas.proofs.lemmas.Taken.{room_takes, room_bounds, takes_so, bounds_so}
use Rattle.capnp_layout_builders.specs.Making.{ArenaState}
use Rattle.capnp_schema_structs.specs.Calls.{edit_of}
use Rattle.capnp_schema_structs.specs.Edits.{Edits, HoldsShape}
use Rattle.capnp_schema_structs.specs.Begun.{begun_body, begun_field, is_untyped, TellsPart, TellsBegun}
use Rattle.capnp_schema_structs.specs.Inits.{slot_init_content, field_init_content, LiesBehind, LiesIn}
use Rattle.capnp_schema_structs.specs.Puts.{PutsObject, PutsContent}
use Rattle.capnp_schema_structs.specs.declared.init.Part.{Part}
use Rattle.capnp_schema_structs.proofs.lemmas.Deeper.{edits_deepen}
use Rattle.capnp_schema_structs.proofs.lemmas.GroupFields.{body_is}
use Rattle.capnp_schema_structs.proofs.Verbs.{edit_is}
use Rattle.capnp_schema_structs.proofs.lemmas.Writes.{edits_same}

-- nothing is put, and nothing taken
puts_null : (old new : ArenaState) (p : StructPlace) (f : Cell → Cell) → Edits (words_in old.segments) (words_in new.segments) p f → map length (words_in new.segments) ≡ map length (words_in old.segments) → PutsObject old new p f (object_words null)
unfolding object_words
puts_null old new p f h sizes =
    let s = words_in old.segments in
    let u = words_in new.segments in
    record {
      writes = edits_deepen s u p f h;
      taken = takes_so s old.room s u p.start.segment 0 sizes (room_takes s old.room s (place_view p.start) 0 Here (refl, refl) tt);
      bound = bounds_so s s u 0 1 sizes (room_bounds s s (place_view p.start) 0 Here (refl, refl));
    }

module _ (f : Field) (r : FieldNode) (is : IsFieldRecord f.parent f.index r) (b : Body) (same : option_map (λ e. e.body) (entry_of_field f) ≡ Some b) where
  content_is : begun_field (schema_around f.parent) (entry_of_field f) ≡ begun_body (schema_around f.parent) b
  content_is = ap (begun_field (schema_around f.parent)) is.entry ∙ ap (begun_body (schema_around f.parent)) (body_is f r is b same)

  -- a clear is the same edit, where it puts the same
  cleared_too : ((c : Cell) → put_field (schema_around f.parent) clear b c ≡ put_field (schema_around f.parent) init b c) → (s u : Segments) (p : StructPlace) → Edits s u p (edit_of f clear) → Edits s u p (edit_of f init)
  cleared_too e s u p h = edits_same s u p (edit_of f clear) (edit_of f init) (λ c. sym (edit_is f r is b same clear c) ∙ (e _ ∙ edit_is f r is b same init c)) h

  -- what is told of the field
  tells_as : (s u : Segments) (p : StructPlace) (o : Option Part) → TellsPart s u p (schema_around f.parent) b o → TellsBegun s u p (schema_around f.parent) (entry_of_field f) o
  tells_as s u p o h =
      let here = subst (λ b. TellsPart s u p (schema_around f.parent) b o) (sym (body_is f r is b same)) h in
      subst (λ e. TellsBegun s u p (schema_around f.parent) e o) (sym is.entry) here

module _ (f : Field) (r : FieldNode) (is : IsFieldRecord f.parent f.index r) (g : StructSchema) (same : option_map (λ e. e.body) (entry_of_field f) ≡ Some (group_slot (shape_of_struct g))) where
  pub group_begun : (old new : ArenaState) (p : StructPlace) (o : Option Part) → Edits (words_in old.segments) (words_in new.segments) p (edit_of f clear) → map length (words_in new.segments) ≡ map length (words_in old.segments)
      → PutsContent {X = Option Part} old new p (edit_of f init) (begun_field (schema_around f.parent) (entry_of_field f)) (Ok o)
  group_begun old new p o h sizes =
      subst (λ k. PutsContent {X = Option Part} old new p (edit_of f init) k (Ok o)) (sym (content_is f r is (group_slot (shape_of_struct g)) same))
      (refl, record { writes = cleared_too f r is (group_slot (shape_of_struct g)) same (λ c. refl) (words_in old.segments) (words_in new.segments) p h; sizes = sizes })

  pub group_told : (s u : Segments) (p : StructPlace) → schema_around g ≡ schema_around f.parent → TellsBegun s u p (schema_around f.parent) (entry_of_field f) (Some (record { place = p; schema = g }))
  group_told s u p around = tells_as f r is (group_slot (shape_of_struct g)) same s u p (Some (record { place = p; schema = g })) (refl, around, refl)

-- untyped slots
untyped_is : (ty : Ty) → is_untyped ty ≡ true → ty ≡ untyped
untyped_is void e = absurd (cc e)
untyped_is (plain p) e = absurd (cc e)
untyped_is text e = absurd (cc e)
untyped_is blob e = absurd (cc e)
untyped_is untyped e = refl
untyped_is interface e = absurd (cc e)
untyped_is (struct id) e = absurd (cc e)
untyped_is (list ty) e = absurd (cc e)

module _ (f : Field) (r : FieldNode) (is : IsFieldRecord f.parent f.index r) (i : ℕ) (ty : Ty) (d : Option Tree) (same : option_map (λ e. e.body) (entry_of_field f) ≡ Some (pointer_slot i ty d)) where
  pub null_begun : is_untyped ty ≡ true → (old new : ArenaState) (p : StructPlace) → Edits (words_in old.segments) (words_in new.segments) p (edit_of f clear) → map length (words_in new.segments) ≡ map length (words_in old.segments)
      → PutsContent {X = Option Part} old new p (edit_of f init) (begun_field (schema_around f.parent) (entry_of_field f)) (Ok None)
  null_begun e old new p h sizes =
      let content : begun_field (schema_around f.parent) (entry_of_field f) ≡ object null = content_is f r is (pointer_slot i ty d) same ∙ ap (λ y. begun_body (schema_around f.parent) (pointer_slot i y d)) (untyped_is ty e) in
      let alike = λ (c : Cell). subst (λ y. put_field (schema_around f.parent) clear (pointer_slot i y d) c ≡ put_field (schema_around f.parent) init (pointer_slot i y d) c) (sym (untyped_is ty e)) refl in
      subst (λ k. PutsContent {X = Option Part} old new p (edit_of f init) k (Ok None)) (sym content)
      (puts_null old new p (edit_of f init) (cleared_too f r is (pointer_slot i ty d) same alike (words_in old.segments) (words_in new.segments) p h) sizes, tt)

  pub null_told : is_untyped ty ≡ true → (s u : Segments) (p : StructPlace) → TellsBegun s u p (schema_around f.parent) (entry_of_field f) None
  null_told e s u p = tells_as f r is (pointer_slot i ty d) same s u p None e

-- ---- other fields

-- what is put is what `init_slot` puts
typed_alike : (s : Schema) (i : ℕ) (ty : Ty) (d : Option Tree) → is_untyped ty ≡ false → slot_init_content s (pointer_slot i ty d) ≡ begun_body s (pointer_slot i ty d)
typed_alike s i void d e = refl
typed_alike s i (plain p) d e = refl
typed_alike s i text d e = refl
typed_alike s i blob d e = refl
typed_alike s i untyped d e = absurd (cc e)
typed_alike s i interface d e = refl
typed_alike s i (struct id) d e = refl
typed_alike s i (list ty) d e = refl

module _ (f : Field) (r : FieldNode) (is : IsFieldRecord f.parent f.index r) (i : ℕ) (ty : Ty) (d : Option Tree) (same : option_map (λ e. e.body) (entry_of_field f) ≡ Some (pointer_slot i ty d)) (typed : is_untyped ty ≡ false) where
  contents_alike : field_init_content (schema_around f.parent) (entry_of_field f) ≡ begun_field (schema_around f.parent) (entry_of_field f)
  contents_alike =
      ap (field_init_content (schema_around f.parent)) is.entry ∙ (ap (slot_init_content (schema_around f.parent)) (body_is f r is (pointer_slot i ty d) same) ∙ (typed_alike (schema_around f.parent) i ty d typed ∙ sym (content_is f r is (pointer_slot i ty d) same)))

  pub struct_begun : (old new : ArenaState) (p : StructPlace) (part : Part) → PutsContent {X = Part} old new p (edit_of f init) (field_init_content (schema_around f.parent) (entry_of_field f)) (Ok part)
      → PutsContent {X = Option Part} old new p (edit_of f init) (begun_field (schema_around f.parent) (entry_of_field f)) (Ok (Some part))
  struct_begun old new p part h = by (begun_field (schema_around f.parent) (entry_of_field f)) (subst (λ k. PutsContent {X = Part} old new p (edit_of f init) k (Ok part)) contents_alike h)
    where
      by : (k : Content) → PutsContent {X = Part} old new p (edit_of f init) k (Ok part) → PutsContent {X = Option Part} old new p (edit_of f init) k (Ok (Some part))
      by (refused_by k) h = h
      by (bits_of n) h = h
      by (object t) h = h

  pub struct_refused : (old new : ArenaState) (p : StructPlace) (e : Error) → PutsContent {X = Part} old new p (edit_of f init) (field_init_content (schema_around f.parent) (entry_of_field f)) (Err e)
      → PutsContent {X = Option Part} old new p (edit_of f init) (begun_field (schema_around f.parent) (entry_of_field f)) (Err e)
  struct_refused old new p e h = by (begun_field (schema_around f.parent) (entry_of_field f)) (subst (λ k. PutsContent {X = Part} old new p (edit_of f init) k (Err e)) contents_alike h)
    where
      by : (k : Content) → PutsContent {X = Part} old new p (edit_of f init) k (Err e) → PutsContent {X = Option Part} old new p (edit_of f init) k (Err e)
      by (refused_by k) h = h
      by (bits_of n) h = h
      by (object t) h = h

  pub struct_told : (s u : Segments) (p : StructPlace) (part : Part) → LiesIn s u p (schema_around f.parent) (entry_of_field f) part.place part.schema → HoldsShape part.place (shape_of_struct part.schema) → TellsBegun s u p (schema_around f.parent) (entry_of_field f) (Some part)
  struct_told s u p part h w =
      let entry = subst (λ e. LiesIn s u p (schema_around f.parent) e part.place part.schema) is.entry h in
      let here = subst (λ b. LiesBehind s u p (schema_around f.parent) b part.place part.schema) (body_is f r is (pointer_slot i ty d) same) entry in
      tells_as f r is (pointer_slot i ty d) same s u p (Some part) (here, w)
