-- A field that is cleared, as the model has it.
use Rattle.std.proofs.Common.{◌≡◌, ℕ, [], Option, Some, refl, sym, ap, ◌∙◌}
use Rattle.std.specs.Prelude.{option_map}
use Rattle.std.specs.Int.Bits.{xor_self}
use Rattle.capnp_model.specs.Segments.{Segments}
use Rattle.capnp_model.specs.Schemas.{width, Field as FieldNode, Body, void_slot, plain_slot, pointer_slot, group_slot, Schema}
use Rattle.capnp_model.specs.Calls.{clear}
use Rattle.capnp_model.specs.Edits.{Cell, put_bits, mark, cleared_body, put_field, edit_field}
use Rattle.capnp_values_queries.specs.Fields.{Entry, entry_in, union_in}
use Rattle.capnp_values_queries.specs.Structs.{schema_around, shape_of_struct}
use Rattle.capnp_values_queries.specs.Handles.{entry_of_field, IsFieldRecord}
use Rattle.capnp_values_queries.specs.declared.fields.Field.{Field}
use Rattle.capnp_copy_arenas.specs.declared.fields.StructPlace.{StructPlace}
use Rattle.capnp_schema_structs.specs.Edits.{Edits, marked, marked_in}
use Rattle.capnp_schema_structs.specs.Calls.{edit_of, edit_entry}
use Rattle.capnp_schema_structs.proofs.lemmas.Writes.{edits_then, edits_same}
use Rattle.capnp_schema_structs.proofs.lemmas.GroupFields.{body_is}

-- what the verb puts is what a cleared group's fields get
cleared_is : (s : Schema) (b : Body) (c : Cell) → cleared_body b c ≡ put_field s clear b c
unfolding cleared_body
cleared_is s (void_slot j) c = refl
cleared_is s (plain_slot p at d) c = ap (λ n. put_bits at (width p) n c) (sym (xor_self d))
cleared_is s (pointer_slot i ty d) c = refl
cleared_is s (group_slot g) c = refl

last_step : (s : Schema) (union : Option ℕ) (e : Entry) (c : Cell) → cleared_body e.body (mark union e.member c) ≡ edit_field s [] clear union e.member e.body c
unfolding edit_field
last_step s union e c = cleared_is s e.body (mark union e.member c)

pub clears_field : (f : Field) (r : FieldNode) → IsFieldRecord f.parent f.index r → (b : Body) → option_map (λ e. e.body) (entry_of_field f) ≡ Some b
    → (s u v : Segments) (p : StructPlace) → Edits s u p (marked f) → Edits u v p (cleared_body b) → Edits s v p (edit_of f clear)
clears_field f r is b same s u v p h k =
    let e = entry_in (schema_around f.parent) r in
    let body = body_is f r is b same in
    edits_same s v p (λ c. cleared_body b (marked f c)) (edit_of f clear)
    (λ c. ap (λ x. cleared_body x (marked f c)) (sym body) ∙ ap (λ o. cleared_body e.body (marked_in (union_in (shape_of_struct f.parent)) o c)) is.entry
    ∙ last_step (schema_around f.parent) (union_in (shape_of_struct f.parent)) e c ∙ ap (λ o. edit_entry f clear o c) (sym is.entry))
    (edits_then s u v p (marked f) (cleared_body b) h k)
