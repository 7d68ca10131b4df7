-- A field of a struct prints as the model prints what the struct's record has there.
use Rattle.std.proofs.Common.{◌≡◌, ℕ, zero, suc, Some, refl, ap, sym, ◌∙◌, subst}
use Rattle.capnp_model.specs.Schemas.{Fields, no_fields, field}
use Rattle.capnp_model.specs.Readings.{Record, no_more, entry, record_as, just_bits}
use Rattle.capnp_model.specs.Printing.{as_body, fields_in, as_it_is}
use Rattle.capnp_values_queries.specs.Fields.{Entry, field_at}
use Rattle.capnp_values_queries.specs.Structs.{nodes_around, schema_around, shape_of_struct, fields_of_struct, id_of}
use Rattle.capnp_values_queries.specs.declared.structs.StructSchema.{StructSchema}
use Rattle.capnp_wire.specs.Views.{StructView}
use Rattle.capnp_values.specs.Records.{reading_at_index}
use Rattle.capnp_values.specs.Shown.{a_struct, discriminant_shown}
use Rattle.capnp_values.specs.Standing.{IsRecord, PointersAreRead}
use Rattle.capnp_model.proofs.lemmas.Paths.{record_is}
use Rattle.capnp_values.proofs.lemmas.RecordReadings.{shape_is, field_of_record}
use Rattle.capnp_values_print.specs.ShownReadings.{record_read, children_read, reading_within, levels_left}
use Rattle.capnp_values_print.specs.Members.{field_read}
use Rattle.capnp_values_print.specs.Models.{unopened, unopened_fields, FieldsAreModels}
use Rattle.capnp_values_print.specs.Printed.{text_if_any, printed, null_printed}
use Rattle.capnp_values_print.proofs.lemmas.Children.{within}
use Rattle.capnp_values_print.proofs.lemmas.ModelTexts.{body_as, fields_of_shape, whole_model}
use Rattle.capnp_values_print.proofs.lemmas.SoundShapes.{SoundFields, SoundBody, shapes_sound}
use Rattle.capnp_values_print.proofs.WholeReadings.{wholes}

reading_unopened : (i : ℕ) (r : Record) → reading_at_index i (unopened_fields r) ≡ unopened (reading_at_index i r)
reading_unopened i no_more = refl
reading_unopened zero (entry name r rest) = refl
reading_unopened (suc i) (entry name r rest) = reading_unopened i rest

entry_sound : (fs : Fields) (i : ℕ) (e : Entry) → field_at fs i ≡ Some e → SoundFields fs → SoundBody e.body
entry_sound no_fields i e h sound = absurd cc
entry_sound (field n m b fs) zero e h sound =
    let is : ◌≡◌ {A = Entry} (record { name = n; member = m; body = b }) e = cc in
    subst (λ (x : Entry). SoundBody x.body) is sound.0
entry_sound (field n m b fs) (suc i) e h sound = entry_sound fs i e h sound.1

module _ (pointers : PointersAreRead) (s : StructSchema) (v : StructView) (i : ℕ) (e : Entry) (r : Record) (at : field_at (fields_of_struct s) i ≡ Some e) (is : IsRecord (schema_around s) (shape_of_struct s) v (record_as r)) where
  -- the record that is shown
  shown_record : record_read (reading_within (levels_left v.levels)) (schema_around s) (shape_of_struct s) v ≡ unopened_fields r
  shown_record =
      let x = a_struct (schema_around s) (shape_of_struct s) v in
      record_is _ _ (sym (within (suc (levels_left v.levels)) x) ∙ wholes pointers (nodes_around s) x (record_as r) s.set.now.accepted (id_of s, refl) (refl, is))

  -- what it has at the field's index
  pub field_is : field_read (schema_around s) v (discriminant_shown s v) e ≡ unopened (reading_at_index i r)
  field_is =
      let kids = children_read (reading_within (levels_left v.levels)) (schema_around s) v in
      let g = shape_of_struct s in
      sym (field_of_record (fields_in g) i (discriminant_shown s v) (just_bits v.bits) v.section kids e at) ∙ ap (reading_at_index i) (sym (shape_is g (just_bits v.bits) v.section kids) ∙ shown_record) ∙ reading_unopened i r

pub fields : PointersAreRead → FieldsAreModels
fields pointers s v i e r at is style =
    let around = schema_around s in
    let sound = shapes_sound (nodes_around s) s.set.now.accepted in
    ap (λ z. text_if_any (printed around as_it_is (null_printed around as_it_is 64) style (as_body e.body) z)) (field_is pointers s v i e r at is)
    ∙ whole_model pointers around sound style (as_body e.body) (reading_at_index i r) (body_as e.body (entry_sound (fields_of_struct s) i e at (fields_of_shape (shape_of_struct s) (sound (id_of s)))))
