-- Structs that show a record. (Encoding, "Structs")
use Rattle.std.specs.Prelude.{ℕ, zero, suc, ◌≡◌, Bool, true, false, ◌&&◌, if◌then◌else◌, Option, Some, None, is_some, option_map}
use Rattle.capnp_model.specs.Trees.{Tree}
use Rattle.capnp_model.specs.Schemas.{struct, Field as FieldNode, Fields, no_fields, field, Schema}
use Rattle.capnp_model.specs.Readings.{Reading, inactive, null_pointer, fault, number, text_of, blob_of, list_of, record_as, opaque, Record, no_more, entry, read, record_of}
use Rattle.capnp_model.specs.Accepted.{field_body, opens_as}
use Rattle.capnp_wire.specs.Views.{StructView}
use Rattle.capnp_values_queries.specs.Structs.{schema_around, shape_of_struct, fields_of_struct}
use Rattle.capnp_values_queries.specs.Handles.{IsFieldRecord}
use Rattle.capnp_values_queries.specs.declared.structs.StructSchema.{StructSchema}
use Rattle.capnp_values_queries.specs.declared.fields.Field.{Field}
use Rattle.capnp_values.specs.GoodDefaults.{KeepsDefault}
use Rattle.capnp_values.specs.Shown.{kind_shown, has_field, active_index}
use Rattle.capnp_values.specs.Standing.{IsRecord, null_as_empty, defaulted_field, Answers}

-- What a record has at an index; nothing past its last field.
abbrev pub reading_at_index : ℕ → Record → Reading
reading_at_index i no_more = inactive
reading_at_index zero (entry name r rest) = r
reading_at_index (suc i) (entry name r rest) = reading_at_index i rest

-- No member that isn't the active one.
abbrev pub is_live : Reading → Bool
is_live inactive = false
is_live null_pointer = true
is_live (fault kind) = true
is_live (number n) = true
is_live (text_of bytes) = true
is_live (blob_of bytes) = true
is_live (list_of rs) = true
is_live (record_as r) = true
is_live (opaque t) = true

-- Nor a null pointer.
abbrev pub is_there : Reading → Bool
is_there inactive = false
is_there null_pointer = false
is_there (fault kind) = true
is_there (number n) = true
is_there (text_of bytes) = true
is_there (blob_of bytes) = true
is_there (list_of rs) = true
is_there (record_as r) = true
is_there (opaque t) = true

-- The index of the first union member that is active in a record.
abbrev pub active_place : Fields → Record → Option ℕ
active_place no_fields r = None
active_place (field name member body fs) no_more = None
active_place (field name member body fs) (entry n r rest) = if is_some member && is_live r then Some 0 else option_map (λ i. suc i) (active_place fs rest)

-- A field is there where the record has it, and shows what the record has: a null pointer as its
-- default, else as the empty value. Of a member that isn't active the record has nothing.
pub record IsFieldOf (v : StructView) (f : Field) (said : FieldNode) (r : Reading) : Type 0 where
  pub has : has_field v f ≡ is_there r
  pub shows : is_live r ≡ true → let s = schema_around f.parent in Answers s (kind_shown s v said.kind) (defaulted_field s (field_body s.shape_of said.kind) r)

-- The fields of a struct that stands where its record is read are those of the record.
abbrev pub FieldsOfRecords : Type 0
FieldsOfRecords = (f : Field) (said : FieldNode) (v : StructView) (r : Record) → IsFieldRecord f.parent f.index said → KeepsDefault said.kind
    → IsRecord (schema_around f.parent) (shape_of_struct f.parent) v (record_as r) → IsFieldOf v f said (reading_at_index f.index r)

-- Its active member is that of the record.
abbrev pub MembersOfRecords : Type 0
MembersOfRecords = (s : StructSchema) (v : StructView) (r : Record) → IsRecord (schema_around s) (shape_of_struct s) v (record_as r) → active_index s v ≡ active_place (fields_of_struct s) r

-- What a struct's value, or null, reads as is its record.
abbrev pub ValuesOfRecords : Type 0
ValuesOfRecords = (s : Schema) (id : ℕ) (t : Tree) → opens_as t (struct id) ≡ true → null_as_empty s (struct id) (read s t (struct id)) ≡ record_as (record_of s id t)
