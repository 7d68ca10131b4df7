-- What is shown is what the model reads and prints. (Encoding, "Value Encoding")
use Rattle.std.specs.Prelude.{ℕ, ◌≡◌, Some, None, List, Err}
use Rattle.capnp_model.specs.Kinds.{Kind}
use Rattle.capnp_model.specs.Trees.{null}
use Rattle.capnp_model.specs.Schemas.{TypeRecord, type_of, Node}
use Rattle.capnp_model.specs.Accepted.{schema_of, IsAccepted}
use Rattle.capnp_model.specs.Readings.{Reading, inactive, null_pointer, fault, number, text_of, blob_of, list_of, record_as, opaque, Readings, no_readings, ◌▹◌, Record, no_more, entry}
use Rattle.capnp_model.specs.Printing.{Style, as_body, print, nulls_as, as_it_is}
use Rattle.capnp_values_queries.specs.Fields.{Entry, field_at}
use Rattle.capnp_values_queries.specs.Structs.{schema_around, shape_of_struct, fields_of_struct}
use Rattle.capnp_values_queries.specs.declared.structs.StructSchema.{StructSchema}
use Rattle.capnp_wire.specs.Views.{StructView}
use Rattle.capnp_values.specs.Records.{reading_at_index}
use Rattle.capnp_values.specs.Shown.{Shown, a_number, an_enum, a_text, a_blob, a_struct, a_list, a_pointer, a_capability}
use Rattle.capnp_values.specs.Standing.{IsReading, IsRecord}
use Rattle.capnp_values_print.specs.ShownReadings.{reading_of}
use Rattle.capnp_values_print.specs.Printed.{text_if_any, schema_shown, as_shown, shown_text}
use Rattle.capnp_values_print.specs.Answers.{IsShownText}
use Rattle.capnp_values_print.specs.Parts.{member_text}

abbrev mutual
  -- A reading, with untyped pointers and capabilities unopened.
  pub unopened : Reading → Reading
  unopened inactive = inactive
  unopened null_pointer = null_pointer
  unopened (fault kind) = fault kind
  unopened (number n) = number n
  unopened (text_of bytes) = text_of bytes
  unopened (blob_of bytes) = blob_of bytes
  unopened (list_of rs) = list_of (unopened_each rs)
  unopened (record_as r) = record_as (unopened_fields r)
  unopened (opaque t) = opaque null

  -- Elements, with untyped pointers and capabilities unopened.
  pub unopened_each : Readings → Readings
  unopened_each no_readings = no_readings
  unopened_each (r ▹ rs) = unopened r ▹ unopened_each rs

  -- The fields of a record, with untyped pointers and capabilities unopened.
  pub unopened_fields : Record → Record
  unopened_fields no_more = no_more
  unopened_fields (entry name r rest) = entry name (unopened r) (unopened_fields rest)

-- A struct has the shape of one of the nodes, a list elements of a type that they can name.
abbrev pub IsOfNodes : List Node → Shown → Type 0
IsOfNodes nodes (a_struct s g v) = (id : ℕ) × (g ≡ (schema_of nodes).shape_of id)
IsOfNodes nodes (a_list s ty l) = (t : TypeRecord) × (ty ≡ type_of t)
IsOfNodes nodes (a_number ty n) = Unit {0}
IsOfNodes nodes (an_enum s id n) = Unit {0}
IsOfNodes nodes (a_text bytes) = Unit {0}
IsOfNodes nodes (a_blob bytes) = Unit {0}
IsOfNodes nodes (a_pointer p) = Unit {0}
IsOfNodes nodes a_capability = Unit {0}

-- What is shown as a whole is what the model reads, down to the last level.
abbrev pub WholesAreRead : Type 0
WholesAreRead = (nodes : List Node) (x : Shown) (r : Reading) → IsAccepted nodes → IsOfNodes nodes x → IsReading (schema_of nodes) x r → reading_of x ≡ unopened r

-- Its text is the model's text of what the model reads; where there is a fault in its place, the model has none.
abbrev pub TextsAreModels : Type 0
TextsAreModels = (nodes : List Node) (x : Shown) (r : Reading) → IsAccepted nodes → IsOfNodes nodes x → IsReading (schema_of nodes) x r → (style : Style)
    → let s = schema_shown x in let text = print s as_it_is (nulls_as s as_it_is 64) style (as_shown x) r in
    ((bytes : List ℕ) → IsShownText style x bytes → text ≡ Some bytes) × ((kind : Kind) → shown_text 64 style x ≡ Err kind → text ≡ None)

-- The text of a field of a struct is the model's text of what the struct's record has there. Where
-- the model has none, there is a fault in its place.
abbrev pub FieldsAreModels : Type 0
FieldsAreModels = (s : StructSchema) (v : StructView) (i : ℕ) (e : Entry) (r : Record) → field_at (fields_of_struct s) i ≡ Some e → IsRecord (schema_around s) (shape_of_struct s) v (record_as r) → (style : Style)
    → let around = schema_around s in text_if_any (member_text 64 style s v e) ≡ print around as_it_is (nulls_as around as_it_is 64) style (as_body e.body) (reading_at_index i r)
