-- Groups that are set to structs in which nothing has a fault, as the model has it. (Encoding, "Structs")
use Rattle.std.specs.Prelude.{◌≡◌, ℕ, Bool, true, false, Option, Some, None}
use Rattle.capnp_model.specs.Schemas.{Shape, Schema}
use Rattle.capnp_model.specs.Readings.{body_of, read_child, shape_record}
use Rattle.capnp_model.specs.Printing.{fields_in}
use Rattle.capnp_model.specs.Groups.{group_fault, fields_fault, body_fault}
use Rattle.capnp_wire.specs.Views.{StructView}
use Rattle.capnp_values_queries.specs.Fields.{Entry}
use Rattle.capnp_values_queries.specs.Structs.{schema_around}
use Rattle.capnp_values_queries.specs.Handles.{entry_of_field}
use Rattle.capnp_values_queries.specs.declared.fields.Field.{Field}
use Rattle.capnp_values.specs.Standing as values
use Rattle.capnp_schema_structs.specs.GroupWrites.{GroupSource}

-- A struct that is read stands at these data, which go so far, and these children, which can all be read.
abbrev pub StandsAt : StructView → GroupSource → Type 0
StandsAt v from = (n : ℕ) × values.HasSectionAndChildren n v from.extent from.section from.kids

-- The field is a member of a union.
abbrev pub is_member : Option ℕ → Bool
is_member None = false
is_member (Some m) = true

-- What a field reads as there has no fault.
abbrev pub IsFaultless : Schema → Option Entry → GroupSource → Type 0
IsFaultless s None from = Unit {0}
IsFaultless s (Some x) from = body_fault (is_member x.member) x.body (body_of x.body from.extent from.section (read_child s from.kids)) ≡ None

abbrev pub IsFieldFaultless : Field → GroupSource → Type 0
IsFieldFaultless f from = IsFaultless (schema_around f.parent) (entry_of_field f) from

-- What the fields of a group that have their turn read as has no fault, and so of the group.
abbrev pub AreFaultless : Schema → Bool → Shape → GroupSource → Type 0
AreFaultless s members g from = fields_fault members (fields_in g) (shape_record g from.extent from.section (read_child s from.kids)) ≡ None

abbrev pub IsGroupFaultless : Schema → Shape → GroupSource → Type 0
IsGroupFaultless s g from = group_fault g (shape_record g from.extent from.section (read_child s from.kids)) ≡ None
