-- Calls that end at a field of the struct. (Encoding, "Structs")
use Rattle.std.specs.Prelude.{[], Option, Some, None}
use Rattle.capnp_model.specs.Calls.{Verb}
use Rattle.capnp_model.specs.Edits.{Edit, edit_field}
use Rattle.capnp_values_queries.specs.Fields.{Entry, union_in}
use Rattle.capnp_values_queries.specs.Structs.{schema_around, shape_of_struct}
use Rattle.capnp_values_queries.specs.Handles.{entry_of_field}
use Rattle.capnp_values_queries.specs.declared.fields.Field.{Field}

-- The model's edit of a field by a call that ends there: the union of which it is a member is marked, and then the verb's content put.
abbrev pub edit_entry : Field → Verb → Option Entry → Edit
edit_entry f verb None c = c
edit_entry f verb (Some e) c = edit_field (schema_around f.parent) [] verb (union_in (shape_of_struct f.parent)) e.member e.body c

abbrev pub edit_of : Field → Verb → Edit
edit_of f verb = edit_entry f verb (entry_of_field f)
