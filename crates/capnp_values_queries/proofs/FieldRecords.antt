-- What is known of the fields of a struct of an accepted set.
use Rattle.std.proofs.Common.{◌≡◌, ℕ, ◌<◌, ◌&&◌, true, Option, Some, None, option_map, List, [], map, length, get_or, slice_get, refl, sym, ◌∙◌, ap}
use Rattle.std.specs.List.{list_all}
use Rattle.capnp_model.specs.Schemas.{Field as FieldNode, StructNode, group}
use Rattle.capnp_model.specs.Printing.{fields_in}
use Rattle.capnp_model.specs.Accepted.{field_body, schema_of, is_group_node, names_a}
use Rattle.capnp_model.specs.Schemas.{Ty, struct}
use Rattle.capnp_records.specs.NodeViews.{field_of, struct_of}
use Rattle.capnp_records.specs.declared.node.StructRecord.{StructRecord}
use Rattle.capnp_records.specs.declared.node.FieldRecord.{FieldRecord}
use Rattle.capnp_model.proofs.lemmas.Tests.{and_left}
use Rattle.capnp_values_queries.specs.Fields.{Entry, field_at, field_count, entry_in, is_named, names_kind, are_named, are_few, shape_id, type_of_body}
use Rattle.capnp_values_queries.specs.Structs.{nodes_around, schema_around, id_of, fields_of_struct, fields_recorded, IsRecordOf}
use Rattle.capnp_values_queries.specs.Handles.{IsFieldRecord}
use Rattle.capnp_values_queries.specs.declared.structs.StructSchema.{StructSchema}
use Rattle.capnp_values_queries.proofs.lemmas.Records.{passed_at, entry_from, group_id, is_group_struct}

pub field_known : (sch : StructSchema) (r : StructRecord) → IsRecordOf (nodes_around sch) (id_of sch) (struct_of r) → (i : ℕ) (x : FieldRecord) → i < length r.fields.items → x ≡ get_or r.fields.items i x → IsFieldRecord sch i (field_of x)
field_known sch r k i x lt e =
    let at = passed_at field_of (is_named (nodes_around sch)) r.fields.items i x lt e k.named in
    record {
      recorded = ap (λ (o : Option StructNode). slice_get (elim o as (λ (p : Option StructNode). List FieldNode) [ None ↦ [] | Some n ↦ n.fields ]) i) k.found ∙ at.0;
      entry = ap (λ g. field_at (fields_in g) i) k.shape ∙ entry_from (schema_around sch).shape_of (map field_of r.fields.items) i ∙ ap (option_map (entry_in (schema_around sch))) at.0;
      named = at.1;
    }

-- the type of a field that is a group
pub group_type : (sch : StructSchema) (i : ℕ) (f : FieldNode) (id : ℕ) → IsFieldRecord sch i f → f.kind ≡ group id → option_map (λ e. type_of_body e.body) (field_at (fields_of_struct sch) i) ≡ Some (struct id)
group_type sch i f id r k =
    let is : names_a is_group_node (nodes_around sch) id ≡ true = ap (names_kind (nodes_around sch)) (sym k) ∙ and_left (names_kind (nodes_around sch) f.kind) (are_named (nodes_around sch) f.annotations && are_few f.annotations) r.named in
    ap (option_map (λ (e : Entry). type_of_body e.body)) r.entry
    ∙ ap (λ x. Some (type_of_body (field_body (schema_around sch).shape_of x))) k
    ∙ ap (λ j. Some (struct j)) (group_id (nodes_around sch) sch.set.now.accepted id (is_group_struct (nodes_around sch) id is))
