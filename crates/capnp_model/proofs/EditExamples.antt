-- Calls that the laws of edits speak of: each premise holds of them, and both sides compute to the same record.
use Rattle.std.proofs.Common.{◌≡◌, ℕ, false, true, List, [], ◌∷◌, Some, None, refl, codes}
use Rattle.std.specs.Prelude.{pos}
use Rattle.capnp_model.specs.Trees.{Tree, null, structure, plain_list, struct_list, none, ◌▸◌, no_elements, element}
use Rattle.capnp_model.specs.Schemas.{no_value, BaseType, group, Node}
use Rattle.capnp_model.specs.Readings.{Record, entry, no_more, number, text_of, list_of, record_as, null_pointer, inactive, no_readings, ◌▹◌, record_of, read, shape_record, record_by_shape}
use Rattle.capnp_model.specs.Calls.{Step, name, index, Verb, set_to, initn, whole_number, message, Call}
use Rattle.capnp_model.specs.Accepted.{schema_of, shape_in, has_no_overlap, areas_of}
use Rattle.capnp_model.specs.InKind.{in_kind, shape_in_kind}
use Rattle.capnp_model.specs.InKindCalls.{named_structs, defaults_in_kind, end_of}
use Rattle.capnp_model.specs.Steps.{step, step_field}
use Rattle.capnp_model.specs.Edits.{edit, edit_field, cleared, group_writes}
use Rattle.capnp_model.specs.Groups.{copied_record, group_fault}
use Rattle.capnp_model.specs.Answers.{edits}
use Rattle.capnp_model.specs.CallRuns.{IsStart, records_after}
use Rattle.capnp_model.proofs.ExampleSchemas.{one, slot_field, u16_field, text_field, group_field, node, pair_with}

-- a struct with a list of pairs and a group with a union, of which a group is a member
abbrev edit_nodes : List Node
edit_nodes =
    pair_with []
    ∷ node 8 1 2 false 0 0 (slot_field (codes "items") 1 None (record { list_count = 1; base = BaseType.Struct 1 }) None ∷ group_field (codes "g") 9 ∷ [])
    ∷ node 9 1 1 true 2 0 (slot_field (codes "v") 0 (Some 0) (one BaseType.Void) (Some no_value) ∷ record { name = codes "h"; member = Some 1; annotations = []; kind = group 10 } ∷ [])
    ∷ node 10 1 1 true 0 0 (u16_field (codes "n") 1 None ∷ text_field (codes "t") 0 ∷ [])
    ∷ []

abbrev call_at : List Step → Verb → Call
call_at path verb = record { path = path; verb = verb }

-- an element is set whole, a field behind an element, a group that is a member, and the group that holds it
abbrev some_calls : List Call
some_calls =
    call_at (name (codes "items") ∷ index 0 ∷ []) (set_to (message (structure 1 7 (plain_list 2 3 0x6968 ▸ none))))
    ∷ call_at (name (codes "items") ∷ index 1 ∷ name (codes "a") ∷ []) (set_to (whole_number (pos 9)))
    ∷ call_at (name (codes "g") ∷ name (codes "h") ∷ []) (set_to (message (structure 1 0x50000 none)))
    ∷ call_at (name (codes "g") ∷ name (codes "h") ∷ name (codes "t") ∷ []) (initn 2)
    ∷ []

-- two pairs without a pointer
abbrev narrow_value : Tree
narrow_value = structure 0 0 (null ▸ struct_list 1 0 (element 1 none (element 2 none no_elements)) ▸ none)

edits_start : IsStart edit_nodes 8 some_calls narrow_value
unfolding shape_in has_no_overlap areas_of schema_of in_kind shape_in_kind named_structs defaults_in_kind end_of
edits_start = record {
  accepted = refl;
  root = refl;
  given = (tt, (tt, (tt, (tt, tt))));
  opens = tt;
  kinds = record { of_tree = refl; reached = 8 ∷ 1 ∷ []; has_root = refl; are_closed = refl; of_defaults = refl; of_values = (refl, (refl, (refl, (refl, tt)))) };
}

abbrev pair_record : ℕ → Record
pair_record n = entry (codes "a") (number n) (entry (codes "t") null_pointer no_more)

abbrev wanted : Record
wanted =
    entry (codes "items") (list_of (record_as (entry (codes "a") (number 7) (entry (codes "t") (text_of (codes "hi")) no_more)) ▹ record_as (pair_record 9) ▹ no_readings))
    (entry (codes "g") (record_as (entry (codes "v") inactive (entry (codes "h") (record_as (entry (codes "n") (number 5) (entry (codes "t") (text_of (0 ∷ 0 ∷ [])) no_more))) no_more))) no_more)

machine_makes : records_after (schema_of edit_nodes) 8 some_calls (record_of (schema_of edit_nodes) 8 narrow_value) ≡ wanted
unfolding records_after step step_field record_of record_by_shape shape_record read schema_of shape_in group_fault copied_record
machine_makes = refl

tree_reads : record_of (schema_of edit_nodes) 8 (edits (schema_of edit_nodes) 8 some_calls narrow_value) ≡ wanted
unfolding edits edit edit_field step step_field record_of record_by_shape shape_record read schema_of shape_in cleared group_writes group_fault copied_record
tree_reads = refl
