-- Worked cases at the edge of a rule.
use Rattle.std.proofs.Common.{◌≡◌, ℕ, ◌+◌, ◌*◌, ◌^◌, true, false, Option, Some, None, List, [], ◌∷◌, codes, refl}
use Rattle.std.specs.Prelude.{pos, negsuc}
use Rattle.std.specs.Fmt.{digits}
use Rattle.std.specs.Str.{is_utf8, chars}
use Rattle.capnp_model.specs.Kinds.{TypeMismatch, WrongElementSize}
use Rattle.capnp_model.specs.Trees.{null, structure, plain_list, struct_list, none, ◌▸◌, no_elements, element, has_capability}
use Rattle.capnp_model.specs.Traversal.{tree_at}
use Rattle.capnp_model.specs.Trimming.{trim}
use Rattle.capnp_model.specs.Encoding.{canonical_words}
use Rattle.capnp_model.specs.Packing.{packed}
use Rattle.capnp_model.specs.Messages.{spelled}
use Rattle.capnp_model.specs.Schemas.{bool, int, uint, «enum», void, plain, struct, list, BaseType, TypeRecord, Value, no_value, list_segment, struct_segment, Field, enum_node, Node, Schema}
use Rattle.capnp_model.specs.Readings.{fault, number, list_of, record_as, no_readings, ◌▹◌, null_pointer, entry, no_more, is_accepted_as, record_of, record_by_shape, shape_record, read_child, read}
use Rattle.capnp_model.specs.Printing.{print, record_text, on_one_line, indented}
use Rattle.capnp_model.specs.Calls.{Step, name, index, whole_number, message, Verb, set_to, Call}
use Rattle.capnp_model.specs.Groups.{group_fault, copied_record}
use Rattle.capnp_model.specs.Steps.{step, step_field, done}
use Rattle.capnp_model.specs.Edits.{edit, edit_field, cleared, group_writes}
use Rattle.capnp_model.specs.Decoding.{decode}
use Rattle.capnp_model.specs.Accepted.{fault_of, shape_in, has_no_overlap, areas_of, schema_of}
use Rattle.capnp_model.specs.Compatible.{keeps}
use Rattle.capnp_model.specs.InKind.{in_kind, shape_in_kind}
use Rattle.capnp_model.specs.InKindCalls.{defaults_in_kind, named_structs}
use Rattle.capnp_model.specs.Answers.{refused_value, reply_refused, replies, value_within, answer}
use Rattle.capnp_model.proofs.ExampleSchemas.{one, slot_field, u16_field, group_field, pair_with, node, example_nodes}

abbrev examples : Schema
examples = schema_of example_nodes

abbrev call : List Step → Verb → Call
call p v = record { path = p; verb = v }

-- ---- printing

empty_struct_on_lines : record_text examples (λ x. x) (indented 0) 2 (record_of examples 2 (structure 0 0 none)) ≡ Some (codes "(\n)")
unfolding record_text print record_of record_by_shape shape_record read_child read digits is_utf8 chars lib.Utf8.encode schema_of shape_in
empty_struct_on_lines = refl

abbrev coloured : Schema
coloured = schema_of (node 1 1 0 false 0 0 (slot_field (codes "e") 0 None (one (BaseType.Enum 9)) None ∷ []) ∷ record { id = 9; name = codes "E"; annotations = []; kind = enum_node (record { name = codes "red"; annotations = [] } ∷ record { name = codes "blue"; annotations = [] } ∷ []) } ∷ [])

enumerant_is_named : record_text coloured (λ x. x) on_one_line 1 (record_of coloured 1 (structure 1 1 none)) ≡ Some (codes "(e = blue)")
unfolding record_text print record_of record_by_shape shape_record read_child read digits is_utf8 chars lib.Utf8.encode schema_of shape_in
enumerant_is_named = refl

unknown_enumerant_is_a_number : record_text coloured (λ x. x) on_one_line 1 (record_of coloured 1 (structure 1 5 none)) ≡ Some (codes "(e = 5)")
unfolding record_text print record_of record_by_shape shape_record read_child read digits is_utf8 chars lib.Utf8.encode schema_of shape_in
unknown_enumerant_is_a_number = refl

-- ---- versions

void_at : ℕ → Schema
void_at offset = schema_of (node 1 1 1 false 0 0 (slot_field (codes "v") offset None (one BaseType.Void) (Some no_value) ∷ []) ∷ [])

void_offset_is_not_kept : keeps (void_at 0) (void_at 1) ((1, 1) ∷ []) ((void_at 0).shape_of 1) ((void_at 1).shape_of 1) ≡ false
unfolding keeps schema_of shape_in void_at
void_offset_is_not_kept = refl

void_offset_is_kept : keeps (void_at 1) (void_at 1) ((1, 1) ∷ []) ((void_at 1).shape_of 1) ((void_at 1).shape_of 1) ≡ true
unfolding keeps schema_of shape_in void_at
void_offset_is_kept = refl

child_default : Option Value → Schema
child_default d = schema_of (node 1 0 1 false 0 0 (slot_field (codes "c") 0 None (one (BaseType.Struct 1)) d ∷ []) ∷ [])

abbrev null_default : Option Value
null_default = Some (struct_segment (0 ∷ 0 ∷ 0 ∷ 0 ∷ 0 ∷ 0 ∷ 0 ∷ 0 ∷ []))

null_default_is_not_none : keeps (child_default None) (child_default null_default) ((1, 1) ∷ []) ((child_default None).shape_of 1) ((child_default null_default).shape_of 1) ≡ false
unfolding keeps schema_of shape_in child_default decode tree_at canonical_words trim has_capability
null_default_is_not_none = refl

-- ---- lists

-- a list of bits is read as a list of Bool alone, and a list of bytes as one of Bool by the lowest bits
bits_are_no_bytes : read examples (plain_list 1 2 3) (list (plain (uint 8))) ≡ fault WrongElementSize
unfolding read
bits_are_no_bytes = refl

bytes_as_bools : read examples (plain_list 2 2 0x4241) (list (plain bool)) ≡ list_of (number 1 ▹ number 0 ▹ no_readings)
unfolding read
bytes_as_bools = refl

bytes_as_voids : read examples (plain_list 2 2 0x4241) (list void) ≡ list_of (number 0 ▹ number 0 ▹ no_readings)
unfolding read
bytes_as_voids = refl

bytes_are_no_numbers_of_sixteen_bits : read examples (plain_list 2 2 0x4241) (list (plain (uint 16))) ≡ fault WrongElementSize
unfolding read
bytes_are_no_numbers_of_sixteen_bits = refl

-- a struct with fields of eight and of sixteen bits at the same place
abbrev narrow : Schema
narrow = schema_of (node 1 1 0 false 0 0 (slot_field (codes "b") 0 None (one BaseType.UInt8) None ∷ u16_field (codes "a") 0 None ∷ []) ∷ [])

bytes_as_structs : read narrow (plain_list 2 2 0x4241) (list (struct 1)) ≡ list_of (record_as (entry (codes "b") (number 65) (entry (codes "a") (number 0) no_more)) ▹ record_as (entry (codes "b") (number 66) (entry (codes "a") (number 0) no_more)) ▹ no_readings)
unfolding read shape_record schema_of shape_in
bytes_as_structs = refl

structs_are_no_bools : is_accepted_as 1 (struct_list 1 0 (element 1 none no_elements)) ≡ false
structs_are_no_bools = refl

structs_without_a_word_are_no_numbers : is_accepted_as 3 (struct_list 0 1 (element 0 (null ▸ none) no_elements)) ≡ false
structs_without_a_word_are_no_numbers = refl

-- ---- groups

-- a group whose member l is a list of structs
abbrev with_list_member : Schema
with_list_member = schema_of (
    pair_with []
    ∷ node 8 1 1 false 0 0 (group_field (codes "g") 9 ∷ [])
    ∷ node 9 1 1 true 2 0 (slot_field (codes "v") 0 (Some 0) (one BaseType.Void) (Some no_value) ∷ slot_field (codes "l") 0 (Some 1) (record { list_count = 1; base = BaseType.Struct 1 }) None ∷ [])
    ∷ [])

null_list_member_is_set_to_an_empty_list : edit with_list_member 8 (call (name (codes "g") ∷ []) (set_to (message (structure 1 1 none)))) (structure 1 0 (null ▸ none)) ≡ structure 1 1 (struct_list 0 0 no_elements ▸ none)
unfolding edit edit_field step step_field record_of record_by_shape shape_record read_child read cleared group_writes group_fault copied_record schema_of shape_in
null_list_member_is_set_to_an_empty_list = refl

-- a group with a member that is a group with a text
abbrev with_group_member : Schema
with_group_member = schema_of (
    node 8 1 1 false 0 0 (group_field (codes "g") 9 ∷ [])
    ∷ node 9 1 1 true 2 0 (slot_field (codes "v") 0 (Some 0) (one BaseType.Void) (Some no_value) ∷ record { name = codes "h"; member = Some 1; annotations = []; kind = Rattle.capnp_model.specs.Schemas.group 10 } ∷ [])
    ∷ node 10 1 1 true 0 0 (slot_field (codes "t") 0 None (one BaseType.Text) None ∷ [])
    ∷ [])

-- the text that stood there is gone, for the source's is null
group_member_is_cleared_before_it_is_set : edit with_group_member 8 (call (name (codes "g") ∷ []) (set_to (message (structure 1 1 none)))) (structure 1 1 (plain_list 2 3 0x6968 ▸ none)) ≡ structure 1 1 (null ▸ none)
unfolding edit edit_field step step_field record_of record_by_shape shape_record read_child read cleared group_writes group_fault copied_record schema_of shape_in
group_member_is_cleared_before_it_is_set = refl

-- ---- values that are set

-- an element of a list that is narrower than its type is set whole: the list is widened before
narrow_list_is_widened : edit examples 2 (call (name (codes "items") ∷ index 0 ∷ []) (set_to (message (structure 1 7 (plain_list 2 3 0x6968 ▸ none))))) (structure 0 0 (struct_list 1 0 (element 1 none no_elements) ▸ none)) ≡ structure 0 0 (struct_list 1 1 (element 7 (plain_list 2 3 0x6968 ▸ none) no_elements) ▸ none)
unfolding edit edit_field step step_field record_of record_by_shape shape_record read_child read schema_of shape_in
narrow_list_is_widened = refl

abbrev numbers : Schema
numbers = schema_of (node 1 0 1 false 0 0 (slot_field (codes "l") 0 None (record { list_count = 1; base = BaseType.UInt16 }) None ∷ []) ∷ [])

-- a message is judged as its canonical tree: structs of a zero word have none there
list_of_zero_structs_is_refused : replies numbers (λ x. x) 1 (call (name (codes "l") ∷ []) (set_to (message (trim (struct_list 1 0 (element 0 none no_elements))))) ∷ []) (structure 0 0 none) ≡ reply_refused TypeMismatch ∷ []
unfolding replies edit edit_field step step_field record_of record_by_shape shape_record read_child read schema_of shape_in trim
list_of_zero_structs_is_refused = refl

-- ---- defaults out of kind

-- the default of items is the list of the bytes 1 and 2
abbrev out_of_kind : Schema
out_of_kind = schema_of (pair_with [] ∷ node 2 0 1 false 0 0 (slot_field (codes "items") 0 None (record { list_count = 1; base = BaseType.Struct 1 }) (Some (list_segment (1 ∷ 0 ∷ 0 ∷ 0 ∷ 18 ∷ 0 ∷ 0 ∷ 0 ∷ 1 ∷ 2 ∷ 0 ∷ 0 ∷ 0 ∷ 0 ∷ 0 ∷ 0 ∷ []))) ∷ []) ∷ [])

abbrev set_first : Call
set_first = call (name (codes "items") ∷ index 0 ∷ name (codes "a") ∷ []) (set_to (whole_number (pos 7)))

default_out_of_kind : defaults_in_kind out_of_kind (out_of_kind.shape_of 2) ≡ false
unfolding defaults_in_kind in_kind schema_of shape_in decode tree_at canonical_words trim has_capability
default_out_of_kind = refl

value_without_a_list_is_in_kind : in_kind out_of_kind (structure 0 0 (null ▸ none)) (struct 2) ≡ true
unfolding in_kind shape_in_kind schema_of shape_in
value_without_a_list_is_in_kind = refl

-- the machine leaves the second element at 0, the tree's record has 2 there
machine_reads_a_byte : step out_of_kind 2 set_first (record_of out_of_kind 2 (structure 0 0 (null ▸ none)))
    ≡ done (entry (codes "items") (list_of (record_as (entry (codes "a") (number 7) (entry (codes "t") null_pointer no_more)) ▹ record_as (entry (codes "a") (number 0) (entry (codes "t") null_pointer no_more)) ▹ no_readings)) no_more)
unfolding step step_field record_of record_by_shape shape_record read_child read schema_of shape_in decode tree_at canonical_words trim has_capability
machine_reads_a_byte = refl

tree_reads_a_widened_word : record_of out_of_kind 2 (edit out_of_kind 2 set_first (structure 0 0 (null ▸ none)))
    ≡ entry (codes "items") (list_of (record_as (entry (codes "a") (number 7) (entry (codes "t") null_pointer no_more)) ▹ record_as (entry (codes "a") (number 2) (entry (codes "t") null_pointer no_more)) ▹ no_readings)) no_more
unfolding edit edit_field step step_field record_of record_by_shape shape_record read_child read schema_of shape_in decode tree_at canonical_words trim has_capability
tree_reads_a_widened_word = refl

structs_reached : named_structs (out_of_kind.shape_of 2) ≡ 1 ∷ []
unfolding named_structs schema_of shape_in
structs_reached = refl

-- ---- rules

void_without_a_default : fault_of (node 1 1 1 false 0 0 (slot_field (codes "v") 0 None (one BaseType.Void) None ∷ []) ∷ []) ≡ Some (10, 0)
unfolding shape_in has_no_overlap areas_of
void_without_a_default = refl

-- ---- messages

capability_root_is_refused : answer examples (λ x. x) 1 [] (record { words = Some 1000; nesting = pos 64 }) ((3 ∷ []) ∷ []) ≡ refused_value
unfolding answer value_within tree_at has_capability
capability_root_is_refused = refl

capability_below_a_struct_is_refused : answer examples (λ x. x) 1 [] (record { words = None; nesting = pos 64 }) ((281474976710656 ∷ 3 ∷ []) ∷ []) ≡ refused_value
unfolding answer value_within tree_at has_capability
capability_below_a_struct_is_refused = refl

no_value_keeps_a_negative_nesting_limit : answer examples (λ x. x) 1 [] (record { words = None; nesting = negsuc 0 }) ((0 ∷ []) ∷ []) ≡ refused_value
unfolding answer value_within tree_at has_capability
no_value_keeps_a_negative_nesting_limit = refl

-- each segment is packed by itself: the first one's run ends with it
packed_segments_of_a_zero_word : spelled packed ((0 ∷ []) ∷ (0 ∷ []) ∷ []) ≡ 17 ∷ 1 ∷ 1 ∷ 1 ∷ 1 ∷ 0 ∷ 0 ∷ 0 ∷ 0 ∷ []
unfolding packed
packed_segments_of_a_zero_word = refl

-- the text `Hello, World!` as a root: two words behind the root word
text_as_root : canonical_words (Rattle.capnp_model.specs.Calls.text_tree (codes "Hello, World!")) ≡ (1 + 2 ^ 32 * 2 + 2 ^ 35 * 14) ∷ 0x57202c6f6c6c6548 ∷ 0x21646c726f ∷ []
unfolding canonical_words
text_as_root = refl
