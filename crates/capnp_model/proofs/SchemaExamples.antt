-- Worked node records: the first broken rule and its node, compatible versions, admitted calls.
use Rattle.std.proofs.Common.{◌≡◌, ℕ, true, false, Some, None, List, [], ◌∷◌, codes, refl}
use Rattle.capnp_model.specs.Trees.{structure, none}
use Rattle.capnp_model.specs.Encoding.{canonical_words}
use Rattle.capnp_model.specs.Schemas.{uint, BaseType, bits, struct_segment, Field, Node, Schema}
use Rattle.capnp_model.specs.Calls.{Step, name, index, message, Verb, get, set_to, init, Call}
use Rattle.capnp_model.specs.Decoding.{decode}
use Rattle.capnp_model.specs.Traversal.{tree_at}
use Rattle.capnp_model.specs.Trees.{has_capability}
use Rattle.capnp_model.specs.Trimming.{trim}
use Rattle.capnp_model.specs.Accepted.{fault_of, shape_in, has_no_overlap, areas_of, schema_of}
use Rattle.capnp_model.specs.Compatible.{Pairs, IsCompatible, keeps}
use Rattle.capnp_model.proofs.lemmas.KeptShapes.{pair_is_kept}
use Rattle.capnp_model.specs.Admitted.{is_admitted, is_admitted_from, is_extended}
use Rattle.capnp_model.proofs.ExampleSchemas.{one, slot_field, u16_field, u8_field, text_field, group_field, node, pair_with, union_with, group_holder, group_node, example_nodes, newer_nodes}

twice : fault_of (pair_with [] ∷ pair_with [] ∷ []) ≡ Some (1, 1)
unfolding shape_in has_no_overlap areas_of
twice = refl

float : fault_of (pair_with (slot_field (codes "f") 1 None (one BaseType.Float32) None ∷ []) ∷ []) ≡ Some (4, 0)
unfolding shape_in has_no_overlap areas_of
float = refl

gap_in_members : fault_of (union_with 2 1 ∷ []) ≡ Some (7, 0)
unfolding shape_in has_no_overlap areas_of
gap_in_members = refl

outside_its_section : fault_of (node 1 1 1 false 0 0 (u16_field (codes "a") 4 None ∷ text_field (codes "t") 0 ∷ []) ∷ []) ≡ Some (8, 0)
unfolding shape_in has_no_overlap areas_of
outside_its_section = refl

overlap : fault_of (pair_with (u8_field (codes "b") 1 ∷ []) ∷ []) ≡ Some (9, 0)
unfolding shape_in has_no_overlap areas_of
overlap = refl

no_overlap : fault_of (pair_with (u8_field (codes "b") 2 ∷ []) ∷ []) ≡ None
unfolding shape_in has_no_overlap areas_of
no_overlap = refl

on_the_discriminant : fault_of (union_with 1 0 ∷ []) ≡ Some (9, 0)
unfolding shape_in has_no_overlap areas_of
on_the_discriminant = refl

all_examples : fault_of example_nodes ≡ None
unfolding shape_in has_no_overlap areas_of
all_examples = refl

newer_versions : fault_of newer_nodes ≡ None
unfolding shape_in has_no_overlap areas_of
newer_versions = refl

unused_group : fault_of (pair_with [] ∷ group_node ∷ []) ≡ Some (6, 1)
unfolding shape_in has_no_overlap areas_of
unused_group = refl

-- a struct with a struct in it that has this default
child_with : List ℕ → List Node
child_with bytes = pair_with [] ∷ node 7 0 1 false 0 0 (slot_field (codes "child") 0 None (one (BaseType.Struct 1)) (Some (struct_segment bytes)) ∷ []) ∷ []

default_is_canonical : fault_of (child_with (0 ∷ 0 ∷ 0 ∷ 0 ∷ 1 ∷ 0 ∷ 0 ∷ 0 ∷ 7 ∷ 0 ∷ 0 ∷ 0 ∷ 0 ∷ 0 ∷ 0 ∷ 0 ∷ [])) ≡ None
unfolding shape_in has_no_overlap areas_of decode tree_at canonical_words trim has_capability child_with
default_is_canonical = refl

default_has_a_zero_word : fault_of (child_with (0 ∷ 0 ∷ 0 ∷ 0 ∷ 1 ∷ 0 ∷ 0 ∷ 0 ∷ 0 ∷ 0 ∷ 0 ∷ 0 ∷ 0 ∷ 0 ∷ 0 ∷ 0 ∷ [])) ≡ Some (11, 1)
unfolding shape_in has_no_overlap areas_of decode tree_at canonical_words trim has_capability child_with
default_has_a_zero_word = refl

default_is_no_whole_words : fault_of (child_with (0 ∷ 0 ∷ 0 ∷ [])) ≡ Some (11, 1)
unfolding shape_in has_no_overlap areas_of decode tree_at canonical_words trim has_capability child_with
default_is_no_whole_words = refl

-- ---- versions

newer_keeps_the_pair : IsCompatible (schema_of example_nodes) (schema_of newer_nodes) 1 1
unfolding keeps schema_of shape_in
newer_keeps_the_pair = record { pairs = (1, 1) ∷ []; same_sort = refl; has_roots = refl; are_kept = refl }

newer_keeps_the_union : IsCompatible (schema_of example_nodes) (schema_of newer_nodes) 3 3
unfolding keeps schema_of shape_in
newer_keeps_the_union = record { pairs = (3, 3) ∷ []; same_sort = refl; has_roots = refl; are_kept = refl }

newer_keeps_the_list : IsCompatible (schema_of example_nodes) (schema_of newer_nodes) 2 2
unfolding keeps schema_of shape_in
newer_keeps_the_list = record { pairs = (2, 2) ∷ (1, 1) ∷ []; same_sort = refl; has_roots = refl; are_kept = refl }

older_does_not_keep : (pairs : Pairs) → keeps (schema_of newer_nodes) (schema_of example_nodes) pairs ((schema_of newer_nodes).shape_of 1) ((schema_of example_nodes).shape_of 1) ≡ false
unfolding keeps schema_of shape_in
older_does_not_keep pairs = refl

renamed : Schema
renamed = schema_of (node 1 1 1 false 0 0 (u16_field (codes "c") 0 None ∷ text_field (codes "t") 0 ∷ []) ∷ [])

other_default : Schema
other_default = schema_of (node 1 1 1 false 0 0 (slot_field (codes "a") 0 None (one BaseType.UInt16) (Some (bits (uint 16) 1)) ∷ text_field (codes "t") 0 ∷ []) ∷ [])

renamed_is_not_kept : (pairs : Pairs) → keeps (schema_of example_nodes) renamed pairs ((schema_of example_nodes).shape_of 1) (renamed.shape_of 1) ≡ false
unfolding keeps schema_of shape_in renamed
renamed_is_not_kept pairs = refl

other_default_is_not_kept : (pairs : Pairs) → keeps (schema_of example_nodes) other_default pairs ((schema_of example_nodes).shape_of 1) (other_default.shape_of 1) ≡ false
unfolding keeps schema_of shape_in other_default
other_default_is_not_kept pairs = refl

-- schemas whose two shapes are kept by no pairs are not compatible
not_compatible : (o n : Schema) (i j : ℕ) → ((pairs : Pairs) → keeps o n pairs (o.shape_of i) (n.shape_of j) ≡ false) → IsCompatible o n i j → ⊥
not_compatible o n i j broken c = let kept : keeps o n c.pairs (o.shape_of i) (n.shape_of j) ≡ true = pair_is_kept o n c.pairs c.pairs i j c.are_kept c.has_roots in cc (broken c.pairs)

newer_is_no_older : IsCompatible (schema_of newer_nodes) (schema_of example_nodes) 1 1 → ⊥
newer_is_no_older = not_compatible (schema_of newer_nodes) (schema_of example_nodes) 1 1 older_does_not_keep

renamed_field : IsCompatible (schema_of example_nodes) renamed 1 1 → ⊥
renamed_field = not_compatible (schema_of example_nodes) renamed 1 1 renamed_is_not_kept

other_default_differs : IsCompatible (schema_of example_nodes) other_default 1 1 → ⊥
other_default_differs = not_compatible (schema_of example_nodes) other_default 1 1 other_default_is_not_kept

-- ---- calls

call : List Step → Verb → Call
call p v = record { path = p; verb = v }

unknown_field_is_not_admitted : is_admitted (schema_of example_nodes) (schema_of newer_nodes) 1 1 (call (name (codes "b") ∷ []) get) ≡ false
unfolding is_admitted_from schema_of shape_in call
unknown_field_is_not_admitted = refl

list_is_read : is_admitted (schema_of example_nodes) (schema_of example_nodes) 2 2 (call (name (codes "items") ∷ []) get) ≡ true
unfolding is_admitted_from schema_of shape_in call
list_is_read = refl

struct_element_is_not_set : is_admitted (schema_of example_nodes) (schema_of example_nodes) 2 2 (call (name (codes "items") ∷ index 0 ∷ []) (set_to (message (structure 0 0 none)))) ≡ false
unfolding is_admitted_from schema_of shape_in call
struct_element_is_not_set = refl

extended : Schema
extended = schema_of (group_holder ∷ node 6 1 0 true 0 0 (u16_field (codes "x") 0 None ∷ u16_field (codes "y") 1 None ∷ u16_field (codes "w") 3 None ∷ []) ∷ [])

extended_group_is_not_cleared : is_admitted (schema_of example_nodes) extended 5 5 (call (name (codes "g") ∷ []) init) ≡ false
unfolding is_admitted_from schema_of shape_in call extended is_extended
extended_group_is_not_cleared = refl

-- ---- more groups

-- a group, by its id and the groups in it
group_of : ℕ → List Field → Node
group_of id fs = node id 0 0 true 0 0 fs

first_group_in_a_cycle : fault_of (group_of 1 [] ∷ group_of 2 (group_field (codes "x") 3 ∷ group_field (codes "y") 1 ∷ []) ∷ group_of 3 (group_field (codes "z") 2 ∷ []) ∷ []) ≡ Some (6, 1)
unfolding shape_in has_no_overlap areas_of group_of
first_group_in_a_cycle = refl

group_in_a_cycle_with_one_user : fault_of (node 3 0 0 false 0 0 (group_field (codes "x") 2 ∷ []) ∷ group_of 1 (group_field (codes "y") 2 ∷ []) ∷ group_of 2 (group_field (codes "z") 1 ∷ []) ∷ []) ≡ Some (6, 1)
unfolding shape_in has_no_overlap areas_of group_of
group_in_a_cycle_with_one_user = refl
