-- Renamed fields at worked schemas: partners, pairs that aren't related, admitted calls and the same calls in the newer's words.
use Rattle.std.proofs.Common.{◌≡◌, ℕ, true, false, Some, None, List, [], ◌∷◌, codes, pos, refl}
use Rattle.capnp_model.specs.Schemas.{BaseType, no_value, Field, Node, Schema}
use Rattle.capnp_model.specs.Calls.{Step, name, index, whole_number, Verb, get, set_to, init, Call}
use Rattle.capnp_model.specs.Accepted.{shape_in, schema_of}
use Rattle.capnp_model.specs.Partners.{Renaming, are_one_to_one, renamed}
use Rattle.capnp_model.specs.Compatible.{Pairs, IsCompatibleWith, keeps}
use Rattle.capnp_model.specs.Admitted.{is_admitted_with, is_admitted_from, is_extended}
use Rattle.capnp_model.specs.RenamedCalls.{renamed_calls, renamed_path}
use Rattle.capnp_model.specs.InKindCalls.{end_of}
use Rattle.capnp_model.proofs.ExampleSchemas.{one, slot_field, u16_field, text_field, group_field, node, list_node, pair_with, example_nodes}

renaming : ℕ → List ℕ → List ℕ → Renaming
renaming id l l' = record { node = id; older = l; newer = l' }

-- a renamed c
a_to_c : List Renaming
a_to_c = renaming 1 (codes "a") (codes "c") ∷ []

older : Schema
older = schema_of example_nodes

newer : Schema
newer = schema_of (node 1 1 1 false 0 0 (u16_field (codes "c") 0 None ∷ text_field (codes "t") 0 ∷ []) ∷ list_node ∷ [])

renamed_field_is_kept : IsCompatibleWith a_to_c older newer 1 1
unfolding keeps schema_of shape_in renaming a_to_c older newer
renamed_field_is_kept = record { pairs = (1, 1) ∷ []; same_sort = refl; has_roots = refl; are_kept = refl }

-- behind a list
renamed_element_is_kept : IsCompatibleWith a_to_c older newer 2 2
unfolding keeps schema_of shape_in renaming a_to_c older newer
renamed_element_is_kept = record { pairs = (2, 2) ∷ (1, 1) ∷ []; same_sort = refl; has_roots = refl; are_kept = refl }

other_name : (pairs : Pairs) → keeps (renamed (renaming 1 (codes "a") (codes "d") ∷ []) older) newer pairs ((renamed (renaming 1 (codes "a") (codes "d") ∷ []) older).shape_of 1) (newer.shape_of 1) ≡ false
unfolding keeps schema_of shape_in renaming older newer
other_name pairs = refl

-- the field of another node
other_node : (pairs : Pairs) → keeps (renamed (renaming 2 (codes "a") (codes "c") ∷ []) older) newer pairs ((renamed (renaming 2 (codes "a") (codes "c") ∷ []) older).shape_of 1) (newer.shape_of 1) ≡ false
unfolding keeps schema_of shape_in renaming older newer
other_node pairs = refl

-- ---- one partner for two fields

void_field : List ℕ → Field
void_field n = slot_field n 0 None (one BaseType.Void) (Some no_value)

two_fields : Schema
two_fields = schema_of (node 1 0 0 false 0 0 (void_field (codes "x") ∷ void_field (codes "y") ∷ []) ∷ [])

one_field : Schema
one_field = schema_of (node 1 0 0 false 0 0 (void_field (codes "y") ∷ []) ∷ [])

x_to_y : List Renaming
x_to_y = renaming 1 (codes "x") (codes "y") ∷ []

one_partner_for_two : (pairs : Pairs) → keeps (renamed x_to_y two_fields) one_field pairs ((renamed x_to_y two_fields).shape_of 1) (one_field.shape_of 1) ≡ false
unfolding keeps schema_of shape_in renaming x_to_y two_fields one_field void_field
one_partner_for_two pairs = refl

renamed_twice : are_one_to_one (renaming 1 (codes "a") (codes "c") ∷ renaming 1 (codes "a") (codes "d") ∷ []) ≡ false
unfolding renaming
renamed_twice = refl

one_newer_name : are_one_to_one (renaming 1 (codes "a") (codes "c") ∷ renaming 1 (codes "t") (codes "c") ∷ []) ≡ false
unfolding renaming
one_newer_name = refl

two_nodes : are_one_to_one (renaming 1 (codes "a") (codes "c") ∷ renaming 2 (codes "a") (codes "c") ∷ []) ≡ true
unfolding renaming
two_nodes = refl

-- ---- calls

call : List Step → Verb → Call
call p v = record { path = p; verb = v }

set_a : Call
set_a = call (name (codes "a") ∷ []) (set_to (whole_number (pos 7)))

call_is_admitted : is_admitted_with a_to_c older newer 1 1 set_a ≡ true
unfolding is_admitted_from schema_of shape_in renaming a_to_c older newer call set_a
call_is_admitted = refl

-- the newer name is no field of the older
newer_name_is_not_admitted : is_admitted_with a_to_c older newer 1 1 (call (name (codes "c") ∷ []) get) ≡ false
unfolding is_admitted_from schema_of shape_in renaming a_to_c older newer call
newer_name_is_not_admitted = refl

call_in_newer_words : renamed_calls a_to_c older 1 (set_a ∷ []) ≡ call (name (codes "c") ∷ []) (set_to (whole_number (pos 7))) ∷ []
unfolding renamed_path schema_of shape_in renaming a_to_c older call set_a
call_in_newer_words = refl

path_behind_a_list : renamed_calls a_to_c older 2 (call (name (codes "items") ∷ index 0 ∷ name (codes "a") ∷ []) get ∷ []) ≡ call (name (codes "items") ∷ index 0 ∷ name (codes "c") ∷ []) get ∷ []
unfolding renamed_path schema_of shape_in renaming a_to_c older call
path_behind_a_list = refl

-- ---- groups

-- x of the group renamed u: the node is the group's
x_to_u : List Renaming
x_to_u = renaming 6 (codes "x") (codes "u") ∷ []

newer_group : Schema
newer_group = schema_of (node 5 1 0 false 0 0 (group_field (codes "g") 6 ∷ u16_field (codes "z") 2 None ∷ []) ∷ node 6 1 0 true 0 0 (u16_field (codes "u") 0 None ∷ u16_field (codes "y") 1 None ∷ []) ∷ [])

renamed_in_a_group : IsCompatibleWith x_to_u older newer_group 5 5
unfolding keeps schema_of shape_in renaming x_to_u older newer_group
renamed_in_a_group = record { pairs = (5, 5) ∷ []; same_sort = refl; has_roots = refl; are_kept = refl }

-- a group is not extended by the partner of its own field
renamed_group_is_cleared : is_admitted_with x_to_u older newer_group 5 5 (call (name (codes "g") ∷ []) init) ≡ true
unfolding is_admitted_from schema_of shape_in renaming x_to_u older newer_group call is_extended
renamed_group_is_cleared = refl

-- without the renaming it is extended
group_without_renaming : is_admitted_with [] older newer_group 5 5 (call (name (codes "g") ∷ []) init) ≡ false
unfolding is_admitted_from schema_of shape_in older newer_group call is_extended
group_without_renaming = refl
