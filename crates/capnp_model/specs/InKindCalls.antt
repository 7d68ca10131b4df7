-- Values, defaults and calls whose lists have exactly the sizes that a schema names.
use Rattle.std.specs.Prelude.{ℕ, Bool, true, ◌&&◌, ◌==◌, IsTrue, List, [], ◌∷◌, ◌++◌}
use Rattle.std.specs.List.{AllByRecursion, list_all, list_any}
use Rattle.capnp_model.specs.Trees.{Tree, structure}
use Rattle.capnp_model.specs.Schemas.{Ty, struct, list, Shape, shape, Fields, no_fields, field, Body, void_slot, plain_slot, pointer_slot, group_slot, Schema, default_or_null}
use Rattle.capnp_model.specs.Printing.{fields_in}
use Rattle.capnp_model.specs.Calls.{Step, name, index, set_to, message, message_root, Call}
use Rattle.capnp_model.specs.Steps.{Target, no_target, target, target_of}
use Rattle.capnp_model.specs.InKind.{in_kind, shape_in_kind, child_in_kind}

-- ---- the defaults of a schema

unfoldable mutual
  -- The defaults of a struct or a group are in kind.
  pub defaults_in_kind : Schema → Shape → Bool
  defaults_in_kind s (shape nid words pointers union fs) = field_defaults_in_kind s fs

  -- The defaults of fields.
  pub field_defaults_in_kind : Schema → Fields → Bool
  field_defaults_in_kind s no_fields = true
  field_defaults_in_kind s (field n member body fs) = body_default_in_kind s body && field_defaults_in_kind s fs

  -- The default of a field.
  pub body_default_in_kind : Schema → Body → Bool
  body_default_in_kind s (void_slot j) = true
  body_default_in_kind s (plain_slot p at d) = true
  body_default_in_kind s (pointer_slot i ty d) = in_kind s (default_or_null d) ty
  body_default_in_kind s (group_slot g) = defaults_in_kind s g

-- The structs that a type names.
abbrev pub struct_ids : Ty → List ℕ
struct_ids (struct id) = id ∷ []
struct_ids (list ty) = struct_ids ty
struct_ids _ = []

unfoldable mutual
  -- The structs that the fields of a struct or a group name.
  pub named_structs : Shape → List ℕ
  named_structs (shape nid words pointers union fs) = structs_of_fields fs

  -- The structs that fields name.
  pub structs_of_fields : Fields → List ℕ
  structs_of_fields no_fields = []
  structs_of_fields (field n member body fs) = structs_of_body body ++ structs_of_fields fs

  -- The structs that a field names.
  pub structs_of_body : Body → List ℕ
  structs_of_body (void_slot j) = []
  structs_of_body (plain_slot p at d) = []
  structs_of_body (pointer_slot i ty d) = struct_ids ty
  structs_of_body (group_slot g) = named_structs g

-- The id is among these.
abbrev pub is_among : List ℕ → ℕ → Bool
is_among ids id = list_any (λ i. i == id) ids

-- ---- the value of a call

-- Where a path ends: at a field, at an element of a type, or at nothing that it fits.
pub data PathEnd : Type 0 where
  at_slot : Body → PathEnd
  at_value : Ty → PathEnd
  nowhere : PathEnd

-- The end at a field that was found.
abbrev pub end_at : Target → PathEnd
end_at no_target = nowhere
end_at (target member body) = at_slot body

-- One step into a value of a type.
abbrev pub step_into : Schema → Step → Ty → PathEnd
step_into s (name n) (struct id) = end_at (target_of n (fields_in (s.shape_of id)))
step_into s (index k) (list ty) = at_value ty
step_into s step ty = nowhere

-- One step on.
abbrev pub next_end : Schema → Step → PathEnd → PathEnd
next_end s (name n) (at_slot (group_slot g)) = end_at (target_of n (fields_in g))
next_end s step (at_slot (pointer_slot i ty d)) = step_into s step ty
next_end s step (at_value ty) = step_into s step ty
next_end s step at = nowhere

-- Where a path from an end on ends.
unfoldable pub end_of : Schema → List Step → PathEnd → PathEnd
end_of s [] at = at
end_of s (st ∷ path) at = end_of s path (next_end s st at)

-- A struct from which a group is set is in kind.
abbrev pub group_source_in_kind : Schema → Shape → Tree → Bool
group_source_in_kind s g (structure words section kids) = shape_in_kind g section (child_in_kind s kids)
group_source_in_kind s g t = true

-- A tree that is set at the end of a path is in kind.
abbrev pub target_in_kind : Schema → PathEnd → Tree → Bool
target_in_kind s (at_slot (pointer_slot i ty d)) t = in_kind s t ty
target_in_kind s (at_slot (group_slot g)) t = group_source_in_kind s g t
target_in_kind s (at_value ty) t = in_kind s t ty
target_in_kind s at t = true

-- The value of a call is in kind under the type of its target.
abbrev pub value_in_kind : Schema → ℕ → Call → Bool
value_in_kind s id call = elim call.verb [
  | set_to v ↦ elim v [ message t ↦ target_in_kind s (end_of s call.path (at_value (struct id))) (message_root t) | _ ↦ true ]
  | _ ↦ true
]

-- In kind: the value, the defaults of all structs that are reached from the root, and the values of the calls.
pub record IsInKind (s : Schema) (id : ℕ) (calls : List Call) (t : Tree) : Type 0 where
  pub of_tree : IsTrue (in_kind s t (struct id))
  pub reached : List ℕ
  pub has_root : IsTrue (is_among reached id)
  pub are_closed : IsTrue (list_all (λ i. list_all (is_among reached) (named_structs (s.shape_of i))) reached)
  pub of_defaults : IsTrue (list_all (λ i. defaults_in_kind s (s.shape_of i)) reached)
  pub of_values : AllByRecursion (λ c. IsTrue (value_in_kind s id c)) calls
