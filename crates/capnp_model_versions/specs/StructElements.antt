-- Calls that set a whole element of a list of structs.
use Rattle.std.specs.Prelude.{◌≡◌, ℕ, Bool, false, ◌&&◌, List}
use Rattle.std.specs.List.{AllByRecursion}
use Rattle.capnp_model.specs.Schemas.{struct, Schema}
use Rattle.capnp_model.specs.Calls.{Call}
use Rattle.capnp_model.specs.Admitted.{is_set, is_struct_type}
use Rattle.capnp_model.specs.InKindCalls.{PathEnd, at_slot, at_value, nowhere, end_of}
use Rattle.capnp_model_versions.specs.Whole.{IsWholeVerb}

-- A path ends at a value of a struct type.
abbrev pub is_struct_value : PathEnd → Bool
is_struct_value (at_slot body) = false
is_struct_value (at_value ty) = is_struct_type ty
is_struct_value nowhere = false

-- The call is a `set` of an element of a struct type.
abbrev pub sets_struct_element : Schema → ℕ → Call → Bool
sets_struct_element s id c = is_set c.verb && is_struct_value (end_of s c.path (at_value (struct id)))

-- A call with what calls hold, which sets no whole element of a list of structs.
pub record SetsNoStructElement (s : Schema) (id : ℕ) (c : Call) : Type 0 where
  pub whole : IsWholeVerb c.verb
  pub sets_none : sets_struct_element s id c ≡ false

-- Calls of which each is such.
abbrev pub SetNoStructElements : Schema → ℕ → List Call → Type 0
SetNoStructElements s id calls = AllByRecursion (SetsNoStructElement s id) calls
