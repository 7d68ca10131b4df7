-- Where paths end, as schemas tell.
use Rattle.std.specs.Prelude.{◌≡◌, true, ⊤, Option, Some, None, List, [], ◌∷◌}
use Rattle.capnp_model.specs.Schemas.{Node, Schema}
use Rattle.capnp_model.specs.Calls.{Step, name, index}
use Rattle.capnp_model.specs.InKindCalls.{PathEnd, at_slot, at_value, nowhere}
use Rattle.capnp_values_queries.specs.Types.{ty_of, is_type_of}
use Rattle.capnp_values_queries.specs.Handles.{body_of_place, IsPlaceIn}
use Rattle.capnp_calls.specs.Ways.{Finds}
use Rattle.capnp_calls.specs.declared.ends.End.{End}
use Rattle.capnp_calls.specs.declared.ends.End.TheVariants as ends
use Rattle.capnp_calls.specs.declared.find.FoundField.{FoundField}

-- The end, as the model has it.
abbrev pub end_view : End → PathEnd
end_view (ends.Slot place) = at_slot (body_of_place place)
end_view (ends.Value ty) = at_value (ty_of ty)
end_view ends.Nowhere = nowhere

-- What the end names is of the set of the nodes.
abbrev pub IsEndOf : List Node → End → Type 0
IsEndOf nodes (ends.Slot place) = IsPlaceIn nodes place
IsEndOf nodes (ends.Value ty) = is_type_of nodes ty ≡ true
IsEndOf nodes ends.Nowhere = ⊤

-- What a step finds that leads to an end: a name a field, or nothing where it leads nowhere; an
-- index nothing.
abbrev pub IsStepFound : Schema → Step → PathEnd → Option FoundField → Type 0
IsStepFound s (name n) at (Some found) = Finds s n found
IsStepFound s (name n) at None = at ≡ nowhere
IsStepFound s (index i) at (Some found) = ⊥
IsStepFound s (index i) at None = ⊤

-- What a step finds, as a list.
abbrev pub found_fields : Option FoundField → List FoundField
found_fields None = []
found_fields (Some found) = found ∷ []
