-- What calls do behind a pointer and at an element, told by the bytes of an arena.
use Rattle.std.specs.Prelude.{◌≡◌, ⊤, ℕ, true, List, map, Option, Result, IfErr, OnOk}
use Rattle.capnp_model.specs.Calls.{Step, Call}
use Rattle.capnp_model.specs.Schemas.{Ty, Schema}
use Rattle.capnp_model.specs.Trees.{Tree}
use Rattle.capnp_units.specs.declared.errors.Error.{Error}
use Rattle.capnp_units.specs.Segments.{words_in}
use Rattle.capnp_wire_objects.specs.declared.place.Place as code
use Rattle.capnp_wire_objects.specs.Places.{place_view}
use Rattle.capnp_copy_arenas.specs.declared.fields.StructPlace.{StructPlace}
use Rattle.capnp_copy_arenas.specs.declared.init.ListPlace.{ListPlace}
use Rattle.capnp_calls.specs.declared.call.Step as calls
use Rattle.capnp_calls.specs.declared.call.Action.{Action}
use Rattle.capnp_calls.specs.CallViews.{step_view, action_view}
use Rattle.capnp_schema_structs.specs.Grown.{GrowsAround, GrowsBehind}
use Rattle.capnp_schema_lists.specs.Lists.{GrowsIn}
use Rattle.capnp_schema_lists.specs.Places.{ElementAt}
use Rattle.capnp_calls_edits.specs.Elements.{EditsElementAt, WhereElementDone}
use Rattle.capnp_calls_edits.specs.Written.{EditsValueAt, WhereValueDone, HoldsDefaultOrNull, has_inside}

-- The steps of a path, in the words of the model.
abbrev pub steps_in : List calls.Step → List Step
steps_in path = map step_view path

-- What is left of a call: the steps of a path, and what is done at its end.
abbrev pub call_left : List calls.Step → Action → Call
call_left path action = record { path = steps_in path; verb = action_view action }

-- A pointer's slot, and the schema and type by which what is behind it is read.
pub record TypedSlot : Type 0 where
  pub slot : code.Place
  pub around : Schema
  pub ty : Ty

abbrev pub typed_slot : code.Place → Schema → Ty → TypedSlot
typed_slot slot s ty = record { slot = slot; around = s; ty = ty }

-- Where a path can go on inside a value of the type, the words of a default hold this value; no default is null.
abbrev pub HoldsInside : Ty → Option (List (List ℕ)) → Tree → Type 0
HoldsInside ty default d = has_inside ty ≡ true → HoldsDefaultOrNull default d

-- Whatever default is held so: the value behind the pointer becomes what the steps make of it.
abbrev pub WritesBehind : (Tree → Type 0) → List (List ℕ) → List (List ℕ) → TypedSlot → Call → Result ⊤ Error → Type 0
WritesBehind Held s u p c result =
    (d : Tree) → Held d → OnOk result (EditsValueAt (words_in s) (words_in u) (place_view p.slot) (record { around = p.around; ty = p.ty; default = d }) c)

-- Whatever default is held so: where the record machine does the steps, an error is as told.
abbrev pub FailsBehind : (Tree → Type 0) → (Error → Type 0) → List (List ℕ) → TypedSlot → Call → Result ⊤ Error → Type 0
FailsBehind Held Told s p c result =
    (d : Tree) → Held d → IfErr result (λ e. WhereValueDone (words_in s) (place_view p.slot) (record { around = p.around; ty = p.ty; default = d }) c (Told e))

-- The element becomes what the steps make of it.
abbrev pub WritesAtElement : List (List ℕ) → List (List ℕ) → ElementAt → Call → Type 0
WritesAtElement s u element c = EditsElementAt (words_in s) (words_in u) element c

-- Where the record machine does the steps at that element, the error is as told.
abbrev pub FailsAtElement : (Error → Type 0) → List (List ℕ) → ElementAt → Call → Error → Type 0
FailsAtElement Told s element c e = WhereElementDone (words_in s) element c (Told e)

-- What is behind the pointer, in the struct or in the list may grow, and nothing else changes.
abbrev pub BytesGrowBehind : List (List ℕ) → List (List ℕ) → code.Place → Type 0
BytesGrowBehind old new slot = GrowsBehind (words_in old) (words_in new) (place_view slot)

abbrev pub BytesGrowAround : List (List ℕ) → List (List ℕ) → StructPlace → Type 0
BytesGrowAround old new object = GrowsAround (words_in old) (words_in new) object

abbrev pub BytesGrowIn : List (List ℕ) → List (List ℕ) → ListPlace → Type 0
BytesGrowIn old new list = GrowsIn (words_in old) (words_in new) list
