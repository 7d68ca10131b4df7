-- What the rest of a path replies at a part of a struct that is read. (Encoding, "Structs" and "Lists")
use Rattle.std.specs.Prelude.{ℕ, ◌≡◌, Bool, Option, Some, None, option_map, List, ◌∷◌, ⊤}
use Rattle.capnp_model.specs.Kinds.{WrongStep}
use Rattle.capnp_model.specs.Printing.{fields_in, as_it_is}
use Rattle.capnp_model.specs.Schemas.{Ty, Body, void_slot, plain_slot, pointer_slot, group_slot, Fields, Shape, Schema}
use Rattle.capnp_model.specs.Readings.{Reading, list_of, Readings, record_as, Record}
use Rattle.capnp_model.specs.Calls.{Step, index, Verb}
use Rattle.capnp_model.specs.Steps.{on_index, step_field, step_element, step_path}
use Rattle.capnp_model.specs.Answers.{Reply, reply_of, reply_refused}
use Rattle.capnp_wire.specs.Views.{StructView, ListView}
use Rattle.capnp_values_queries.specs.Fields.{Entry}
use Rattle.capnp_values_queries.specs.Structs.{nodes_around, schema_around, shape_of_struct}
use Rattle.capnp_values_queries.specs.declared.structs.StructSchema.{StructSchema}
use Rattle.capnp_values_queries.specs.Handles.{entry_of_field}
use Rattle.capnp_values_queries.specs.declared.fields.Field.{Field}
use Rattle.capnp_values.specs.Records.{reading_at_index, is_live}
use Rattle.capnp_values.specs.Shown.{Shown, a_number, an_enum, a_text, a_blob, a_struct, a_list, a_pointer, a_capability}
use Rattle.capnp_values.specs.Standing.{IsRecord, AreItems}
use Rattle.capnp_model.specs.ActiveMembers.{element_of as reading_of}
use Rattle.capnp_calls.specs.Ways.{IsWay}
use Rattle.capnp_calls.specs.declared.find.FoundField.{FoundField}

-- The machine's reply along a path at a record.
abbrev pub record_reply : Schema → Fields → List Step → Verb → Record → Reply
record_reply s fs path verb r = reply_of s as_it_is (step_path s fs path verb r)

-- The reply along a path at the elements of a list.
abbrev pub items_reply : Schema → Ty → List Step → Verb → Readings → Reply
items_reply s ty (index k ∷ path) verb rs = reply_of s as_it_is (on_index (step_element s path verb ty) k rs)
items_reply s ty _ verb rs = reply_refused WrongStep

-- At a struct or a group of a schema that stands where its record is read, the reply is the machine's.
abbrev pub RepliesAtStruct : Schema → Shape → StructView → List Step → Verb → Reply → Type 0
RepliesAtStruct s g v path verb answer = (r : Record) → IsRecord s g v (record_as r) → answer ≡ record_reply s (fields_in g) path verb r

-- At a list that stands where its elements are read, the reply is the machine's.
abbrev pub RepliesAtList : Schema → Ty → ListView → List Step → Verb → Reply → Type 0
RepliesAtList s ty l path verb answer = (rs : Readings) → AreItems s ty l (list_of rs) → answer ≡ items_reply s ty path verb rs

-- At what is shown the reply is the machine's; only a struct and a list take a step.
abbrev pub RepliesBehind : Shown → List Step → Verb → Reply → Type 0
RepliesBehind (a_number ty n) path verb answer = answer ≡ reply_refused WrongStep
RepliesBehind (an_enum s id n) path verb answer = answer ≡ reply_refused WrongStep
RepliesBehind (a_text bytes) path verb answer = answer ≡ reply_refused WrongStep
RepliesBehind (a_blob bytes) path verb answer = answer ≡ reply_refused WrongStep
RepliesBehind (a_struct s g v) path verb answer = RepliesAtStruct s g v path verb answer
RepliesBehind (a_list s ty l) path verb answer = RepliesAtList s ty l path verb answer
RepliesBehind (a_pointer p) path verb answer = answer ≡ reply_refused WrongStep
RepliesBehind a_capability path verb answer = answer ≡ reply_refused WrongStep

-- What is said of a field, of the reading that a record has of it.
abbrev pub OfField : Field → StructView → (Schema → Body → Reading → Type 0) → Type 0
OfField f v says =
    let s = schema_around f.parent in
    (e : Entry) (r : Record) → entry_of_field f ≡ Some e → IsRecord s (shape_of_struct f.parent) v (record_as r) → says s e.body (reading_at_index f.index r)

-- The reply along the rest of a path at a field.
abbrev pub IsFieldReply : List Step → Verb → Reply → Schema → Body → Reading → Type 0
IsFieldReply path verb answer s body r = answer ≡ reply_of s as_it_is (step_field s path verb body r)

-- The reply along the rest of a path at the element of an index.
abbrev pub RepliesAtElement : Schema → Ty → ListView → ℕ → List Step → Verb → Reply → Type 0
RepliesAtElement s ty l i path verb answer = (rs : Readings) → AreItems s ty l (list_of rs) → answer ≡ reply_of s as_it_is (step_element s path verb ty (reading_of i rs))

-- It is told whether the reading is live: of no union member, or of the active one.
abbrev pub IsLive : Bool → Schema → Body → Reading → Type 0
IsLive answer s body r = answer ≡ is_live r

-- What is said of a field, whatever its reading.
abbrev pub OfBody : Field → (Schema → Body → Reading → Type 0) → Type 0
OfBody f says = (e : Entry) (r : Reading) → entry_of_field f ≡ Some e → says (schema_around f.parent) e.body r

-- It is no group.
abbrev pub IsNonGroup : Body → Type 0
IsNonGroup (void_slot j) = Unit {0}
IsNonGroup (plain_slot p at d) = Unit {0}
IsNonGroup (pointer_slot i ty d) = Unit {0}
IsNonGroup (group_slot g) = ⊥

-- The field is the group of a schema of its own set, or none.
abbrev pub IsGroupOf : Field → Option StructSchema → Type 0
IsGroupOf f (Some g) = (option_map (λ e. e.body) (entry_of_field f) ≡ Some (group_slot (shape_of_struct g))) × (nodes_around g ≡ nodes_around f.parent)
IsGroupOf f None = (e : Entry) → entry_of_field f ≡ Some e → IsNonGroup e.body

-- At what is shown, a way is one under the schema that explains it.
abbrev pub IsWayIn : Shown → List Step → List FoundField → Type 0
IsWayIn (a_number ty n) path way = ⊤
IsWayIn (an_enum s id n) path way = ⊤
IsWayIn (a_text bytes) path way = ⊤
IsWayIn (a_blob bytes) path way = ⊤
IsWayIn (a_struct s g v) path way = IsWay s path way
IsWayIn (a_list s ty l) path way = IsWay s path way
IsWayIn (a_pointer p) path way = ⊤
IsWayIn a_capability path way = ⊤
