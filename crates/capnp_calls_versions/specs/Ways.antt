-- What contracts see of a walk along a call's path.
use Rattle.std.specs.Prelude.{ℕ, ◌≡◌, ◌-◌, ◌<◌, ◌≤◌, ⊤, Bool, true, false, Option, Some, None, min, find, List, length, take, string_bytes}
use Rattle.std.specs.List.{list_all}
use Rattle.std.specs.Str.{bytes_eq}
use Rattle.capnp_model.specs.Schemas.{Ty, struct, list, type_of, Shape, pointer_slot, group_slot, Schema}
use Rattle.capnp_model.specs.Accepted.{shape_in}
use Rattle.capnp_model.specs.Calls.{Step, name, index, Verb as ModelVerb, Call}
use Rattle.capnp_model.specs.Admitted.{At as ModelAt, at_body, at_element, nowhere, is_admitted_from}
use Rattle.capnp_records.specs.NodeViews.{type_record_of}
use Rattle.capnp_records.specs.declared.node.FieldRecord.{FieldRecord}
use Rattle.capnp_calls.specs.Ways.{FindsFirst, fields_behind_first}
use Rattle.capnp_calls.specs.declared.find.FoundField.{FoundField}
use Rattle.capnp_calls.specs.declared.call.Verb.{Verb}
use Rattle.capnp_calls.specs.declared.call.Verb.TheVariants as verb
use Rattle.capnp_calls_versions.specs.declared.keeps.Versions.{Versions}
use Rattle.capnp_calls_versions.specs.declared.keeps.Levels.{Levels}
use Rattle.capnp_calls_versions.specs.declared.admitted.At.{At}
use Rattle.capnp_calls_versions.specs.declared.admitted.At.TheVariants as at
use Rattle.capnp_calls_versions.specs.declared.admitted.Next.{Next}
use Rattle.capnp_calls_versions.specs.declared.admitted.Next.TheVariants as next
use Rattle.capnp_calls_versions.specs.declared.admitted.Admission.{Admission}
use Rattle.capnp_calls_versions.specs.declared.admitted.Admission.TheVariants as admission
use Rattle.capnp_model.specs.Partners.{Renaming, partner_name}
use Rattle.capnp_calls_versions.specs.Renamed.{names_in}
use Rattle.capnp_calls_versions.specs.Holders.{held_nodes, held_schema}

-- The first field of a name.
abbrev pub first_named : List ℕ → List FieldRecord → Option FieldRecord
first_named n fs = find (λ f. bytes_eq (string_bytes f.name) n) fs

-- The first field of a node whose partner has a name.
abbrev pub first_partner : List Renaming → ℕ → List ℕ → List FieldRecord → Option FieldRecord
first_partner rs node n fs = find (λ f. bytes_eq (partner_name rs node (string_bytes f.name)) n) fs

-- The first of two places.
abbrev pub earlier : Option ℕ → Option ℕ → Option ℕ
earlier None b = b
earlier (Some i) None = Some i
earlier (Some i) (Some j) = Some (min i j)

-- The struct that a type names.
abbrev pub struct_id_in : Ty → Option ℕ
struct_id_in (struct i) = Some i
struct_id_in _ = None

-- The type of a list's elements.
abbrev pub element_in : Ty → Option Ty
element_in (list ty) = Some ty
element_in _ = None

-- The shape of an id in the older version.
abbrev pub older_shape : Versions → Levels → ℕ → Shape
older_shape v levels i = shape_in (held_nodes v.older) levels.older i

-- The shape of an id in the newer version.
abbrev pub newer_shape : Versions → Levels → ℕ → Shape
newer_shape v levels j = shape_in (held_nodes v.newer) levels.newer j

-- Where the walk stands; slots are told by their types alone.
abbrev pub at_seen : Versions → At → ModelAt
at_seen v (at.Group levels i j) = at_body (group_slot (older_shape v levels i)) (group_slot (newer_shape v levels j))
at_seen v (at.Slot t u) = at_body (pointer_slot 0 (type_of (type_record_of t)) None) (pointer_slot 0 (type_of (type_record_of u)) None)
at_seen v (at.Element t u) = at_element (type_of (type_record_of t)) (type_of (type_record_of u))
at_seen v at.Nowhere = nowhere

-- A call along a path from where the walk stands is admitted.
abbrev pub goes_on : Versions → List Step → ModelVerb → ModelAt → Bool
goes_on v path w a = is_admitted_from (names_in v.names) (held_schema v.older) (held_schema v.newer) path w a

-- A call along a path from what a step leads to is admitted.
abbrev pub next_seen : Versions → Next → List Step → ModelVerb → Bool
next_seen v next.Unknown path w = false
next_seen v next.Unfit path w = true
next_seen v (next.To a) path w = goes_on v path w (at_seen v a)

-- The first of a way's fields is what the step finds, if it is a name.
abbrev pub FindsStep : Schema → Step → List FoundField → Type 0
FindsStep s (name n) way = FindsFirst s n way
FindsStep s (index i) way = ⊤

-- The fields behind a step.
abbrev pub way_behind : Step → List FoundField → List FoundField
way_behind (name n) way = fields_behind_first way
way_behind (index i) way = way

-- The verb writes a group as a whole.
abbrev pub writes_group : Verb → Bool
writes_group verb.Set = true
writes_group verb.Init = true
writes_group verb.Clear = true
writes_group _ = false

-- The verb is `Set`.
abbrev pub sets : Verb → Bool
sets verb.Set = true
sets _ = false

-- The call of a number, from 1 on, is the first that fails the test.
pub record IsFirstRefused (test : Call → Bool) (calls : List Call) (n : ℕ) : Type 0 where
  pub some : 0 < n
  pub within : n ≤ length calls
  pub before : list_all test (take (n - 1) calls) ≡ true
  pub here : list_all test (take n calls) ≡ false

-- Each call passes the test, or the first that does not is told.
abbrev pub IsAdmissionOf : (Call → Bool) → List Call → Admission → Type 0
IsAdmissionOf test calls admission.Admitted = list_all test calls ≡ true
IsAdmissionOf test calls (admission.Refused n) = IsFirstRefused test calls n
