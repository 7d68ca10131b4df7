-- Names of nodes and of their members.
use Rattle.std.specs.Prelude.{ℕ, ◌==◌, if◌then◌else◌, Option, Some, None, List, [], ◌∷◌, Result, Ok, Err}
use Rattle.std.specs.Option.{ok_or}
use Rattle.std.specs.Str.{is_utf8}
use Rattle.capnp_wire.specs.Views.{StructView, pointer_field}
use Rattle.capnp_relay_requests.specs.declared.fault.RequestFault.{RequestFault}
use Rattle.capnp_relay_requests.specs.Steps.{◌and_read◌}
use Rattle.capnp_relay_requests.specs.Places.{text_behind}

-- What stands behind the last colon, if there is one.
abbrev pub after_colon : List ℕ → Option (List ℕ)
after_colon [] = None
after_colon (b ∷ bs) = elim (after_colon bs) [ Some r ↦ Some r | None ↦ if b == 58 then Some bs else None ]

-- What stands behind the last colon, or all where there is none.
abbrev pub behind_colon : List ℕ → List ℕ
behind_colon bs = elim (after_colon bs) [ Some r ↦ r | None ↦ bs ]

-- A text in UTF-8.
abbrev pub checked_utf8 : RequestFault → List ℕ → Result (List ℕ) RequestFault
checked_utf8 fault bytes = if is_utf8 bytes then Ok bytes else Err fault

-- The bytes of a name. (schema.capnp, Node.displayName @1, Field.name @0 and Enumerant.name @0: pointer 0 of each)
abbrev pub name_bytes : RequestFault → StructView → Result (List ℕ) RequestFault
name_bytes fault v = ok_or (text_behind (pointer_field v 0)) fault

-- The name of a field or an enumerant.
abbrev pub member_name : RequestFault → StructView → Result (List ℕ) RequestFault
member_name fault v = name_bytes fault v and_read checked_utf8 fault

-- The name of a node, whose displayName begins with its file's name and a colon.
abbrev pub node_name : RequestFault → StructView → Result (List ℕ) RequestFault
node_name fault v = name_bytes fault v and_read λ bytes. checked_utf8 fault (behind_colon bytes)
