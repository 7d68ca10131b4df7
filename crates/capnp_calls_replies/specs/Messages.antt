-- The values of messages, where they are read.
use Rattle.std.specs.Prelude.{ℕ, ℤ, ◌≡◌, Option, Some, None, List, []}
use Rattle.capnp_model.specs.Kinds.{TypeMismatch}
use Rattle.capnp_model.specs.Segments.{root}
use Rattle.capnp_model.specs.Trees.{Tree}
use Rattle.capnp_model.specs.Schemas.{Schema}
use Rattle.capnp_model.specs.Readings.{record_as, record_of}
use Rattle.capnp_model.specs.Calls.{object, refused_by, message_root, struct_content}
use Rattle.capnp_wire_objects.specs.declared.arena.NullArena.{NullArena}
use Rattle.capnp_wire.specs.declared.backing.Backing.{Backing}
use Rattle.capnp_wire.specs.Views.{backing_bytes, pointer_at, StructView}
use Rattle.capnp_values.specs.Standing.{LeadsToValue, IsRecord}

-- The bytes of the one segment.
abbrev pub kept_bytes : Backing NullArena → List (List ℕ)
kept_bytes b = backing_bytes (λ a. []) b

-- The root leads to the value.
abbrev pub RootLeadsTo : List (List ℕ) → ℤ → Tree → Type 0
RootLeadsTo bytes nesting t = LeadsToValue 64 (pointer_at bytes nesting root) t

-- The value, where null counts as the empty struct, is read as a struct, with its record under each schema; or it is none.
abbrev pub IsMessageStruct : Tree → Option StructView → Type 0
IsMessageStruct t (Some v) = (struct_content (message_root t) ≡ object (message_root t)) × ((s : Schema) (id : ℕ) → IsRecord s (s.shape_of id) v (record_as (record_of s id (message_root t))))
IsMessageStruct t None = struct_content (message_root t) ≡ refused_by TypeMismatch
