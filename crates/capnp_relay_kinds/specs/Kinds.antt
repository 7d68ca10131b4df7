-- Whether a message is in kind, as it is told.
use Rattle.std.specs.Prelude.{◌≡◌, ◌+◌, min, nat_le, Bool, false, ◌⊎◌, Option, Some, None, Result, Ok, Err}
use Rattle.std.specs.declared.alloc.AllocError.{AllocError}
use Rattle.capnp_model.specs.Chains.{◌>>=◌, ◌provided◌}
use Rattle.capnp_model.specs.Segments.{Segments, Place, root, after}
use Rattle.capnp_model.specs.Trees.{Tree}
use Rattle.capnp_model.specs.Traversal.{tree_at, cost_at}
use Rattle.capnp_model.specs.Visits.{visits}
use Rattle.capnp_model.specs.Schemas.{struct}
use Rattle.capnp_model.specs.InKind.{in_kind}
use Rattle.capnp_units.specs.declared.errors.Error.{Error}
use Rattle.capnp_units.specs.declared.kinds.ErrorKind.TheVariants.{OutOfMemory}
use Rattle.capnp_units.specs.Limits.{left_of}
use Rattle.capnp_units.specs.declared.limiter.ReadLimiter.{ReadLimiter}
use Rattle.capnp_wire_objects.specs.Walks.{Stopped}
use Rattle.capnp_wire_objects.specs.Objects.{AreThere}
use Rattle.capnp_wire_objects.specs.Places.{place_view}
use Rattle.capnp_values_queries.specs.Structs.{schema_around, id_of}
use Rattle.capnp_values_queries.specs.declared.structs.StructSchema.{StructSchema}
use Rattle.capnp_relay_kinds.specs.declared.kinds.Limits.{Limits}
use Rattle.capnp_relay_kinds.specs.declared.structs.Sections.{Sections}

-- ---- a message

-- The value of a message that can be followed within the limits, at most 1,024 levels deep.
abbrev pub value_read : Limits → Segments → Option Tree
value_read limits s = let n = min limits.nesting 1024 in tree_at n s root >>= λ t. t provided nat_le (cost_at n s root) limits.words

-- The value of a message is in kind under its root's schema.
abbrev pub is_value_in_kind : StructSchema → Tree → Bool
is_value_in_kind schema t = in_kind (schema_around schema) t (struct (id_of schema))

-- It is told exactly whether the message's value is in kind; the value is the one within the nesting limit.
pub record IsTold (schema : StructSchema) (limits : Limits) (s : Segments) (told : Bool) : Type 0 where
  pub value : Tree
  pub read : value_read limits s ≡ Some value
  pub there : tree_at limits.nesting s root ≡ Some value
  pub exact : told ≡ is_value_in_kind schema value

-- A list isn't in kind, and memory is wanted to tell the steps to it.
pub record WantsMemory (schema : StructSchema) (limits : Limits) (s : Segments) (e : Error) : Type 0 where
  pub kind_is : e.kind ≡ OutOfMemory
  pub value : Tree
  pub read : value_read limits s ≡ Some value
  pub not_in_kind : is_value_in_kind schema value ≡ false

-- There is no value within the limits. A walk over the root's value is refused by this kind: that of the first fault in
-- the order of reading, or of the first object that costs more words than are left.
pub record IsUnread (limits : Limits) (s : Segments) (e : Error) : Type 0 where
  pub unread : value_read limits s ≡ None
  pub start : ReadLimiter
  pub all : left_of start ≡ Some limits.words
  pub end : ReadLimiter
  pub stopped : Stopped (visits (min limits.nesting 1024) s root) start e end

-- Why it isn't told: there is no value within the limits, or memory is wanted.
abbrev pub IsNotTold : StructSchema → Limits → Segments → Error → Type 0
IsNotTold schema limits s e = IsUnread limits s e ⊎ WantsMemory schema limits s e

-- ---- walks

-- A walk tells whether what it went over is in kind. It wants memory only where that isn't.
abbrev pub Tells : Bool → Result Bool AllocError → Type 0
Tells kind (Ok told) = told ≡ kind
Tells kind (Err e) = kind ≡ false

-- Where the first pointer of a struct stands.
abbrev pub first_pointer : Sections → Place
first_pointer x = after (place_view x.start) x.data_words

-- The words of a struct are there.
abbrev pub AreInside : Segments → Sections → Type 0
AreInside s x = AreThere s (place_view x.start) (x.data_words + x.pointers)
