-- What contracts say of two roots.
use Rattle.std.specs.Prelude.{◌≡◌, Bool, List}
use Rattle.capnp_model.specs.Trees.{Tree}
use Rattle.capnp_model.specs.Schemas.{Schema}
use Rattle.capnp_model.specs.Readings.{Record, record_of}
use Rattle.capnp_model.specs.Projection.{projected}
use Rattle.capnp_model.specs.Calls.{Call}
use Rattle.capnp_model.specs.Accepted.{schema_of}
use Rattle.capnp_model.specs.Partners.{Renaming}
use Rattle.capnp_model.specs.Compatible.{IsCompatible, IsCompatibleWith}
use Rattle.capnp_model.specs.Admitted.{is_admitted, is_admitted_with}
use Rattle.capnp_model_versions.specs.RenamedViews.{projected_with}
use Rattle.capnp_records.specs.Sets.{nodes_of}
use Rattle.capnp_calls_versions.specs.declared.root.Root.{Root}

-- The schema of a root's set.
abbrev pub schema_at : Root → Schema
schema_at r = schema_of (nodes_of r.set.now)

-- The newer schema is compatible with the older from the two roots on.
abbrev pub AreRootsCompatible : Root → Root → Type 0
AreRootsCompatible older newer = IsCompatible (schema_at older) (schema_at newer) older.id newer.id

-- The same with renamed fields.
abbrev pub AreRootsCompatibleWith : List Renaming → Root → Root → Type 0
AreRootsCompatibleWith rs older newer = IsCompatibleWith rs (schema_at older) (schema_at newer) older.id newer.id

-- The record of a value under a root.
abbrev pub record_at_root : Root → Tree → Record
record_at_root r t = record_of (schema_at r) r.id t

-- The older record of each value is the older view of its newer record.
abbrev pub IsViewed : Root → Root → Type 0
IsViewed older newer = (t : Tree) → record_at_root older t ≡ projected (schema_at older) older.id (record_at_root newer t)

-- The older record of each value is the older view of its newer record with renamed fields, each by
-- its older name.
abbrev pub IsViewedWith : List Renaming → Root → Root → Type 0
IsViewedWith rs older newer = (t : Tree) → record_at_root older t ≡ projected_with rs (schema_at older) older.id (record_at_root newer t)

-- A call under the older root is admitted beside the newer.
abbrev pub is_admitted_at : Root → Root → Call → Bool
is_admitted_at older newer c = is_admitted (schema_at older) (schema_at newer) older.id newer.id c

-- The same with renamed fields.
abbrev pub is_admitted_with_at : List Renaming → Root → Root → Call → Bool
is_admitted_with_at rs older newer c = is_admitted_with rs (schema_at older) (schema_at newer) older.id newer.id c
