-- Versions of a schema, from the structs at their roots on. (Schema language, "Evolving Your Protocol")
use Rattle.std.specs.Prelude.{◌≡◌, Bool, List}
use Rattle.capnp_model.specs.Trees.{Tree}
use Rattle.capnp_model.specs.Calls.{Call}
use Rattle.capnp_model.specs.Projection.{projected}
use Rattle.capnp_model.specs.Partners.{Renaming, renamed}
use Rattle.capnp_model.specs.Compatible.{IsCompatible, IsCompatibleWith}
use Rattle.capnp_model.specs.Admitted.{is_admitted, is_admitted_with}
use Rattle.capnp_model_versions.specs.RenamedViews.{projected_with}
use Rattle.capnp_values_queries.specs.Structs.{schema_around, id_of}
use Rattle.capnp_values_queries.specs.declared.structs.StructSchema.{StructSchema}
use Rattle.capnp_calls.specs.Roots.{record_at}
use Rattle.capnp_calls_versions.specs.declared.breaks.Break.{Break}
use Rattle.capnp_calls_versions.specs.Breaks.{BreaksFrom}
use Rattle.capnp_calls_versions.specs.AllBreaks.{AllBreaksOf}

-- The newer schema is compatible with the older.
abbrev pub AreVersions : StructSchema → StructSchema → Type 0
AreVersions older newer = IsCompatible (schema_around older) (schema_around newer) (id_of older) (id_of newer)

-- The newer schema, with renamed fields, is compatible with the older.
abbrev pub AreVersionsWith : List Renaming → StructSchema → StructSchema → Type 0
AreVersionsWith rs older newer = IsCompatibleWith rs (schema_around older) (schema_around newer) (id_of older) (id_of newer)

-- What breaks the compatibility, where fields are renamed.
abbrev pub IsBreakBetween : List Renaming → StructSchema → StructSchema → Break → Type 0
IsBreakBetween rs older newer b = BreaksFrom (renamed rs (schema_around older)) (schema_around newer) (id_of older) (id_of newer) b

-- All that breaks it.
abbrev pub AreBreaksBetween : List Renaming → StructSchema → StructSchema → List Break → Type 0
AreBreaksBetween rs older newer bs = AllBreaksOf (renamed rs (schema_around older)) (schema_around newer) (id_of older) (id_of newer) bs

-- The older record of each value is the older view of its newer record.
abbrev pub ReadsAsOlder : StructSchema → StructSchema → Type 0
ReadsAsOlder older newer = (t : Tree) → record_at older t ≡ projected (schema_around older) (id_of older) (record_at newer t)

-- The older record of each value is the older view of its newer record with renamed fields, each by
-- its older name.
abbrev pub ReadsAsOlderWith : List Renaming → StructSchema → StructSchema → Type 0
ReadsAsOlderWith rs older newer = (t : Tree) → record_at older t ≡ projected_with rs (schema_around older) (id_of older) (record_at newer t)

-- A call under the older schema is admitted beside the newer.
abbrev pub is_admitted_under : StructSchema → StructSchema → Call → Bool
is_admitted_under older newer c = is_admitted (schema_around older) (schema_around newer) (id_of older) (id_of newer) c

-- A call under the older schema is admitted beside the newer, with renamed fields.
abbrev pub is_admitted_beside_with : List Renaming → StructSchema → StructSchema → Call → Bool
is_admitted_beside_with rs older newer c = is_admitted_with rs (schema_around older) (schema_around newer) (id_of older) (id_of newer) c
