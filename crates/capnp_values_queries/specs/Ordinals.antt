-- What a clause reads of an enumerant: its enum and its ordinal.
use Rattle.std.specs.Prelude.{ℕ}
use Rattle.capnp_values_queries.specs.declared.enums.EnumSchema.{EnumSchema}
use Rattle.capnp_values_queries.specs.declared.enumerants.Enumerant.{Enumerant}
use Rattle.capnp_values_queries.specs.declared.enumerants.EnumerantList.{EnumerantList}

abbrev pub SeenEnumerant : Type 0
SeenEnumerant = EnumSchema × ℕ

abbrev pub seen_enumerant : Enumerant → SeenEnumerant
seen_enumerant e = (e.parent, e.ordinal)

-- The enumerant at an index of a list.
abbrev pub enumerated_at : EnumerantList → ℕ → SeenEnumerant
enumerated_at list i = (list.parent, i)
