-- What contracts see of enums and enumerants.
use Rattle.std.specs.Prelude.{ℕ, ◌≡◌, ◌≤◌, ◌&&◌, Bool, true, Option, Some, None, option_map, List, [], length, slice_get}
use Rattle.std.specs.List.{list_all}
use Rattle.capnp_model.specs.Schemas.{Annotation, Enumerant as EnumerantNode, Node}
use Rattle.capnp_records.specs.Sets.{nodes_of, enumerants_found}
use Rattle.capnp_values_queries.specs.Fields.{are_named, are_few}
use Rattle.capnp_values_queries.specs.declared.enums.EnumSchema.{EnumSchema}

-- The nodes of the enum's set.
abbrev pub nodes_of_enum : EnumSchema → List Node
nodes_of_enum e = nodes_of e.set.now

-- The id of the enum.
abbrev pub enum_id : EnumSchema → ℕ
enum_id e = e.raw.id

-- The enumerants as the node says them.
abbrev pub enumerants_recorded : EnumSchema → List EnumerantNode
enumerants_recorded e = elim (enumerants_found (nodes_of_enum e) (enum_id e)) [ None ↦ [] | Some es ↦ es ]

-- The annotations of the enumerant of an ordinal as the node says them.
abbrev pub enumerant_annotations : EnumSchema → ℕ → Option (List Annotation)
enumerant_annotations e i = option_map (λ x. x.annotations) (slice_get (enumerants_recorded e) i)

-- How many enumerants there are.
abbrev pub enumerant_count : EnumSchema → ℕ
enumerant_count e = length (enumerants_recorded e)

-- What an enumerant's annotations name is there, and they are few.
abbrev pub is_named_enumerant : List Node → EnumerantNode → Bool
is_named_enumerant nodes e = are_named nodes e.annotations && are_few e.annotations

-- The enumerants of the enum of an id, in nodes that are accepted.
pub record AreEnumerantsOf (nodes : List Node) (id : ℕ) (es : List EnumerantNode) : Type 0 where
  pub found : enumerants_found nodes id ≡ Some es
  pub named : list_all (is_named_enumerant nodes) es ≡ true
  pub few : length es ≤ 65535

-- What the node says of the enumerant of an ordinal.
pub record IsEnumerantRecord (s : EnumSchema) (ordinal : ℕ) (e : EnumerantNode) : Type 0 where
  pub recorded : slice_get (enumerants_recorded s) ordinal ≡ Some e
  pub named : is_named_enumerant (nodes_of_enum s) e ≡ true
