-- The nodes of a schema, as they are told to people.
use Rattle.std.specs.Prelude.{ℕ, ◌==◌, if◌then◌else◌, List, [], ◌∷◌}
use Rattle.std.specs.List.{list_any}
use Rattle.capnp_records.specs.declared.node.EnumerantRecord.{EnumerantRecord}
use Rattle.capnp_records.specs.declared.node.FieldRecord.{FieldRecord}
use Rattle.capnp_records.specs.declared.node.NodeBody.{NodeBody}
use Rattle.capnp_records.specs.declared.node.NodeBody.TheVariants as kind

-- What stands behind the last colon of a name, all of it where it has none.
unfoldable pub behind_colons : List ℕ → List ℕ
behind_colons [] = []
behind_colons (b ∷ bs) = if list_any (λ x. x == 58) (b ∷ bs) then behind_colons bs else b ∷ bs

-- The fields of a node; none of an enum.
abbrev pub fields_of_body : NodeBody → List FieldRecord
fields_of_body (kind.Struct s) = s.fields.items
fields_of_body (kind.Enum es) = []

-- The enumerants of a node; none of a struct.
abbrev pub enumerants_of_body : NodeBody → List EnumerantRecord
enumerants_of_body (kind.Struct s) = []
enumerants_of_body (kind.Enum es) = es.items
