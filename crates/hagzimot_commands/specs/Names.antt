-- Names that a printed value can't be told apart from.
use Rattle.std.specs.Prelude.{ℕ, ◌==◌, ◌||◌, nat_le, Bool, Option, Some, None, option_map, find, List, [], ◌∷◌, codes, string_bytes}
use Rattle.std.specs.List.{list_any}
use Rattle.std.specs.Option.{option_or}
use Rattle.capnp_records.specs.declared.node.EnumerantRecord.{EnumerantRecord}
use Rattle.capnp_records.specs.declared.node.FieldRecord.{FieldRecord}
use Rattle.capnp_records.specs.declared.node.NodeRecord.{NodeRecord}
use Rattle.hagzimot_schemas.specs.Nodes.{enumerants_of_body, fields_of_body}
use Rattle.hagzimot_commands.specs.declared.names.NamedMember.{NamedMember}

-- A byte that can be taken for a mark of a printed value, or for the end of a line: a blank, a control character, or one of these.
abbrev pub is_mark : ℕ → Bool
is_mark b = nat_le b 32 || (b == 127 || list_any (λ m. b == m) (codes "\"(),;<=>[\\]"))

-- A name with such a byte.
abbrev pub is_marked : List ℕ → Bool
is_marked name = list_any is_mark name

-- The first field, and the first enumerant, with such a name.
abbrev pub marked_field : List FieldRecord → Option FieldRecord
marked_field fields = find (λ f. is_marked (string_bytes f.name)) fields

abbrev pub marked_enumerant : List EnumerantRecord → Option EnumerantRecord
marked_enumerant enumerants = find (λ e. is_marked (string_bytes e.name)) enumerants

-- The first such name of a node.
abbrev pub marked_name : NodeRecord → Option (List ℕ)
marked_name n = option_or (option_map (λ f. string_bytes f.name) (marked_field (fields_of_body n.body))) (option_map (λ e. string_bytes e.name) (marked_enumerant (enumerants_of_body n.body)))

-- A node and its name, if it has one, or else what others have.
abbrev pub member_or : NodeRecord → Option (List ℕ) → Option (NodeRecord × List ℕ) → Option (NodeRecord × List ℕ)
member_or n (Some name) others = Some (n, name)
member_or n None others = others

-- The first node that has such a name, and its first.
abbrev pub first_marked : List NodeRecord → Option (NodeRecord × List ℕ)
first_marked [] = None
first_marked (n ∷ nodes) = member_or n (marked_name n) (first_marked nodes)

-- The member, as the code has it.
abbrev pub member_view : NamedMember → NodeRecord × List ℕ
member_view m = (m.node.now, m.name.now)
