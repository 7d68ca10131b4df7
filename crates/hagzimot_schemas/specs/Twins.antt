-- The structs that two versions of a schema have both.
use Rattle.std.specs.Prelude.{◌≡◌, ℕ, ◌==◌, Bool, true, false, not, ◌&&◌, if◌then◌else◌, Option, Some, None, option_map, List, [], ◌∷◌, string_bytes}
use Rattle.std.specs.Borrow.{Bor}
use Rattle.std.specs.List.{list_any}
use Rattle.std.specs.Map.{lookup}
use Rattle.std.specs.Str.{bytes_eq}
use Rattle.capnp_records.specs.declared.node.NodeBody.{NodeBody}
use Rattle.capnp_records.specs.declared.node.NodeBody.TheVariants as kind
use Rattle.capnp_records.specs.declared.node.NodeRecord.{NodeRecord}

-- A node of this name is a struct of its own: no group, and no generic struct that is bound, whose name has parentheses.
abbrev pub is_own_body : List ℕ → NodeBody → Bool
is_own_body name (kind.Struct s) = not s.is_group && not (list_any (λ b. b == 40) name)
is_own_body name (kind.Enum es) = false

abbrev pub is_own_struct : NodeRecord → Bool
is_own_struct n = is_own_body (string_bytes n.display_name) n.body

-- One of the nodes is such a struct with this id.
abbrev pub has_struct : List NodeRecord → ℕ → Bool
has_struct nodes i = list_any (λ n. is_own_struct n && (n.id == i)) nodes

-- The id of the last of the nodes that is such a struct with this name, or else one that was found before.
abbrev pub struct_named_from : Option ℕ → List NodeRecord → List ℕ → Option ℕ
struct_named_from found [] name = found
struct_named_from found (n ∷ nodes) name = struct_named_from (if is_own_struct n && bytes_eq (string_bytes n.display_name) name then Some n.id else found) nodes name

abbrev pub struct_named : List NodeRecord → List ℕ → Option ℕ
struct_named nodes name = struct_named_from None nodes name

-- The newer struct of an older one: that of its id or, if there is none, the last of its name.
abbrev pub twin_of : List NodeRecord → NodeRecord → Option ℕ
twin_of newer n = if has_struct newer n.id then Some n.id else struct_named newer (string_bytes n.display_name)

-- An older node and the newer struct, if it is a struct that has one.
abbrev pub paired : List NodeRecord → NodeRecord → Option (ℕ × ℕ)
paired newer n = if is_own_struct n then option_map (λ j. (n.id, j)) (twin_of newer n) else None

-- The name, unless there is a newer struct.
abbrev pub name_unless : List ℕ → Option ℕ → Option (List ℕ)
name_unless name (Some j) = None
name_unless name None = Some name

-- The name of an older node, if it is a struct that has none.
abbrev pub lacked : List NodeRecord → NodeRecord → Option (List ℕ)
lacked newer n = if is_own_struct n then name_unless (string_bytes n.display_name) (twin_of newer n) else None

-- What the keys of a set find: each id of such a struct among the nodes.
abbrev pub FindsIds : List NodeRecord → List ℕ → Type 0
FindsIds nodes keys = (i : ℕ) → list_any (λ k. i == k) keys ≡ has_struct nodes i

-- What the entries of a map find: the last such struct of each name among the nodes.
abbrev pub FindsNames : List NodeRecord → List (Bor (List ℕ) × ℕ) → Type 0
FindsNames nodes entries = (l : List ℕ) → lookup (λ k. bytes_eq l k.now) entries ≡ struct_named nodes l
