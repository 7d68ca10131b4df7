-- The struct that a word names as the root of messages.
use Rattle.std.specs.Prelude.{◌≡◌, ◌≤◌, ℕ, ◌+◌, ◌*◌, ◌-◌, ◌^◌, ◌==◌, nat_lt, nat_le, Bool, true, false, ◌&&◌, ◌||◌, not, if◌then◌else◌, Option, Some, None, List, [], ◌∷◌, ◌++◌, length, codes, string_bytes, ⊤}
use Rattle.std.specs.List.{list_any}
use Rattle.std.specs.Str.{bytes_eq}
use Rattle.capnp_model.specs.Chains.{◌>>=◌, ◌provided◌}
use Rattle.capnp_model.specs.Schemas.{NodeKind, struct_node, enum_node, Node}
use Rattle.hagzimot_schemas.specs.Nodes.{behind_colons}
use Rattle.hagzimot_schemas.specs.declared.names.NodeName.{NodeName}
use Rattle.hagzimot_schemas.specs.declared.names.NodeSort.{NodeSort}
use Rattle.hagzimot_schemas.specs.declared.names.NodeSort.TheVariants.{Struct, Group, Enum}
use Rattle.hagzimot_schemas.specs.declared.roots.RootTrouble.{RootTrouble}
use Rattle.hagzimot_schemas.specs.declared.roots.RootTrouble.TheVariants as R

-- The value of a digit in hex, of either case.
abbrev pub hex_digit : ℕ → Option ℕ
hex_digit b =
    if nat_le 48 b && nat_le b 57 then Some (b - 48) else
    (if nat_le 97 b && nat_le b 102 then Some (b - 87) else
    (if nat_le 65 b && nat_le b 70 then Some (b - 55) else None))

-- The number that digits in a base spell behind those of another number, if it has at most 64 bits.
abbrev pub number_from : ℕ → ℕ → List ℕ → Option ℕ
number_from base n [] = Some n
number_from base n (b ∷ bs) = hex_digit b >>= λ d. if nat_lt d base && nat_lt (n * base + d) (2 ^ 64) then number_from base (n * base + d) bs else None

-- The number that digits spell; none without digits.
abbrev pub number_spelled : ℕ → List ℕ → Option ℕ
number_spelled base [] = None
number_spelled base (b ∷ bs) = number_from base 0 (b ∷ bs)

-- The id that a word spells, in decimal digits, or in hex behind "0x".
abbrev pub id_of_word : List ℕ → Option ℕ
id_of_word (a ∷ b ∷ rest) = if (a == 48) && (b == 120) then number_spelled 16 rest else number_spelled 10 (a ∷ b ∷ rest)
id_of_word (a ∷ []) = number_spelled 10 (a ∷ [])
id_of_word [] = None

-- A word spells an id.
abbrev pub spells : List ℕ → ℕ → Bool
spells word id = elim (id_of_word word) [ Some n ↦ n == id | None ↦ false ]

-- What stands behind the last point among the bytes that are left, or else what stood behind the last one before.
abbrev pub last_from : List ℕ → List ℕ → List ℕ
last_from last [] = last
last_from last (b ∷ bs) = last_from (if b == 46 then bs else last) bs

-- The last part of a path.
abbrev pub last_part : List ℕ → List ℕ
last_part path = last_from path path

-- The names of a node: its id, whether it is a struct that is no group, its whole name with its file's, and its path, the name without it.
pub record NamesOfNode : Type 0 where
  pub id : ℕ
  pub is_struct : Bool
  pub whole : List ℕ
  pub path : List ℕ

-- A sort is that of a struct that is no group.
abbrev pub is_struct_sort : NodeSort → Bool
is_struct_sort Struct = true
is_struct_sort Group = false
is_struct_sort Enum = false

-- The names, as the code has them.
abbrev pub names_view : NodeName → NamesOfNode
names_view n = record { id = n.id; is_struct = is_struct_sort n.sort; whole = string_bytes n.whole; path = string_bytes n.path }

-- A node is a struct that is no group.
abbrev pub is_struct_kind : NodeKind → Bool
is_struct_kind (struct_node s) = not s.is_group
is_struct_kind (enum_node es) = false

-- The whole name of a node of a file; where the file has no name it is part of the node's, if anything.
abbrev pub whole_name : List ℕ → List ℕ → List ℕ
whole_name file name = if length file == 0 then name else (file ++ codes ":") ++ name

-- The names of a node of a file.
abbrev pub names_of_node : Node → List ℕ → NamesOfNode
names_of_node n file = record { id = n.id; is_struct = is_struct_kind n.kind; whole = whole_name file n.name; path = behind_colons n.name }

-- The first of some files, if there is one, and the others.
abbrev pub first_file : List (List ℕ) → List ℕ
first_file [] = []
first_file (file ∷ files) = file

abbrev pub other_files : List (List ℕ) → List (List ℕ)
other_files [] = []
other_files (file ∷ files) = files

-- Names with those of nodes behind them, whose files are told in their order, or not.
abbrev pub names_onto : List NamesOfNode → List Node → List (List ℕ) → List NamesOfNode
names_onto names [] files = names
names_onto names (n ∷ ns) files = names_onto (names ++ (names_of_node n (first_file files) ∷ [])) ns (other_files files)

-- The names of nodes.
abbrev pub names_of : List Node → List (List ℕ) → List NamesOfNode
names_of nodes files = names_onto [] nodes files

-- A word is a struct's id, its path, or its whole name.
abbrev pub names_exactly : List ℕ → NamesOfNode → Bool
names_exactly word n = spells word n.id || (bytes_eq n.path word || bytes_eq n.whole word)

-- A word is the last part of a path. A path with arguments is named as a whole.
abbrev pub names_last : List ℕ → NamesOfNode → Bool
names_last word n = not (list_any (λ b. b == 40) n.path) && bytes_eq (last_part n.path) word

-- Ids with one behind them, if a test takes it.
abbrev pub with_id : List ℕ → ℕ → Bool → List ℕ
with_id ids id true = ids ++ (id ∷ [])
with_id ids id false = ids

-- Ids with those behind them of the structs that a test takes.
abbrev pub structs_onto : (NamesOfNode → Bool) → List ℕ → List NamesOfNode → List ℕ
structs_onto test ids [] = ids
structs_onto test ids (n ∷ ns) = structs_onto test (with_id ids n.id (n.is_struct && test n)) ns

-- The ids of the structs that a test takes.
abbrev pub structs_where : (NamesOfNode → Bool) → List NamesOfNode → List ℕ
structs_where test names = structs_onto test [] names

-- A path has no scope and no arguments.
abbrev pub has_no_scope : NamesOfNode → Bool
has_no_scope n = not (list_any (λ b. b == 46) n.path) && not (list_any (λ b. b == 40) n.path)

-- The first of two lists that has an element.
abbrev pub first_some : List ℕ → List ℕ → List ℕ
first_some xs ys = if length xs == 0 then ys else xs

-- The structs that a word names: those that it names exactly, or else those whose paths' last part it is.
abbrev pub roots_named : List ℕ → List NamesOfNode → List ℕ
roots_named word names = first_some (structs_where (names_exactly word) names) (structs_where (names_last word) names)

-- The refusal of a word that names these structs.
abbrev pub IsRootRefusal : List ℕ → RootTrouble → Type 0
IsRootRefusal ids (R.Ambiguous word structs) = 2 ≤ length ids
IsRootRefusal ids (R.Unknown word nearest) = ids ≡ []
IsRootRefusal ids (R.NoStruct word sort) = ids ≡ []
IsRootRefusal ids (R.NoSingle structs) = ⊥
IsRootRefusal ids R.Memory = ⊤

-- The root that a word names, or without a word the one struct at the top.
abbrev pub IsRootOf : Option (List ℕ) → List NamesOfNode → List ℕ → ℕ → Type 0
IsRootOf (Some word) names tops id = roots_named word names ≡ id ∷ []
IsRootOf None names tops id = tops ≡ id ∷ []
