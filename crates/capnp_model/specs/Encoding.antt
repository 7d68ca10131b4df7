-- The canonical words of a value. (Encoding, "Canonicalization")
use Rattle.std.specs.Prelude.{ℕ, zero, ◌+◌, ◌-◌, ◌*◌, ◌^◌, List, [], ◌∷◌, ◌++◌, length}
use Rattle.capnp_model.specs.Sections.{words_of, words_for}
use Rattle.capnp_model.specs.Trees.{Tree, null, capability, structure, plain_list, pointer_list, struct_list, Trees, none, ◌▸◌, Elements, no_elements, element, size_bits, tree_count, element_count}

-- A struct pointer. An offset counts the words between the pointer's end and the object. (Encoding, "Structs")
abbrev pub struct_pointer : ℕ → ℕ → ℕ → ℕ
struct_pointer offset d k = 4 * offset + 2 ^ 32 * d + 2 ^ 48 * k

-- A list pointer. (Encoding, "Lists")
abbrev pub list_pointer : ℕ → ℕ → ℕ → ℕ
list_pointer offset size n = 1 + 4 * offset + 2 ^ 32 * size + 2 ^ 35 * n

-- The pointer to a value that begins n words behind it. An empty struct lies at the pointer itself,
-- at offset -1.
abbrev pub pointer : ℕ → Tree → ℕ
pointer gap null = 0
pointer gap (structure zero section none) = struct_pointer (2 ^ 30 - 1) 0 0
pointer gap (structure words section kids) = struct_pointer gap words (tree_count kids)
pointer gap (plain_list size n section) = list_pointer gap size n
pointer gap (pointer_list ts) = list_pointer gap 6 (tree_count ts)
pointer gap (struct_list d k es) = list_pointer gap 7 (element_count es * (d + k))
pointer gap (capability i) = 3 + 2 ^ 32 * i

abbrev mutual
  -- The words of a value behind its pointer: its own, with the pointers in them, and then the words of each of those in turn.
  pub body : Tree → List ℕ
  body null = []
  body (structure words section kids) = words_of words section ++ (links 0 0 kids ++ bodies kids)
  body (plain_list size n section) = words_of (words_for (size_bits size * n)) section
  body (pointer_list ts) = links 0 0 ts ++ bodies ts
  body (struct_list d k es) = struct_pointer (element_count es) d k ∷ (cells 0 d k es ++ element_bodies es)
  body (capability i) = []

  -- Pointers in a row, with n words of the object behind them, and m words of other targets before
  -- theirs.
  pub links : ℕ → ℕ → Trees → List ℕ
  links behind before none = []
  links behind before (t ▸ ts) = pointer (tree_count ts + behind + before) t ∷ links behind (before + length (body t)) ts

  -- The words of the targets of pointers in a row.
  pub bodies : Trees → List ℕ
  bodies none = []
  bodies (t ▸ ts) = body t ++ bodies ts

  -- The words of the elements of a list of structs, with n words of other targets before theirs.
  pub cells : ℕ → ℕ → ℕ → Elements → List ℕ
  cells before d k no_elements = []
  cells before d k (element section kids es) =
      words_of d section ++ (links (element_count es * (d + k)) before kids ++ cells (before + length (bodies kids)) d k es)

  -- The words of the targets of the pointers in a list's elements.
  pub element_bodies : Elements → List ℕ
  element_bodies no_elements = []
  element_bodies (element section kids es) = bodies kids ++ element_bodies es

-- The one segment of a value: the root word and what lies behind it.
unfoldable pub canonical_words : Tree → List ℕ
canonical_words t = pointer 0 t ∷ body t
