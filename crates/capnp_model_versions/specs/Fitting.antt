-- Values that fit their spelling, by parts: the numbers in them, and the lengths of their lists.
use Rattle.std.specs.Prelude.{ℕ, ◌+◌, ◌*◌, ◌^◌, ◌≡◌, ◌<◌, List, length}
use Rattle.std.specs.List.{AllByRecursion}
use Rattle.capnp_model.specs.Trees.{Tree, null, capability, structure, plain_list, pointer_list, struct_list, Trees, none, ◌▸◌, Elements, no_elements, element, size_bits, tree_count, element_count}
use Rattle.capnp_model.specs.Schemas.{NodeKind, struct_node, enum_node, Node}
use Rattle.capnp_model.specs.Accepted.{IsAccepted}
use Rattle.capnp_model.specs.Calls.{Verb, set_to, initn, enumerant, text_value, blob_value, message, Call}

abbrev mutual
  -- Every number of a value is within the bits that spell it, and every section within its words.
  pub NumbersFit : Tree → Type 0
  NumbersFit null = Unit {0}
  NumbersFit (capability i) = i < 2 ^ 32
  NumbersFit (structure words section kids) = (words < 2 ^ 16) × (tree_count kids < 2 ^ 16) × (section < 2 ^ (64 * words)) × AllNumbersFit kids
  NumbersFit (plain_list size n section) = (size < 6) × (section < 2 ^ (size_bits size * n))
  NumbersFit (pointer_list ts) = AllNumbersFit ts
  NumbersFit (struct_list words pointers es) = (words < 2 ^ 16) × (pointers < 2 ^ 16) × ElementNumbersFit words pointers es

  -- Those of each of the values are.
  pub AllNumbersFit : Trees → Type 0
  AllNumbersFit none = Unit {0}
  AllNumbersFit (t ▸ ts) = NumbersFit t × AllNumbersFit ts

  -- Those of elements of exactly these sizes are.
  pub ElementNumbersFit : ℕ → ℕ → Elements → Type 0
  ElementNumbersFit words pointers no_elements = Unit {0}
  ElementNumbersFit words pointers (element section kids es) = (section < 2 ^ (64 * words)) × (tree_count kids ≡ pointers) × AllNumbersFit kids × ElementNumbersFit words pointers es

abbrev mutual
  -- No list of a value is longer than a list pointer can say: fewer than 2^29 elements, or words of elements.
  pub HasShortLists : Tree → Type 0
  HasShortLists (structure words section kids) = AllHaveShortLists kids
  HasShortLists (plain_list size n section) = n < 2 ^ 29
  HasShortLists (pointer_list ts) = (tree_count ts < 2 ^ 29) × AllHaveShortLists ts
  HasShortLists (struct_list words pointers es) = (element_count es < 2 ^ 30) × (element_count es * (words + pointers) < 2 ^ 29) × ElementsHaveShortLists es
  HasShortLists t = Unit {0}

  -- No list of each of the values is.
  pub AllHaveShortLists : Trees → Type 0
  AllHaveShortLists none = Unit {0}
  AllHaveShortLists (t ▸ ts) = HasShortLists t × AllHaveShortLists ts

  -- No list of the elements is.
  pub ElementsHaveShortLists : Elements → Type 0
  ElementsHaveShortLists no_elements = Unit {0}
  ElementsHaveShortLists (element section kids es) = AllHaveShortLists kids × ElementsHaveShortLists es

-- A verb as calls hold it: an enum value of sixteen bits, and a message whose numbers fit.
abbrev pub IsSpelledVerb : Verb → Type 0
IsSpelledVerb (set_to (enumerant n)) = n < 2 ^ 16
IsSpelledVerb (set_to (message t)) = NumbersFit t
IsSpelledVerb _ = Unit {0}

-- A verb that neither holds nor makes a list that is too long, of whatever type. A text has a zero byte at its end.
abbrev pub HoldsShortLists : Verb → Type 0
HoldsShortLists (set_to (text_value bs)) = length bs + 1 < 2 ^ 29
HoldsShortLists (set_to (blob_value bs)) = length bs < 2 ^ 29
HoldsShortLists (set_to (message t)) = HasShortLists t
HoldsShortLists (initn n) = n + 1 < 2 ^ 29
HoldsShortLists _ = Unit {0}

-- Section sizes of sixteen bits, as a struct pointer spells them.
abbrev pub HasSmallSections : NodeKind → Type 0
HasSmallSections (struct_node s) = (s.words < 2 ^ 16) × (s.pointers < 2 ^ 16)
HasSmallSections (enum_node es) = Unit {0}

-- All of the nodes have.
abbrev pub HaveSmallSections : List Node → Type 0
HaveSmallSections nodes = AllByRecursion (λ n. HasSmallSections n.kind) nodes

-- An accepted schema with section sizes of sixteen bits, and calls as calls hold them.
pub record AreSpelled (nodes : List Node) (calls : List Call) : Type 0 where
  pub accepted : IsAccepted nodes
  pub small : HaveSmallSections nodes
  pub verbs : AllByRecursion (λ c. IsSpelledVerb c.verb) calls
