-- The sizes of values: the words of their objects, and their capabilities.
use Rattle.std.specs.Prelude.{ℕ, ◌+◌, ◌*◌}
use Rattle.capnp_model.specs.Sections.{words_for}
use Rattle.capnp_model.specs.Trees.{Tree, null, capability, structure, plain_list, pointer_list, struct_list, Trees, none, ◌▸◌, Elements, no_elements, element, size_bits, tree_count}

unfoldable mutual
  -- The words of a value's objects at every depth, without those that a list claims for no element.
  pub object_words : Tree → ℕ
  object_words null = 0
  object_words (capability i) = 0
  object_words (structure words section kids) = words + tree_count kids + each_object_words kids
  object_words (plain_list size n section) = words_for (size_bits size * n)
  object_words (pointer_list ts) = tree_count ts + each_object_words ts
  object_words (struct_list words pointers es) = 1 + element_object_words words es

  -- The words of the objects of values in a row, at every depth.
  pub each_object_words : Trees → ℕ
  each_object_words none = 0
  each_object_words (t ▸ ts) = object_words t + each_object_words ts

  -- The words of elements with n data words each, and those of their objects at every depth.
  pub element_object_words : ℕ → Elements → ℕ
  element_object_words words no_elements = 0
  element_object_words words (element section kids es) = words + tree_count kids + each_object_words kids + element_object_words words es

unfoldable mutual
  -- How many capabilities there are in a value.
  pub capability_count : Tree → ℕ
  capability_count null = 0
  capability_count (capability i) = 1
  capability_count (structure words section kids) = each_capability_count kids
  capability_count (plain_list size n section) = 0
  capability_count (pointer_list ts) = each_capability_count ts
  capability_count (struct_list words pointers es) = element_capability_count es

  -- How many there are in values in a row.
  pub each_capability_count : Trees → ℕ
  each_capability_count none = 0
  each_capability_count (t ▸ ts) = capability_count t + each_capability_count ts

  -- How many there are in elements.
  pub element_capability_count : Elements → ℕ
  element_capability_count no_elements = 0
  element_capability_count (element section kids es) = each_capability_count kids + element_capability_count es
