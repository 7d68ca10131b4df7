-- What the copy of an object takes.
use Rattle.std.specs.Prelude.{⊤, ◌<◌, ℕ, ◌+◌, ◌*◌, ◌^◌, ◌≤◌, ◌⊎◌, max, Bool, true, false}
use Rattle.capnp_model.specs.Sections.{words_for}
use Rattle.capnp_model.specs.Segments.{Place}
use Rattle.capnp_model.specs.Pointers as model
use Rattle.capnp_model.specs.Trees.{Tree, null, capability}
use Rattle.capnp_model.specs.Encoding.{struct_pointer, list_pointer}
use Rattle.capnp_units.specs.Sizes.{size_number, data_bits}
use Rattle.capnp_wire_objects.specs.declared.object.Object.{Object}
use Rattle.capnp_wire_objects.specs.declared.object.Object.TheVariants as object

-- The words of the copy, without a pad. Words that a list of structs claims behind its elements aren't copied. (Encoding, "Structs", "Lists")
abbrev pub copied_words : Object → ℕ
copied_words object.Null = 0
copied_words (object.Capability i) = 0
copied_words (object.Struct p d k) = d + k
copied_words (object.List p size n) = words_for (data_bits (size_number size) * n)
copied_words (object.PointerList p n) = n
copied_words (object.StructList p words n d k) = 1 + n * (d + k)

-- The greatest number that the copy's pointer or tag counts by 29 bits: elements, or the words of structs.
abbrev pub most_counted : Object → ℕ
most_counted object.Null = 0
most_counted (object.Capability i) = 0
most_counted (object.Struct p d k) = 0
most_counted (object.List p size n) = n
most_counted (object.PointerList p n) = n
most_counted (object.StructList p words n d k) = max n (n * (d + k))

-- The copy, where it begins at a place.
abbrev pub copied_at : Place → Object → model.Object
copied_at r object.Null = model.nothing
copied_at r (object.Capability i) = model.a_capability i
copied_at r (object.Struct p d k) = model.a_struct r d k
copied_at r (object.List p size n) = model.a_list r (size_number size) n
copied_at r (object.PointerList p n) = model.a_list r 6 n
copied_at r (object.StructList p words n d k) = model.a_list r 7 (n * (d + k))

-- The word of a pointer to the copy, told with offset 0.
abbrev pub copied_pointer : Object → ℕ
copied_pointer object.Null = 0
copied_pointer (object.Capability i) = 3 + 2 ^ 32 * i
copied_pointer (object.Struct p d k) = struct_pointer 0 d k
copied_pointer (object.List p size n) = list_pointer 0 (size_number size) n
copied_pointer (object.PointerList p n) = list_pointer 0 6 n
copied_pointer (object.StructList p words n d k) = list_pointer 0 7 (n * (d + k))

-- The copy passes what a message can have that has n words: a count, or the words with a pad.
abbrev pub IsTooLarge : Object → ℕ → Type 0
IsTooLarge o total = (2 ^ 29 ≤ most_counted o) ⊎ (2 ^ 29 ≤ total + (copied_words o + 1))

-- An object that takes no level, and lies in its pointer's word.
abbrev pub is_leaf : Object → Bool
is_leaf object.Null = true
is_leaf (object.Capability i) = true
is_leaf _ = false

-- Its value.
abbrev pub leaf_value : Object → Tree
leaf_value (object.Capability i) = capability i
leaf_value _ = null

-- Its numbers fit into their parts of pointer and tag.
abbrev pub IsSpelled : Object → Type 0
IsSpelled object.Null = ⊤
IsSpelled (object.Capability i) = ⊤
IsSpelled (object.Struct p d k) = (d < 2 ^ 16) × (k < 2 ^ 16)
IsSpelled (object.List p size n) = n < 2 ^ 29
IsSpelled (object.PointerList p n) = n < 2 ^ 29
IsSpelled (object.StructList p words n d k) = (n < 2 ^ 29) × (d < 2 ^ 16) × (k < 2 ^ 16) × (n * (d + k) < 2 ^ 29)
