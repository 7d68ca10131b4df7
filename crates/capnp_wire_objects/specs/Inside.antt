-- The contents of an object: its own words, and the values of its pointers. (Encoding, "Structs", "Lists")
use Rattle.std.specs.Prelude.{ℕ, ◌*◌, ◌%◌, ◌^◌, List, [], Option, Some, None, unwrap_or}
use Rattle.capnp_model.specs.Chains.{◌>>=◌}
use Rattle.capnp_model.specs.Sections.{words_for, section_of}
use Rattle.capnp_model.specs.Segments.{Segments, Place, after, words_at}
use Rattle.capnp_model.specs.Trees.{Tree, null, capability, structure, plain_list, pointer_list, struct_list}
use Rattle.capnp_model.specs.Traversal.{each, each_element, cost_each, cost_elements}
use Rattle.capnp_model.specs.Coverage.{from_each, from_elements}
use Rattle.capnp_units.specs.Sizes.{size_number, data_bits}
use Rattle.capnp_wire_objects.specs.declared.object.Object.{Object}
use Rattle.capnp_wire_objects.specs.declared.object.Object.TheVariants as object
use Rattle.capnp_wire_objects.specs.Places.{place_view}

-- The section of words, if there are words.
abbrev pub section_in : Option (List ℕ) → ℕ
section_in None = 0
section_in (Some words) = section_of words

-- The section of n words from a place on.
unfoldable pub section_at : Segments → Place → ℕ → ℕ
section_at s p n = section_in (words_at s p n)

-- n words from a place on, or `None` if they aren't there.
unfoldable pub words_there : Segments → Place → ℕ → List ℕ
words_there s p n = unwrap_or (words_at s p n) []

-- The tree of an object whose pointers are read by `below`.
abbrev pub tree_in : Segments → (Place → Option Tree) → Object → Option Tree
tree_in s below object.Null = Some null
tree_in s below (object.Capability i) = Some (capability i)
tree_in s below (object.Struct p d k) = each below (after (place_view p) d) k >>= λ ts. Some (structure d (section_at s (place_view p) d) ts)
tree_in s below (object.List p size n) =
    let bits = data_bits (size_number size) * n in Some (plain_list (size_number size) n (section_at s (place_view p) (words_for bits) % 2 ^ bits))
tree_in s below (object.PointerList p n) = each below (place_view p) n >>= λ ts. Some (pointer_list ts)
tree_in s below (object.StructList p words n d k) = each_element below (place_view p) (words_there s (place_view p) words) d k n >>= λ es. Some (struct_list d k es)

-- The cost of following the pointers in an object.
abbrev pub cost_in : (Place → ℕ) → Object → ℕ
cost_in below (object.Struct p d k) = cost_each below (after (place_view p) d) k
cost_in below (object.PointerList p n) = cost_each below (place_view p) n
cost_in below (object.StructList p words n d k) = cost_elements below (place_view p) d k n
cost_in below _ = 0

-- The visits at the pointers in an object.
abbrev pub met_in : {A : Type 0} → (Place → List A) → Object → List A
met_in below (object.Struct p d k) = from_each below (after (place_view p) d) k
met_in below (object.PointerList p n) = from_each below (place_view p) n
met_in below (object.StructList p words n d k) = from_elements below (place_view p) d k n
met_in below _ = []
