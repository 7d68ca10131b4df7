-- New objects without children, and the pointers to them.
use Rattle.std.specs.Prelude.{◌≡◌, ℕ, zero, suc, ◌+◌, ◌*◌, ◌%◌, ◌^◌, ◌<◌, ◌≤◌, List, [], ◌∷◌, length, replicate, Some}
use Rattle.capnp_model.specs.Sections.{section_of, words_for}
use Rattle.capnp_model.specs.Segments.{Segments, Place, word_at, words_at}
use Rattle.capnp_model.specs.Pointers.{Object, a_struct, a_list}
use Rattle.capnp_model.specs.Trees.{Tree, structure, plain_list, pointer_list, struct_list, none, resized, Elements, no_elements, element, size_bits}
use Rattle.capnp_model.specs.Coverage.{span, times_held}
use Rattle.capnp_model.specs.Encoding.{struct_pointer, list_pointer}
use Rattle.capnp_model_writes.specs.Footprints.{footprint}
use Rattle.capnp_model_writes.specs.Changes.{Changes}
use Rattle.capnp_model_writes.specs.Writes.{with_words}

-- A new object.
pub data New : Type 0 where
  -- the data words and the pointers
  new_struct : ℕ → ℕ → New
  -- zeros: the size of an element, and the count
  new_list : ℕ → ℕ → New
  -- the size of an element, the count, and the words
  filled_list : ℕ → ℕ → List ℕ → New
  -- how many nulls
  new_pointers : ℕ → New
  -- the count, and the data words and the pointers of each
  new_structs : ℕ → ℕ → ℕ → New

-- Its words.
abbrev pub new_words : New → List ℕ
new_words (new_struct d k) = replicate (d + k) 0
new_words (new_list size count) = replicate (words_for (size_bits size * count)) 0
new_words (filled_list size count ws) = ws
new_words (new_pointers count) = replicate count 0
new_words (new_structs count d k) = struct_pointer count d k ∷ replicate (count * (d + k)) 0

-- Its pointer's word, by the offset.
abbrev pub new_pointer : ℕ → New → ℕ
new_pointer offset (new_struct d k) = struct_pointer offset d k
new_pointer offset (new_list size count) = list_pointer offset size count
new_pointer offset (filled_list size count ws) = list_pointer offset size count
new_pointer offset (new_pointers count) = list_pointer offset 6 count
new_pointer offset (new_structs count d k) = list_pointer offset 7 (count * (d + k))

-- The object, where it begins at a place.
abbrev pub new_object : Place → New → Object
new_object p (new_struct d k) = a_struct p d k
new_object p (new_list size count) = a_list p size count
new_object p (filled_list size count ws) = a_list p size count
new_object p (new_pointers count) = a_list p 6 count
new_object p (new_structs count d k) = a_list p 7 (count * (d + k))

-- n elements of zeros, with k nulls each.
abbrev pub zero_elements : ℕ → ℕ → Elements
zero_elements zero k = no_elements
zero_elements (suc count) k = element 0 (resized k none) (zero_elements count k)

-- Its value.
abbrev pub new_tree : New → Tree
new_tree (new_struct d k) = structure d 0 (resized k none)
new_tree (new_list size count) = plain_list size count 0
new_tree (filled_list size count ws) = plain_list size count (section_of ws % 2 ^ (size_bits size * count))
new_tree (new_pointers count) = pointer_list (resized count none)
new_tree (new_structs count d k) = struct_list d k (zero_elements count k)

-- Its numbers fit into their parts of pointer and tag.
abbrev pub Fits : New → Type 0
Fits (new_struct d k) = (d < 2 ^ 16) × (k < 2 ^ 16)
Fits (new_list size count) = (size < 6) × (count < 2 ^ 29)
Fits (filled_list size count ws) = (size < 6) × (count < 2 ^ 29) × (length ws ≡ words_for (size_bits size * count))
Fits (new_pointers count) = count < 2 ^ 29
Fits (new_structs count d k) = (count < 2 ^ 29) × (d < 2 ^ 16) × (k < 2 ^ 16) × (count * (d + k) < 2 ^ 29)

-- ---- pointers

-- The word of a far pointer to a pad of one word. (Encoding, "Inter-Segment Pointers")
abbrev pub far_pointer : Place → ℕ
far_pointer pad = 2 + 8 * pad.position + 2 ^ 32 * pad.segment

-- The word of a far pointer to a pad of two words. (Encoding, "Inter-Segment Pointers")
abbrev pub double_far_pointer : Place → ℕ
double_far_pointer pad = 6 + 8 * pad.position + 2 ^ 32 * pad.segment

-- A pointer's word is written.
abbrev pub pointed : Segments → Place → ℕ → Segments
pointed s p w = with_words s p (w ∷ [])

-- A pointer's word is written into a pad, and a far pointer to the pad.
abbrev pub pointed_far : Segments → Place → Place → ℕ → Segments
pointed_far s p pad w = pointed (pointed s pad w) p (far_pointer pad)

-- A pad of two words is written, where the object begins and what it is, and a far pointer to the pad.
abbrev pub pointed_double_far : Segments → Place → Place → Place → ℕ → Segments
pointed_double_far s p pad r w = pointed (with_words s pad (far_pointer r ∷ (w ∷ []))) p (double_far_pointer pad)

-- n words lie between the pointer and the place.
pub record IsOffsetTo (p r : Place) (offset : ℕ) : Type 0 where
  pub same : r.segment ≡ p.segment
  pub gap : p.position + 1 + offset ≡ r.position
  pub short : offset < 2 ^ 29

-- A far pointer can name the place.
pub record IsNamed (r : Place) : Type 0 where
  pub segment_fits : r.segment < 2 ^ 32
  pub position_fits : r.position < 2 ^ 29

-- From s to u the value at p became null, and k words from r on are these and belong to no value yet. Values are read suc n levels deep.
pub record Prepared (n : ℕ) (s u : Segments) (p r : Place) (k : ℕ) (ws : List ℕ) : Type 0 where
  pub null_there : word_at u p ≡ Some 0
  pub words_there : words_at u r k ≡ Some ws
  pub changes : Changes s u (footprint (suc n) s p) (times_held (span p 1 ∷ span r k ∷ []))
  pub apart : (q : Place) → times_held (span p 1 ∷ span r k ∷ []) q ≤ 1
