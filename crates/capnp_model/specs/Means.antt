-- What the value at a place is, as a relation by cases.
use Rattle.std.specs.Prelude.{◌≡◌, ℕ, zero, suc, ◌+◌, ◌*◌, ◌%◌, ◌^◌, List, take, drop, Some, Ok}
use Rattle.capnp_model.specs.Sections.{section_of, words_for}
use Rattle.capnp_model.specs.Segments.{Segments, Place, after, words_at}
use Rattle.capnp_model.specs.Pointers.{Object, nothing, a_struct, a_list, a_capability, found_at}
use Rattle.capnp_model.specs.Trees.{Tree, null, capability, structure, plain_list, pointer_list, struct_list, Trees, none, ◌▸◌, Elements, no_elements, element, size_bits}
use Rattle.capnp_model.specs.Traversal.{Tag, tag_in, of_bits, of_pointers, of_structs, list_kind}

-- The pointer at a place names this object.
abbrev pub Names : Segments → Place → Object → Type 0
Names s p o = (pads : ℕ) × (found_at s p ≡ Ok (record { pads = pads; object = o }))

mutual
  -- The value at a place is this tree, followed at most n levels deep. (Encoding, "Value Encoding")
  pub data Means : ℕ → Segments → Place → Tree → Type 0 where
    means_null : {n : ℕ} {s : Segments} {p : Place} → Names s p nothing → Means n s p null
    means_capability : {n : ℕ} {s : Segments} {p : Place} {i : ℕ} → Names s p (a_capability i) → Means n s p (capability i)
    means_struct : {n : ℕ} {s : Segments} {p : Place} (q : Place) (d k : ℕ) (ws : List ℕ) {ts : Trees} → Names s p (a_struct q d k) → words_at s q (d + k) ≡ Some ws → MeansEach n s (after q d) k ts → Means (suc n) s p (structure d (section_of (take d ws)) ts)
    means_plain : {n : ℕ} {s : Segments} {p : Place} (q : Place) (size count : ℕ) (ws : List ℕ) → Names s p (a_list q size count) → list_kind size ≡ of_bits → words_at s q (words_for (size_bits size * count)) ≡ Some ws → Means (suc n) s p (plain_list size count (section_of ws % 2 ^ (size_bits size * count)))
    means_pointers : {n : ℕ} {s : Segments} {p : Place} (q : Place) (size count : ℕ) (ws : List ℕ) {ts : Trees} → Names s p (a_list q size count) → list_kind size ≡ of_pointers → words_at s q count ≡ Some ws → MeansEach n s q count ts → Means (suc n) s p (pointer_list ts)
    means_structs : {n : ℕ} {s : Segments} {p : Place} (q : Place) (size count : ℕ) (ws : List ℕ) (tag : Tag) {es : Elements} → Names s p (a_list q size count) → list_kind size ≡ of_structs → words_at s q (1 + count) ≡ Some ws → tag_in ws ≡ Ok tag → MeansElements n s (after q 1) (drop 1 ws) tag.data_words tag.pointers tag.count es → Means (suc n) s p (struct_list tag.data_words tag.pointers es)

  -- The values of n pointers in a row are these trees.
  pub data MeansEach : ℕ → Segments → Place → ℕ → Trees → Type 0 where
    means_none : {n : ℕ} {s : Segments} {p : Place} → MeansEach n s p zero none
    means_next : {n k : ℕ} {s : Segments} {p : Place} {t : Tree} {ts : Trees} → Means n s p t → MeansEach n s (after p 1) k ts → MeansEach n s p (suc k) (t ▸ ts)

  -- The elements of a list of structs, whose words these are: with d data words and k pointers
  -- each, and n of them.
  pub data MeansElements : ℕ → Segments → Place → List ℕ → ℕ → ℕ → ℕ → Elements → Type 0 where
    means_no_elements : {n d k : ℕ} {s : Segments} {p : Place} {ws : List ℕ} → MeansElements n s p ws d k zero no_elements
    means_element : {n d k count : ℕ} {s : Segments} {p : Place} {ws : List ℕ} {ts : Trees} {es : Elements} → MeansEach n s (after p d) k ts → MeansElements n s (after p (d + k)) (drop (d + k) ws) d k count es → MeansElements n s p ws d k (suc count) (element (section_of (take d ws)) ts es)
