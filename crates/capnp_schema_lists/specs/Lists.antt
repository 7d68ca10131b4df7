-- Lists that are written where they lie. (Encoding, "Lists")
use Rattle.std.specs.Prelude.{◌≡◌, ◌≢◌, ℕ, suc, ◌<◌, ◌≤◌}
use Rattle.capnp_model.specs.Coverage.{Grows}
use Rattle.capnp_model.specs.Segments.{Segments}
use Rattle.capnp_model.specs.Trees.{Tree, plain_list, pointer_list, struct_list, tree_count, element_count, size_bits}
use Rattle.capnp_model.specs.Schemas.{Shape, words_of_shape, pointers_of_shape}
use Rattle.capnp_model.specs.Edits.{Edit, edit_list}
use Rattle.capnp_units.specs.Sizes.{size_number}
use Rattle.capnp_model_writes.specs.Footprints.{OwnsObject}
use Rattle.capnp_model_writes.specs.Changes.{ReplacesObject}
use Rattle.capnp_copy_arenas.specs.Elements.{IsWhole}
use Rattle.capnp_copy_arenas.specs.Lists.{object_of_list}
use Rattle.capnp_copy_arenas.specs.declared.init.ListPlace.{ListPlace}

-- A list lies whole, and its pointer counts its elements, or the words of its structs.
pub record IsListThere (s : Segments) (o : ListPlace) : Type 0 where
  pub whole : IsWhole s o
  pub counted : size_number o.size < 7 → o.claimed ≡ o.count

-- A value is a list of the elements that the place tells of.
abbrev pub IsListOf : ListPlace → Tree → Type 0
IsListOf o (plain_list size n section) = (size ≡ size_number o.size) × (size < 6) × (n ≡ o.count)
IsListOf o (pointer_list ts) = (size_number o.size ≡ 6) × (tree_count ts ≡ o.count)
IsListOf o (struct_list d k es) = (size_number o.size ≡ 7) × (d ≡ o.data_words) × (k ≡ o.pointers) × (element_count es ≡ o.count)
IsListOf o t = ⊥

-- Each element has n bits at its front: a plain one, or a struct's data.
pub record HasElementBits (o : ListPlace) (width : ℕ) : Type 0 where
  pub plain : size_number o.size ≢ 7 → (size_number o.size < 6) × (width ≤ size_bits (size_number o.size))
  pub structs : size_number o.size ≡ 7 → (0 < o.data_words) × (width ≤ 64)

-- Each element has a pointer: it is one, or a struct with one.
pub record HasPointer (o : ListPlace) : Type 0 where
  pub pointers : size_number o.size ≢ 7 → size_number o.size ≡ 6
  pub structs : size_number o.size ≡ 7 → 0 < o.pointers

-- The elements are structs of at least the sizes of a shape.
pub record HasSizes (o : ListPlace) (g : Shape) : Type 0 where
  pub structs : size_number o.size ≡ 7
  pub words : words_of_shape g ≤ o.data_words
  pub pointers : pointers_of_shape g ≤ o.pointers

-- Whatever elements the list has: the one at an index becomes what the edit makes of it, and nothing else changes.
abbrev pub EditsElement : Segments → Segments → ListPlace → (ℕ → ℕ → Edit) → ℕ → Type 0
EditsElement s u o f k = (n : ℕ) (t : Tree) → IsListOf o t → OwnsObject n s (object_of_list o) t → ReplacesObject n s u (object_of_list o) (edit_list f k t)

-- Whatever elements the list has: the one at an index becomes what the edit makes of it, where one
-- level of pointers may be new, and nothing else changes.
abbrev pub DeepensElement : Segments → Segments → ListPlace → (ℕ → ℕ → Edit) → ℕ → Type 0
DeepensElement s u o f k = (n : ℕ) (t : Tree) → IsListOf o t → OwnsObject n s (object_of_list o) t → ReplacesObject (suc n) s u (object_of_list o) (edit_list f k t)

-- Whatever elements the list has: each segment of the message is there later too, and no shorter.
abbrev pub GrowsIn : Segments → Segments → ListPlace → Type 0
GrowsIn s u o = (n : ℕ) (t : Tree) → IsListOf o t → OwnsObject n s (object_of_list o) t → Grows s u
