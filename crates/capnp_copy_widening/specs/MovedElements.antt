-- Elements of lists that move to wider structs of a new list. (Encoding, "Lists")
use Rattle.std.specs.Prelude.{◌≡◌, ℕ, ◌+◌, ◌*◌, ◌^◌, ◌<◌, ◌≤◌, List, ◌++◌, None, Ok, true}
use Rattle.std.specs.Option.{is_some}
use Rattle.capnp_model.specs.Sections.{words_for}
use Rattle.capnp_model.specs.Segments.{Segments, Place, after, words_at}
use Rattle.capnp_model.specs.Pointers.{found_at}
use Rattle.capnp_model.specs.Schemas.{shape, no_fields}
use Rattle.capnp_model.specs.Trees.{Tree, struct_list, element_count}
use Rattle.capnp_model.specs.Coverage.{Span}
use Rattle.capnp_model.specs.Edits.{widened_list}
use Rattle.capnp_units.specs.Sizes.{size_number}
use Rattle.capnp_wire_objects.specs.Places.{place_view}
use Rattle.capnp_wire.specs.Elements.{element_bits, element_pointers}
use Rattle.capnp_model_writes.specs.Detached.{Detached}
use Rattle.capnp_model_writes.specs.NewObjects.{zero_elements}
use Rattle.capnp_copy_arenas.specs.Lists.{object_of_list}
use Rattle.capnp_copy_arenas.specs.declared.fields.StructPlace.{StructPlace}
use Rattle.capnp_copy_arenas.specs.declared.init.ListPlace.{ListPlace}
use Rattle.capnp_copy_widening.specs.Moves.{CopiesWords, MovesRow}

-- A list as one of structs of at least n data words and pointers, as an edit under a schema widens
-- it.
abbrev pub as_structs : ℕ → ℕ → Tree → Tree
as_structs d k t = widened_list (shape 0 d k None no_fields) t

-- The data words of an element as a struct, and its pointers.
abbrev pub least_data_words : ListPlace → ℕ
least_data_words o = words_for (element_bits (size_number o.size) o.data_words)

abbrev pub least_pointers : ListPlace → ℕ
least_pointers o = element_pointers (size_number o.size) o.pointers

-- Where an element of a list of structs begins, behind the tag.
abbrev pub struct_begin : ListPlace → ℕ → Place
struct_begin o i = after (after (place_view o.start) 1) (i * (o.data_words + o.pointers))

-- What a struct holds moves to another: its data words are copied, then its children move.
abbrev pub MovesElement : Segments → Segments → StructPlace → StructPlace → List Span → Type 0
MovesElement s u from to pads =
    (x : Segments) × CopiesWords s x (place_view from.start) (place_view to.start) from.data_words × MovesRow x u (after (place_view from.start) from.data_words) (after (place_view to.start) to.data_words) from.pointers pads

-- The structs of a list are there, behind its tag.
abbrev pub HasStructs : Segments → ListPlace → Type 0
HasStructs s o = (is_some (words_at s (after (place_view o.start) 1) (o.count * (o.data_words + o.pointers))) ≡ true) × (o.start.position + 1 + o.count * (o.data_words + o.pointers) < 2 ^ 61)

-- The pointers of a list are there.
abbrev pub HasPointers : Segments → ListPlace → Type 0
HasPointers s o = (is_some (words_at s (place_view o.start) o.count) ≡ true) × (o.start.position + o.count < 2 ^ 61)

-- A list is there, as one of its kind.
pub record HasList (s : Segments) (o : ListPlace) : Type 0 where
  pub structs : size_number o.size ≡ 7 → HasStructs s o
  pub pointers : size_number o.size ≡ 6 → HasPointers s o
  pub counted : size_number o.size < 7 → o.claimed ≡ o.count
  pub near : o.start.position < 2 ^ 61

-- A new list of structs is there, of as many elements as the old one, and as wide or wider.
pub record HasWider (s : Segments) (old new : ListPlace) : Type 0 where
  pub of_structs : size_number new.size ≡ 7
  pub as_many : new.count ≡ old.count
  pub there : HasStructs s new
  pub wide : (least_data_words old ≤ new.data_words) × (least_pointers old ≤ new.pointers)

-- A value is of the list there: one of structs has the sections and the count that its tag says.
abbrev pub IsOfList : ListPlace → Tree → Type 0
IsOfList o (struct_list w m es) = (w ≡ o.data_words) × (m ≡ o.pointers) × (element_count es ≡ o.count)
IsOfList o t = Unit {0}

-- A list of structs of zeros and nulls.
abbrev pub zeros_at : ListPlace → Tree
zeros_at o = struct_list o.data_words o.pointers (zero_elements o.count o.pointers)

-- Whatever value the old list has, where the new one stands beside it: the new list gets its elements as structs.
abbrev pub FillsAsStructs : Segments → Segments → ListPlace → ListPlace → List Span → Type 0
FillsAsStructs s u old new pads =
    (n q : ℕ) (z : Segments) (p : Place) (t : Tree) (spare : List Span)
    → IsOfList old t → found_at s p ≡ Ok (record { pads = q; object = object_of_list old }) → Detached n z s p t (pads ++ spare) (object_of_list new) (zeros_at new)
    → (v : Tree) × Detached n z u p v spare (object_of_list new) (as_structs new.data_words new.pointers t)
