-- Gets are the model's readings of the value.
use Rattle.std.specs.Prelude.{◌≡◌, ℕ, suc, ◌*◌, ◌<◌, slice_index, List, [], Option, Some, None, Result, Ok, Err}
use Rattle.capnp_model.specs.Kinds.{Kind, WrongPointerKind}
use Rattle.capnp_model.specs.Segments.{Place}
use Rattle.capnp_model.specs.Trees.{Tree, null, structure, plain_list, pointer_list, struct_list, Trees, none, ◌▸◌, child, tree_count, Elements, no_elements, element, element_count, size_bits, plain_elements}
use Rattle.capnp_model.specs.Traversal.{tree_at}
use Rattle.capnp_model.specs.Schemas.{Schema, Ty, text, blob, struct, list}
use Rattle.capnp_model.specs.Readings.{Reading, null_pointer, fault, text_of, blob_of, expected_size, read}
use Rattle.capnp_wire_objects.specs.declared.object.Found.{Found}
use Rattle.capnp_units.specs.declared.sizes.ElementSize.{ElementSize}
use Rattle.capnp_units.specs.declared.sizes.ElementSize.TheVariants.{Pointer, InlineComposite}
use Rattle.capnp_units.specs.Sizes.{size_number}
use Rattle.capnp_wire_objects.specs.Objects.{object_at}
use Rattle.capnp_wire.specs.Levels.{level_below}
use Rattle.capnp_wire.specs.Views.{Ground, StructView, pointer_field, ListView, element_as_struct}
use Rattle.capnp_wire.specs.Reads.{read_struct, read_blob, read_text, read_list}

-- The bytes of a text or of data, by what they read as; null has none.
abbrev pub bytes_read : Reading → Result (List ℕ) Kind
bytes_read null_pointer = Ok []
bytes_read (text_of bytes) = Ok bytes
bytes_read (blob_of bytes) = Ok bytes
bytes_read (fault kind) = Err kind
bytes_read _ = Err WrongPointerKind

-- What `below` reads behind a pointer that may be none.
abbrev pub reads_behind : (Place → Option Tree) → Option Place → Option Tree
reads_behind below None = Some null
reads_behind below (Some p) = below p

-- The pointer at each index leads to the child there, and past the last to null.
abbrev pub ShowsChildren : (Place → Option Tree) → StructView → Trees → Type 0
ShowsChildren below v kids = (i : ℕ) → reads_behind below (pointer_field v i).place ≡ Some (child kids i)

-- A struct as it is read has the sections and the children of the value.
abbrev pub ShowsStruct : (Place → Option Tree) → StructView → Tree → Type 0
ShowsStruct below v null = (v.section ≡ 0) × (v.bits ≡ 0) × ShowsChildren below v none
ShowsStruct below v (structure words section kids) = (v.section ≡ section) × (v.bits ≡ 64 * words) × ShowsChildren below v kids
ShowsStruct below v _ = ⊥

-- An element of a list of structs, or of a list of pointers, as a struct.
abbrev pub ShowsElement : (Place → Option Tree) → StructView → ℕ → ℕ → Trees → Type 0
ShowsElement below v bits section kids = (v.section ≡ section) × (v.bits ≡ bits) × ShowsChildren below v kids

-- The elements from the ith on are those of the list as it is read, each with its section and its children.
abbrev pub ShowsElements : (Place → Option Tree) → ListView → ℕ → Elements → Type 0
ShowsElements below l i no_elements = Unit {0}
ShowsElements below l i (element section kids es) = ShowsElement below (element_as_struct l i) (64 * l.data_words) section kids × ShowsElements below l (suc i) es

-- A list as it is read has the size, the count and the elements of the value. A plain element that
-- is read as a struct has exactly its bits.
abbrev pub ShowsList : (Place → Option Tree) → ListView → Tree → Type 0
ShowsList below l null = l.count ≡ 0
ShowsList below l (plain_list size n section) =
    (size_number l.size ≡ size) × (l.count ≡ n) × ((i : ℕ) → i < n → ShowsElement below (element_as_struct l i) (size_bits size) (slice_index (plain_elements size n section) i) none)
ShowsList below l (pointer_list kids) = (l.size ≡ Pointer) × (l.count ≡ tree_count kids) × ((i : ℕ) → i < tree_count kids → ShowsElement below (element_as_struct l i) 0 0 (child kids i ▸ none))
ShowsList below l (struct_list words pointers es) = (l.size ≡ InlineComposite) × (l.count ≡ element_count es) × (l.data_words ≡ words) × ShowsElements below l 0 es
ShowsList below l _ = ⊥

-- What is known where a value is read at a place over a basis, with levels of which one is left.
pub record IsRead (n : ℕ) (p : Place) (f : Found) (t : Tree) (g : Ground) (levels : Option ℕ) : Type 0 where
  pub found : object_at g.segments p ≡ Ok f
  pub tree : tree_at (suc n) g.segments p ≡ Some t
  pub below : Option ℕ
  pub level : level_below levels ≡ Ok below

-- Data and texts are the bytes that the value reads as, and are refused by the kind by which it does.
abbrev pub BytesAreRead : Type 0
BytesAreRead = (n : ℕ) (p : Place) (f : Found) (t : Tree) (g : Ground) (levels : Option ℕ) (s : Schema) → IsRead n p f t g levels
    → (read_blob g levels f.object ≡ bytes_read (read s t blob)) × (read_text g levels f.object ≡ bytes_read (read s t text))

-- A struct that is read shows the value; it is refused by the kind by which the value is, read as a struct.
abbrev pub StructsAreRead : Type 0
StructsAreRead = (n : ℕ) (p : Place) (f : Found) (t : Tree) (g : Ground) (levels : Option ℕ) → IsRead n p f t g levels
    → ((v : StructView) → read_struct g levels f.object ≡ Ok v → ShowsStruct (tree_at n g.segments) v t)
    × ((kind : Kind) (s : Schema) (id : ℕ) → read_struct g levels f.object ≡ Err kind → read s t (struct id) ≡ fault kind)

-- A list that is read shows the value; it is refused by the kind by which the value is, read as a list of the type.
abbrev pub ListsAreRead : Type 0
ListsAreRead = (n : ℕ) (p : Place) (f : Found) (t : Tree) (g : Ground) (levels : Option ℕ) (expected : ElementSize) → IsRead n p f t g levels
    → ((l : ListView) → read_list g levels expected f.object ≡ Ok l → ShowsList (tree_at n g.segments) l t)
    × ((kind : Kind) (s : Schema) (ty : Ty) → size_number expected ≡ expected_size ty → read_list g levels expected f.object ≡ Err kind → read s t (list ty) ≡ fault kind)
