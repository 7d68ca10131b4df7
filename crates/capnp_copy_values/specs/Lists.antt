-- Lists that are copied by their parts.
use Rattle.std.specs.Prelude.{⊤, ℕ, ◌+◌, ◌*◌, ◌%◌, ◌^◌, List, Option, Some, Result}
use Rattle.capnp_model.specs.Chains.{◌>>=◌}
use Rattle.capnp_model.specs.Sections.{number_of, words_of}
use Rattle.capnp_model.specs.Segments.{Place}
use Rattle.capnp_model.specs.Trees.{Tree, plain_list, pointer_list, struct_list}
use Rattle.capnp_model.specs.Traversal.{tree_at, each, each_element}
use Rattle.capnp_model.specs.Visits.{visits}
use Rattle.capnp_units.specs.declared.errors.Error.{Error}
use Rattle.capnp_units.specs.declared.sizes.ElementSize.{ElementSize}
use Rattle.capnp_units.specs.declared.sizes.ElementSize.TheVariants.{Pointer, InlineComposite}
use Rattle.capnp_units.specs.Sizes.{size_number}
use Rattle.capnp_wire_objects.specs.declared.object.Object as wire
use Rattle.capnp_wire_objects.specs.declared.object.Object.TheVariants as object
use Rattle.capnp_wire_objects.specs.Places.{place_view}
use Rattle.capnp_wire_objects.specs.Inside.{met_in}
use Rattle.capnp_wire.specs.Elements.{step_bits, step_words}
use Rattle.capnp_copy_values.specs.Copies.{CopySource, CopyOf, copy_of, LimitedWords, object_put, ObjectGives}
use Rattle.capnp_copy_values.specs.declared.lists.ListSource.{ListSource}

-- The bits of its elements, and the words of its pointers or structs.
abbrev pub listed_bits : ListSource → ℕ
listed_bits x = step_bits (size_number x.size) x.data_words x.pointers * x.count

abbrev pub listed_words : ListSource → ℕ
listed_words x = step_words (size_number x.size) x.data_words x.pointers * x.count

-- The section of the elements that these bytes hold: what lies behind the last isn't looked at. (Encoding, "Lists")
abbrev pub listed_section : ListSource → List ℕ → ℕ
listed_section x bytes = number_of 8 bytes % 2 ^ listed_bits x

-- The object that such a list is, by the size of its elements. No words are claimed behind structs.
abbrev pub object_of_size : ElementSize → ListSource → wire.Object
object_of_size Pointer x = object.PointerList x.start x.count
object_of_size InlineComposite x = object.StructList x.start 0 x.count x.data_words x.pointers
object_of_size size x = object.List x.start size x.count

-- Its tree, by the size and the section of its elements, where `below` reads its pointers.
abbrev pub tree_of_size : ElementSize → (Place → Option Tree) → ListSource → ℕ → Option Tree
tree_of_size Pointer below x section = each below (place_view x.start) x.count >>= λ ts. Some (pointer_list ts)
tree_of_size InlineComposite below x section =
    each_element below (place_view x.start) (words_of (x.count * (x.data_words + x.pointers)) section) x.data_words x.pointers x.count >>= λ es. Some (struct_list x.data_words x.pointers es)
tree_of_size size below x section = Some (plain_list (size_number size) x.count section)

-- The object, and the tree.
abbrev pub listed_object : ListSource → wire.Object
listed_object x = object_of_size x.size x

abbrev pub listed_tree : (Place → Option Tree) → ListSource → List ℕ → Option Tree
listed_tree below x bytes = tree_of_size x.size below x (listed_section x bytes)

-- A list that is read by its parts: what its elements are, and the bytes that hold them.
pub record ListParts : Type 0 where
  pub list : ListSource
  pub bytes : List ℕ

abbrev pub list_parts : ListSource → List ℕ → ListParts
list_parts list bytes = record { list = list; bytes = bytes }

-- Its tree; n levels may be followed from each of its pointers.
abbrev pub copy_of_list : CopySource ListParts → CopyOf Tree
copy_of_list x = copy_of x.segments (listed_tree (tree_at x.levels x.segments) x.what.list x.what.bytes) (met_in (visits x.levels x.segments) (listed_object x.what.list))

-- A list of its size is put in place of the value of the pointer at p, as its whole tree.
abbrev pub CopiesList : CopySource ListParts → Place → LimitedWords → Result ⊤ Error → LimitedWords → Type 0
CopiesList x p = ObjectGives (copy_of_list x) (object_put x.levels (listed_object x.what.list) p)
