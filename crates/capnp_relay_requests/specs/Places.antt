-- What stands at places of structs, and behind their pointers, where nothing is paid.
use Rattle.std.specs.Prelude.{ℕ, ◌*◌, ◌==◌, nat_lt, Bool, ◌&&◌, ◌||◌, List, Option, option_map, Result}
use Rattle.std.specs.Result.{result_ok}
use Rattle.capnp_model.specs.Kinds.{Kind}
use Rattle.capnp_model.specs.Chains.{◌and_then◌, ◌>>=◌, ◌provided◌}
use Rattle.capnp_model.specs.Bytes.{bytes_of_words}
use Rattle.capnp_model.specs.Encoding.{canonical_words}
use Rattle.capnp_model.specs.Readings.{field_bits, just_bits}
use Rattle.capnp_model.specs.Trees.{Tree}
use Rattle.capnp_model.specs.Trimming.{trim}
use Rattle.capnp_wire_objects.specs.declared.object.Object.{Object}
use Rattle.capnp_units.specs.declared.sizes.ElementSize.TheVariants.{InlineComposite}
use Rattle.capnp_units.specs.Sizes.{size_number}
use Rattle.capnp_wire.specs.Reads.{object_behind, read_text, read_blob, read_struct, read_list}
use Rattle.capnp_wire.specs.ValueSizes.{tree_behind}
use Rattle.capnp_wire.specs.Views.{PointerView, StructView, ListView}

-- The number of n bits at an offset that counts as many; 0 outside the section. (Encoding,
-- "Structs")
abbrev pub number : ℕ → ℕ → StructView → ℕ
number width offset v = field_bits (just_bits v.bits) v.section (width * offset) width

-- The bit at an offset.
abbrev pub bit : ℕ → StructView → Bool
bit offset v = number 1 offset v == 1

-- What the object that a pointer names reads as.
abbrev pub read_target : {Y : Type 0} → (Object → Result Y Kind) → PointerView → Result Y Kind
read_target read p = object_behind p and_then λ f. read f.object

-- The text behind a pointer without its zero byte, the data, the struct, and the list whose elements can be read as structs. (Encoding, "Structs", "Lists", "Blobs")
abbrev pub text_behind : PointerView → Option (List ℕ)
text_behind p = result_ok (read_target (read_text p.basis p.levels) p)

abbrev pub data_behind : PointerView → Option (List ℕ)
data_behind p = result_ok (read_target (read_blob p.basis p.levels) p)

abbrev pub struct_behind : PointerView → Option StructView
struct_behind p = result_ok (read_target (read_struct p.basis p.levels) p)

abbrev pub list_behind : PointerView → Option ListView
list_behind p = result_ok (read_target (read_list p.basis p.levels InlineComposite) p)

-- The elements of a list stand in words of their own, so that a message has no more of them than words.
abbrev pub has_words : ListView → Bool
has_words l = (l.count == 0) || ((size_number l.size == 7) && (nat_lt 0 l.data_words || nat_lt 0 l.pointers))

-- The list of structs behind a pointer.
abbrev pub structs_behind : PointerView → Option ListView
structs_behind p = list_behind p >>= λ l. l provided has_words l

-- The canonical words of a value, if there is one. (Encoding, "Canonicalization")
abbrev pub words_of_value : Option Tree → Option (List ℕ)
words_of_value value = option_map (λ t. canonical_words (trim t)) value

-- Those of the value behind a pointer.
abbrev pub canonical_words_behind : PointerView → Option (List ℕ)
canonical_words_behind p = p.levels >>= λ n. words_of_value (tree_behind n p.basis.segments p.place)

-- Their bytes.
abbrev pub segment_behind : PointerView → Option (List ℕ)
segment_behind p = option_map bytes_of_words (canonical_words_behind p)
