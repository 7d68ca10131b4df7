-- Objects whose words are there.
use Rattle.std.specs.Prelude.{◌≡◌, ℕ, ◌+◌, ◌*◌, ◌^◌, ◌==◌, ◌<◌, ◌≤◌, true, if◌then◌else◌, List, Result, Ok}
use Rattle.std.specs.Option.{ok_or, is_some}
use Rattle.capnp_model.specs.Kinds.{Kind, OutOfBounds}
use Rattle.capnp_model.specs.Chains.{◌and_then◌}
use Rattle.capnp_model.specs.Sections.{words_for}
use Rattle.capnp_model.specs.Segments.{Segments, Place, after, words_at}
use Rattle.capnp_model.specs.Pointers as model
use Rattle.capnp_model.specs.Traversal.{ListKind, of_bits, of_pointers, of_structs, list_kind, list_words, tag_in}
use Rattle.capnp_units.specs.declared.sizes.ElementSize.{ElementSize}
use Rattle.capnp_units.specs.declared.sizes.ElementSize.TheVariants.{Void, Bit, Byte, TwoBytes, FourBytes, EightBytes}
use Rattle.capnp_units.specs.Sizes.{size_number, data_bits}
use Rattle.capnp_wire_objects.specs.declared.object.Object.{Object}
use Rattle.capnp_wire_objects.specs.declared.object.Object.TheVariants as object
use Rattle.capnp_wire_objects.specs.declared.object.Found.{Found}
use Rattle.capnp_wire_objects.specs.Places.{place_view, placed}

-- The size of plain elements of a number. (Encoding, "Lists")
abbrev pub plain_size : ℕ → ElementSize
plain_size n = if n == 0 then Void else (if n == 1 then Bit else (if n == 2 then Byte else (if n == 3 then TwoBytes else (if n == 4 then FourBytes else EightBytes))))

-- A list with these words.
abbrev pub whole_list : Place → ListKind → ℕ → ℕ → List ℕ → Result Object Kind
whole_list p of_bits size n ws = Ok (object.List (placed p) (plain_size size) n)
whole_list p of_pointers size n ws = Ok (object.PointerList (placed p) n)
whole_list p of_structs size n ws = tag_in ws and_then λ t. Ok (object.StructList (placed (after p 1)) n t.count t.data_words t.pointers)

-- The object that a pointer names, if its words are there and those of a list of structs hold its elements. (Encoding,
-- "Structs", "Lists")
abbrev pub whole : Segments → model.Object → Result Object Kind
whole s model.nothing = Ok object.Null
whole s (model.a_capability i) = Ok (object.Capability i)
whole s (model.a_struct p d k) = ok_or (words_at s p (d + k)) OutOfBounds and_then λ _. Ok (object.Struct (placed p) d k)
whole s (model.a_list p size n) = ok_or (words_at s p (list_words (list_kind size) size n)) OutOfBounds and_then λ ws. whole_list p (list_kind size) size n ws

-- The object that the pointer at a place names, otherwise the kind of its fault.
unfoldable pub object_at : Segments → Place → Result Found Kind
object_at s p = model.found_at s p and_then λ f. whole s f.object and_then λ o. Ok (record { pads = f.pads; object = o })

-- The words from a place on are there, in a segment that fits into memory.
abbrev pub AreThere : Segments → Place → ℕ → Type 0
AreThere s p n = (is_some (words_at s p n) ≡ true) × (p.position + n < 2 ^ 61)

-- The words of the object are there, and those of a list of structs hold its elements.
abbrev pub IsInside : Segments → Object → Type 0
IsInside s object.Null = Unit {0}
IsInside s (object.Struct p d k) = AreThere s (place_view p) (d + k)
IsInside s (object.List p size n) = (size_number size < 6) × AreThere s (place_view p) (words_for (data_bits (size_number size) * n))
IsInside s (object.PointerList p n) = AreThere s (place_view p) n
IsInside s (object.StructList p words n d k) = AreThere s (place_view p) words × (n * (d + k) ≤ words)
IsInside s (object.Capability i) = Unit {0}
