-- The bytes of texts and data, in place. (Encoding, "Blobs")
use Rattle.std.specs.Prelude.{◌≡◌, ℕ, ◌+◌, ◌*◌, ◌≤◌, if◌then◌else◌, List, [], length}
use Rattle.std.specs.Option.{is_some}
use Rattle.capnp_model.specs.Sections.{numbers_in, number_of, with_bits, words_for}
use Rattle.capnp_model.specs.Segments.{Segments, words_at}
use Rattle.capnp_model.specs.Pointers.{a_list}
use Rattle.capnp_model.specs.Trees.{plain_list}
use Rattle.capnp_wire_objects.specs.declared.place.Place as code
use Rattle.capnp_wire_objects.specs.Places.{place_view}
use Rattle.capnp_wire.specs.Views.{section_at}
use Rattle.capnp_model_writes.specs.Footprints.{OwnsObject}
use Rattle.capnp_model_writes.specs.Changes.{ReplacesObject}
use Rattle.capnp_copy_arenas.specs.declared.bytes.BlobPlace.{BlobPlace}

-- Whatever list of at least n bytes lies there: these are its first.
abbrev pub HasBytes : Segments → BlobPlace → List ℕ → Type 0
HasBytes s o bytes = (n m section : ℕ) → o.count ≤ m → OwnsObject n s (a_list (place_view o.start) 2 m) (plain_list 2 m section) → bytes ≡ numbers_in 8 o.count section

-- The bytes at the front of the words there, `None` where the words aren't there. This is what is
-- lent, whether a list lies there or not.
abbrev pub bytes_lent : Segments → BlobPlace → List ℕ
bytes_lent s o =
    let words = words_for (8 * o.count) in
    if is_some (words_at s (place_view o.start) words) then numbers_in 8 o.count (section_at s (place_view o.start) words) else []

-- Whatever list of bytes lies there, with bytes enough: from one on they become these, and nothing else changes.
abbrev pub SetsBytes : Segments → Segments → code.Place → ℕ → List ℕ → Type 0
SetsBytes s u start at bytes =
    (n m section : ℕ) → at + length bytes ≤ m → OwnsObject n s (a_list (place_view start) 2 m) (plain_list 2 m section)
    → ReplacesObject n s u (a_list (place_view start) 2 m) (plain_list 2 m (with_bits (8 * at) (8 * length bytes) (number_of 8 bytes) section))
