-- What is read and written in a struct's data section, in the words of the model.
use Rattle.std.specs.Prelude.{◌≡◌, ℕ, ◌+◌, ◌*◌, ◌/◌, ◌<◌, ◌≤◌, [], ◌∷◌}
use Rattle.capnp_model.specs.Sections.{bits_at, with_bits}
use Rattle.capnp_model.specs.Segments.{Segments, after}
use Rattle.capnp_model.specs.Pointers.{Object, a_struct}
use Rattle.capnp_model.specs.Trees.{Trees, structure}
use Rattle.capnp_wire_objects.specs.Places.{place_view}
use Rattle.capnp_model_writes.specs.Footprints.{OwnsObject}
use Rattle.capnp_model_writes.specs.Changes.{ReplacesObject}
use Rattle.capnp_model_writes.specs.Writes.{with_words}
use Rattle.capnp_copy_arenas.specs.declared.fields.StructPlace.{StructPlace}

-- The struct there.
abbrev pub object_of_struct : StructPlace → Object
object_of_struct p = a_struct (place_view p.start) p.data_words p.pointers

-- n bits from one on lie in the data section, and in one word of it.
abbrev pub AreInWord : StructPlace → ℕ → ℕ → Type 0
AreInWord p at width = (at + width ≤ 64 * p.data_words) × (at + width ≤ at / 64 * 64 + 64) × (0 < width)

-- Whatever value the struct there has: these bits of its section are the number.
abbrev pub HasBits : Segments → StructPlace → ℕ → ℕ → (ℕ → Type 0) → Type 0
HasBits s p at width Is = (n section : ℕ) (kids : Trees) → OwnsObject n s (object_of_struct p) (structure p.data_words section kids) → Is (bits_at at width section)

-- Whatever value the struct there has: these bits of its section become the number, and nothing else changes.
abbrev pub SetsBits : Segments → Segments → StructPlace → ℕ → ℕ → ℕ → Type 0
SetsBits s u p at width value = (n section : ℕ) (kids : Trees) → OwnsObject n s (object_of_struct p) (structure p.data_words section kids) → ReplacesObject n s u (object_of_struct p) (structure p.data_words (with_bits at width value section) kids)

-- The word of the section in which this bit lies is written, and no other word of the message.
abbrev pub WritesWord : Segments → Segments → StructPlace → ℕ → Type 0
WritesWord s u p at = (word : ℕ) × (u ≡ with_words s (after (place_view p.start) (at / 64)) (word ∷ []))
