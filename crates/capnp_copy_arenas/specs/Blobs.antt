-- Texts and data that are written. (Encoding, "Blobs")
use Rattle.std.specs.Prelude.{ℕ, ◌*◌, ◌/◌, nat_lt, if◌then◌else◌, List, [], ◌∷◌, length, take, drop}
use Rattle.capnp_model.specs.Bytes.{words_in_bytes}
use Rattle.capnp_model.specs.Sections.{number_of}
use Rattle.capnp_model.specs.Segments.{Segments, Place, after}
use Rattle.capnp_model_writes.specs.Writes.{with_words}

-- How many words the bytes fill.
abbrev pub whole_of : List ℕ → ℕ
whole_of bytes = length bytes / 8

-- The word of the bytes behind those.
abbrev pub last_of : List ℕ → ℕ
last_of bytes = number_of 8 (drop (8 * whole_of bytes) bytes)

-- The bytes of the words that they fill.
abbrev pub front_of : List ℕ → List ℕ
front_of bytes = take (8 * whole_of bytes) bytes

-- The segments with bytes in place of n words from a place on, which they fill but for the last;
-- what they lack of that one is zero.
abbrev pub with_bytes : Segments → Place → ℕ → List ℕ → Segments
with_bytes s p n bytes =
    if nat_lt (whole_of bytes) n then with_words (with_words s p (words_in_bytes (whole_of bytes) (front_of bytes))) (after p (whole_of bytes)) (last_of bytes ∷ []) else with_words s p (words_in_bytes (whole_of bytes) (front_of bytes))
