-- The contents of an arena's segments.
use Rattle.std.specs.Prelude.{ℕ, zero, suc, ℤ, pos, negsuc, ◌+◌, ◌-◌, ◌/◌, nat_lt, if◌then◌else◌, List, [], length, slice_get, Option, Some, None, unwrap_or, Result, Ok, Err}
use Rattle.std.specs.Option.{is_some}
use Rattle.capnp_model.specs.Kinds.{Kind, OutOfBounds}
use Rattle.capnp_model.specs.Segments.{Segments, Place, place, after, words_at}

-- The whole words of bytes, if there are bytes.
abbrev pub word_count : Option (List ℕ) → ℕ
word_count None = 0
word_count (Some bytes) = length bytes / 8

-- The bytes of a segment, or no bytes if it isn't there.
abbrev pub segment_bytes : List (List ℕ) → ℕ → List ℕ
segment_bytes segments i = unwrap_or (slice_get segments i) []

-- The words of n segments, from the first on.
abbrev pub words_before : List (List ℕ) → ℕ → ℕ
words_before segments zero = 0
words_before segments (suc n) = words_before segments n + word_count (slice_get segments n)

-- A place at which an object without words may begin. (Encoding, "Structs")
abbrev pub within_segment : Segments → Place → Result Place Kind
within_segment s p = if is_some (words_at s p 0) then Ok p else Err OutOfBounds

-- The place n words after a place, or before it.
abbrev pub moved : Segments → Place → ℤ → Result Place Kind
moved s p (pos n) = within_segment s (after p n)
moved s p (negsuc n) = if nat_lt n p.position then within_segment s (place p.segment (p.position - suc n)) else Err OutOfBounds
