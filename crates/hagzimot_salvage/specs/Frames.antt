-- Messages in bytes that may be anything. (Encoding, "Serialization Over a Stream")
use Rattle.std.specs.Prelude.{◌≡◌, ℕ, ◌-◌, ◌*◌, ◌/◌, ◌%◌, ◌^◌, ◌<◌, ◌==◌, Bool, true, false, ◌&&◌, ◌||◌, Option, Some, None, is_some, List, length, drop, slice_get}
use Rattle.std.specs.Result.{result_ok}
use Rattle.capnp_model.specs.Chains.{◌>>=◌, ◌provided◌, passes}
use Rattle.capnp_model.specs.Messages.{frame_at}
use Rattle.capnp_units.specs.Segments.{whole_words}
use Rattle.hagzimot_salvage.specs.declared.roots.SalvageLimits.{SalvageLimits}
use Rattle.hagzimot_salvage.specs.Roots.{has_root}

-- In the table of n segments at the front of bytes, the half word behind an even number of lengths is zero.
abbrev pub has_zero_padding : ℕ → List ℕ → Bool
has_zero_padding n bytes = (n % 2 == 1) || passes (λ w. w / 2 ^ 32 == 0) (slice_get (whole_words bytes) (n / 2))

-- How many words the front of bytes has, of which the others are left.
abbrev pub words_of_front : List ℕ → List ℕ → ℕ
words_of_front bytes rest = (length bytes - length rest) / 8

-- The bytes behind the message at the front of bytes, if its padding is zero and it has a root.
abbrev pub behind_frame : SalvageLimits → List ℕ → Option (List ℕ)
behind_frame l bytes =
    result_ok (frame_at (Some l.message_words) bytes) >>= λ m. m.1 provided (has_zero_padding (length m.0) bytes && has_root l (words_of_front bytes m.1) m.0)

-- Bytes begin with a message that has a root, and nothing or another such message follows it.
unfoldable pub is_plausible : SalvageLimits → List ℕ → Bool
is_plausible l bytes = passes (λ rest. (length rest == 0) || is_some (behind_frame l rest)) (behind_frame l bytes)

-- Bytes begin with a message that has a root, or one that nothing or a message with a root follows.
unfoldable pub is_settled : SalvageLimits → List ℕ → Bool
is_settled l bytes = is_some (behind_frame l bytes) || passes (λ m. (length m.1 == 0) || is_some (behind_frame l m.1)) (result_ok (frame_at (Some l.message_words) bytes))

-- No plausible message begins at a word between two bytes.
abbrev pub HasNoneBetween : SalvageLimits → List ℕ → ℕ → ℕ → Type 0
HasNoneBetween l bytes from to = (word : ℕ) → from < 8 * word → 8 * word < to → is_plausible l (drop (8 * word) bytes) ≡ false

-- A plausible message begins at a byte, which is that of a word.
abbrev pub IsFound : SalvageLimits → List ℕ → ℕ → Type 0
IsFound l bytes at = (at % 8 ≡ 0) × (is_plausible l (drop at bytes) ≡ true)

-- The first byte behind another, at a word, that a plausible message begins at.
abbrev pub IsNext : SalvageLimits → List ℕ → ℕ → Option ℕ → Type 0
IsNext l bytes from None = HasNoneBetween l bytes from (length bytes)
IsNext l bytes from (Some at) = (from < at) × (at < length bytes) × IsFound l bytes at × HasNoneBetween l bytes from at
