-- The number in the first eight bytes.
use Rattle.std.proofs.Common.{◌≡◌, ℕ, ◌<◌, ◌≤◌, List, [], ◌∷◌, length, slice_index, arith}
use Rattle.std.specs.Int.{w64, from_le_bytes}
use Rattle.capnp_model.specs.Sections.{bits_at, number_of}

pub first_eight : (bytes : List ℕ) → 8 ≤ length bytes
    → slice_index bytes 0 < 256 → slice_index bytes 1 < 256 → slice_index bytes 2 < 256 → slice_index bytes 3 < 256
    → slice_index bytes 4 < 256 → slice_index bytes 5 < 256 → slice_index bytes 6 < 256 → slice_index bytes 7 < 256
    → from_le_bytes w64 (slice_index bytes 0 ∷ slice_index bytes 1 ∷ slice_index bytes 2 ∷ slice_index bytes 3 ∷ slice_index bytes 4 ∷ slice_index bytes 5 ∷ slice_index bytes 6 ∷ slice_index bytes 7 ∷ []) ≡ bits_at 0 64 (number_of 8 bytes)
first_eight [] long ha hb hc hd he hf hg hh = omega arith
first_eight (a ∷ []) long ha hb hc hd he hf hg hh = omega arith
first_eight (a ∷ b ∷ []) long ha hb hc hd he hf hg hh = omega arith
first_eight (a ∷ b ∷ c ∷ []) long ha hb hc hd he hf hg hh = omega arith
first_eight (a ∷ b ∷ c ∷ d ∷ []) long ha hb hc hd he hf hg hh = omega arith
first_eight (a ∷ b ∷ c ∷ d ∷ e ∷ []) long ha hb hc hd he hf hg hh = omega arith
first_eight (a ∷ b ∷ c ∷ d ∷ e ∷ f ∷ []) long ha hb hc hd he hf hg hh = omega arith
first_eight (a ∷ b ∷ c ∷ d ∷ e ∷ f ∷ g ∷ []) long ha hb hc hd he hf hg hh = omega arith
first_eight (a ∷ b ∷ c ∷ d ∷ e ∷ f ∷ g ∷ h ∷ more) long ha hb hc hd he hf hg hh = omega arith
