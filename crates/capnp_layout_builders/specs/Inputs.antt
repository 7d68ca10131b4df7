-- What pointers are set to.
use Rattle.std.specs.Prelude.{ℕ, ◌+◌, ◌*◌, ◌^◌, ◌≤◌, ◌⊎◌}
use Rattle.capnp_model.specs.Sections.{words_for}

-- n bytes are too many for a list, or the list, with a pad counted, is too long for a message that
-- has m words.
abbrev pub IsTooLong : ℕ → ℕ → Type 0
IsTooLong bytes words = (2 ^ 29 ≤ bytes) ⊎ (2 ^ 29 ≤ words + (words_for (8 * bytes) + 1))
