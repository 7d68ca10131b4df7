-- Arenas in which every value is read whole. (Encoding, "Security Considerations")
use Rattle.std.specs.Prelude.{◌≡◌, ℕ, ℤ, ◌^◌, ◌<◌, ◌≤◌, Some, List}
use Rattle.capnp_model.specs.Answers.{levels}
use Rattle.capnp_units.specs.Segments.{words_in}
use Rattle.capnp_model_writes.specs.Totals.{words_of_segments}

-- Arenas whose messages have fewer than 2^29 words, and in which pointers are followed as deep as those words can go.
pub record IsDeep {A : Type 0} (bytes : A → List (List ℕ)) (nesting : A → ℤ) : Type 0 where
  pub few : (a : A) → words_of_segments (words_in (bytes a)) < 2 ^ 29
  pub deep : (a : A) → (n : ℕ) × (levels (nesting a) ≡ Some n) × (2 ^ 29 ≤ n)
