-- Whether words are canonical. (Encoding, "Canonicalization")
use Rattle.std.specs.Prelude.{ℕ, Bool, false, not, List, [], ◌∷◌, length, Option}
use Rattle.std.specs.Str.{bytes_eq}
use Rattle.capnp_model.specs.Chains.{◌>>=◌, ◌provided◌, passes}
use Rattle.capnp_model.specs.Segments.{Segments, Place, root, words_at}
use Rattle.capnp_model.specs.Trees.{has_capability}
use Rattle.capnp_model.specs.Trimming.{trim}
use Rattle.capnp_model.specs.Traversal.{tree_at}
use Rattle.capnp_model.specs.Encoding.{canonical_words}

-- The canonical words of the value at a place, where it is there within n levels and has no
-- capability.
abbrev pub canonical_at : ℕ → Segments → Place → Option (List ℕ)
canonical_at n s p = tree_at n s p >>= λ t. canonical_words (trim t) provided not (has_capability t)

-- Whether the words from a place on begin with the canonical words of the value there.
unfoldable pub is_canonical_at : ℕ → Segments → Place → Bool
is_canonical_at n s p = passes (λ ws. passes (bytes_eq ws) (words_at s p (length ws))) (canonical_at n s p)

-- Whether segments are exactly one, of these words.
abbrev pub is_one_segment : Segments → List ℕ → Bool
is_one_segment (there ∷ []) ws = bytes_eq ws there
is_one_segment _ ws = false

-- Whether a message is one segment, of the canonical words of its value.
unfoldable pub is_canonical_message : ℕ → Segments → Bool
is_canonical_message n s = passes (is_one_segment s) (canonical_at n s root)
