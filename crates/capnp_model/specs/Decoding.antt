-- The values that stand in node records as bytes.
use Rattle.std.specs.Prelude.{ℕ, ◌/◌, not, ◌&&◌, List, [], ◌∷◌, length, Option}
use Rattle.std.specs.Str.{bytes_eq}
use Rattle.capnp_model.specs.Chains.{◌>>=◌, ◌provided◌}
use Rattle.capnp_model.specs.Segments.{root}
use Rattle.capnp_model.specs.Trees.{Tree, has_capability}
use Rattle.capnp_model.specs.Trimming.{trim}
use Rattle.capnp_model.specs.Traversal.{tree_at}
use Rattle.capnp_model.specs.Encoding.{canonical_words}
use Rattle.capnp_model.specs.Bytes.{bytes_of_words, words_in_bytes}

-- The value of at most 64 levels, without a capability, whose canonical words the bytes are.
unfoldable pub decode : List ℕ → Option Tree
decode bytes =
    tree_at 64 (words_in_bytes (length bytes / 8) bytes ∷ []) root >>= λ t. t provided (not (has_capability t) && bytes_eq (bytes_of_words (canonical_words (trim t))) bytes)
