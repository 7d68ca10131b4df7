-- How many words segments have. (Encoding, "Messages")
use Rattle.std.specs.Prelude.{ℕ, ◌+◌, [], ◌∷◌, length}
use Rattle.capnp_model.specs.Segments.{Segments}

-- The words of all segments.
unfoldable pub words_of_segments : Segments → ℕ
words_of_segments [] = 0
words_of_segments (xs ∷ s) = length xs + words_of_segments s
