-- Segments of bytes as segments of words. (Encoding, "Messages")
use Rattle.std.specs.Prelude.{ℕ, ◌/◌, List, length, map}
use Rattle.capnp_model.specs.Bytes.{words_in_bytes}
use Rattle.capnp_model.specs.Segments.{Segments}

-- The words of bytes. Bytes after the last whole word aren't read.
abbrev pub whole_words : List ℕ → List ℕ
whole_words bytes = words_in_bytes (length bytes / 8) bytes

-- The segments whose bytes are given.
abbrev pub words_in : List (List ℕ) → Segments
words_in segments = map whole_words segments
