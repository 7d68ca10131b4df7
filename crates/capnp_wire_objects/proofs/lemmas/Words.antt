-- The words of segments of bytes.
use Rattle.std.proofs.Common.{◌≡◌, ℕ, zero, suc, ◌+◌, ◌/◌, ◌≤◌, ◌<◌, Bool, true, false, leb, List, ◌∷◌, map, length, get_or, take, drop, Some, None, refl, ap, sym, ◌∙◌}
use Rattle.std.specs.List.{slice_get}
use Rattle.std.specs.Int.{from_le_bytes, w64}
use Rattle.std.specs.Option.{option_map, is_some}
use Rattle.std.specs.Simd.{first_chunks}
use Rattle.std.proofs.lemmas.List.{take-take}
use Rattle.std.proofs.lemmas.Bool.{leb-true}
use Rattle.std.proofs.lemmas.Option.{slice_get-map, slice_get_past, slice_get_read}
use Rattle.capnp_model.specs.Bytes.{words_in_bytes}
use Rattle.capnp_model.specs.Chains.{◌provided◌}
use Rattle.capnp_model.specs.Segments.{place, words_at}
use Rattle.capnp_units.specs.Segments.{whole_words, words_in}
use Rattle.capnp_model.proofs.lemmas.WordsInBytes.{words_in_bytes-length}
use Rattle.capnp_model.proofs.lemmas.ByteLists.{word_of_eight}

pub whole_words-length : (bytes : List ℕ) → length (whole_words bytes) ≡ length bytes / 8
whole_words-length bytes = words_in_bytes-length (length bytes / 8) bytes

pub segment_there : (s : List (List ℕ)) (i : ℕ) (bytes : List ℕ) → Some bytes ≡ slice_get s i → slice_get (words_in s) i ≡ Some (whole_words bytes)
segment_there s i bytes e = slice_get-map whole_words s i ∙ ap (option_map whole_words) (sym e)

pub segment_past : (s : List (List ℕ)) (i : ℕ) → None ≡ slice_get s i → slice_get (words_in s) i ≡ None
segment_past s i e = slice_get-map whole_words s i ∙ ap (option_map whole_words) (sym e)

-- ---- so many words

pub is_some-provided : {A : Type 0} (x : A) (b : Bool) → is_some (x provided b) ≡ b
is_some-provided x true = refl
is_some-provided x false = refl

pub words_where : (s : List (List ℕ)) (i k n : ℕ) (bytes : List ℕ) → Some bytes ≡ slice_get s i → is_some (words_at (words_in s) (place i k) n) ≡ leb (k + n) (length bytes / 8)
words_where s i k n bytes e =
    let there = segment_there s i bytes e in
    rw there (is_some-provided (take n (drop k (whole_words bytes))) (leb (k + n) (length (whole_words bytes))) ∙ ap (leb (k + n)) (whole_words-length bytes))

pub no_words : (s : List (List ℕ)) (i k n : ℕ) → None ≡ slice_get s i → false ≡ is_some (words_at (words_in s) (place i k) n)
no_words s i k n e = let past = segment_past s i e in rw past refl

-- ---- the bytes of a word

pub word_of_front : (n : ℕ) (bytes first : List ℕ) → 8 ≤ n → first ≡ take 8 (take n bytes) → from_le_bytes w64 first ≡ from_le_bytes w64 bytes
word_of_front n bytes first h e = let f : List ℕ → ℕ = from_le_bytes w64 in ap f (e ∙ take-take 8 n bytes h) ∙ word_of_eight bytes

-- words of eight bytes each
pub chunks_are_words : (n : ℕ) (bytes : List ℕ) → map (from_le_bytes w64) (first_chunks 8 n bytes) ≡ words_in_bytes n bytes
chunks_are_words zero bytes = refl
chunks_are_words (suc n) bytes =
    ap (λ (w : ℕ). w ∷ map (from_le_bytes w64) (first_chunks 8 n (drop 8 bytes))) (word_of_eight bytes) ∙ ap (λ (ws : List ℕ). from_le_bytes w64 bytes ∷ ws) (chunks_are_words n (drop 8 bytes))

module _ (bytes : List ℕ) (chunks : List (List ℕ)) (are : chunks ≡ first_chunks 8 (length bytes / 8) bytes) where
  chunk_at : (i : ℕ) → slice_get (whole_words bytes) i ≡ option_map (from_le_bytes w64) (slice_get chunks i)
  chunk_at i = ap (λ (ws : List ℕ). slice_get ws i) (sym (ap (map (from_le_bytes w64)) are ∙ chunks_are_words (length bytes / 8) bytes)) ∙ slice_get-map (from_le_bytes w64) chunks i

  pub word_of_chunk : (i : ℕ) (chunk : List ℕ) → i < length chunks → chunk ≡ get_or chunks i chunk → slice_get (whole_words bytes) i ≡ Some (from_le_bytes w64 chunk)
  word_of_chunk i chunk h e = chunk_at i ∙ ap (option_map (from_le_bytes w64)) (slice_get_read chunks (length chunks) i chunk refl h e)

  pub no_chunk : (i : ℕ) → length chunks ≤ i → slice_get (whole_words bytes) i ≡ None
  no_chunk i h = chunk_at i ∙ ap (option_map (from_le_bytes w64)) (slice_get_past chunks i h)

-- what is there lies inside its segment
pub words_end : (s : List (List ℕ)) (i k n : ℕ) (bytes : List ℕ) → Some bytes ≡ slice_get s i → is_some (words_at (words_in s) (place i k) n) ≡ true → k + n ≤ length bytes / 8
words_end s i k n bytes e h = leb-true (k + n) (length bytes / 8) (sym (words_where s i k n bytes e) ∙ h)

-- no word is there without a segment
pub none_there : (s : List (List ℕ)) (i k n : ℕ) → None ≡ slice_get s i → is_some (words_at (words_in s) (place i k) n) ≡ true → ⊥
none_there s i k n e h = let none = no_words s i k n e in absurd cc
