-- What is read of the bytes of a segment.
use Rattle.std.proofs.Common.{◌≡◌, ℕ, zero, suc, ◌/◌, true, List, [], length, drop, Option, Some, None, refl, ap, sym, ◌∙◌, subst}
use Rattle.std.specs.Prelude.{unwrap_or}
use Rattle.std.specs.List.{slice_get}
use Rattle.std.specs.Option.{is_some}
use Rattle.capnp_model.specs.Bytes.{words_in_bytes, AreBytes}
use Rattle.capnp_model.specs.Chains.{◌>>=◌}
use Rattle.capnp_model.specs.Segments.{place, word_at, words_at}
use Rattle.capnp_model.specs.Spelling.{AreWords}
use Rattle.capnp_units.specs.Segments.{whole_words, words_in}
use Rattle.capnp_wire_objects.specs.Arenas.{segment_bytes}
use Rattle.capnp_wire_objects.proofs.lemmas.Words.{segment_there, segment_past, none_there}
use Rattle.capnp_wire_canonical.specs.Standing.{segment_words}
use Rattle.capnp_model.proofs.lemmas.ByteLists.{word_bound, bytes_behind}

words_are : (n : ℕ) (bytes : List ℕ) → AreBytes bytes → AreWords (words_in_bytes n bytes)
words_are zero bytes small = tt
words_are (suc n) bytes small = (word_bound bytes small, words_are n (drop 8 bytes) (bytes_behind 8 bytes small))

module _ (segments : List (List ℕ)) (i : ℕ) (bytes : List ℕ) (is : bytes ≡ segment_bytes segments i) where
  segment_is : (o : Option (List ℕ)) → slice_get (words_in segments) i ≡ o → AreWords (unwrap_or o []) → AreWords (segment_words (words_in segments) i)
  unfolding segment_words
  segment_is o e small = subst AreWords (ap (λ (x : Option (List ℕ)). unwrap_or x []) (sym e)) small

  -- its words
  pub words_held : AreBytes bytes → AreWords (segment_words (words_in segments) i)
  words_held small = by (slice_get segments i) refl is
    where
      by : (o : Option (List ℕ)) → slice_get segments i ≡ o → bytes ≡ unwrap_or o [] → AreWords (segment_words (words_in segments) i)
      by None e f = segment_is None (segment_past segments i (sym e)) tt
      by (Some bs) e f = segment_is (Some (words_in_bytes (length bs / 8) bs)) (segment_there segments i bs (sym e)) (words_are (length bs / 8) bs (subst AreBytes f small))

  -- one of them
  pub word_held : (k : ℕ) → slice_get (whole_words bytes) k ≡ word_at (words_in segments) (place i k)
  word_held k = by (slice_get segments i) refl is
    where
      at : Option (List ℕ) → Option ℕ
      at o = o >>= λ ws. slice_get ws k

      by : (o : Option (List ℕ)) → slice_get segments i ≡ o → bytes ≡ unwrap_or o [] → slice_get (whole_words bytes) k ≡ word_at (words_in segments) (place i k)
      by None e f = ap (λ (bs : List ℕ). slice_get (whole_words bs) k) f ∙ sym (ap at (segment_past segments i (sym e)))
      by (Some bs) e f = ap (λ (xs : List ℕ). slice_get (whole_words xs) k) f ∙ sym (ap at (segment_there segments i bs (sym e)))

  -- where words are there the segment is
  pub segment_held : (k n : ℕ) → is_some (words_at (words_in segments) (place i k) n) ≡ true → Some bytes ≡ slice_get segments i
  segment_held k n there = by (slice_get segments i) refl is
    where
      by : (o : Option (List ℕ)) → slice_get segments i ≡ o → bytes ≡ unwrap_or o [] → Some bytes ≡ slice_get segments i
      by None e f = absurd (none_there segments i k n (sym e) there)
      by (Some bs) e f = ap (λ (x : List ℕ). Some x) f ∙ sym e
