-- Copies of segments, one after the other.
use Rattle.std.proofs.Common.{◌≡◌, ℕ, zero, suc, ◌+◌, ◌*◌, ◌/◌, ◌^◌, ◌<◌, ◌≤◌, List, [], ◌∷◌, ◌++◌, None, Some, length, take, refl, ap, sym, ◌∙◌, subst, arith}
use Rattle.std.specs.Prelude.{slice_get, All, Vec}
use Rattle.std.specs.declared.alloc.Global.{Global}
use Rattle.std.proofs.lemmas.List.{length-map, length-append, map-append, length-take-le}
use Rattle.std.proofs.lemmas.List.Elements.{All-push, All-map, All-weaker}
use Rattle.capnp_model.specs.Bytes.{words_in_bytes}
use Rattle.capnp_model.proofs.lemmas.Lists.{take-all}
use Rattle.capnp_model.proofs.lemmas.WordsInBytes.{words_in_bytes-length}
use Rattle.capnp_units.specs.Segments.{whole_words, words_in}
use Rattle.capnp_stream.specs.Writing.{IsSegment, AreWritable}
use Rattle.capnp_stream.proofs.lemmas.WordLemmas.{words_in_bytes-take, whole_words-of_length}
use Rattle.capnp_wire_objects.proofs.lemmas.Words.{whole_words-length}
use Rattle.capnp_relay_loop.specs.MessageAnswers.{each_segment_bytes}
use Rattle.capnp_relay_answers.specs.Plain.{IsSmallSegment, CopiesSegments}

-- one more segment
words_step : (s : List (List ℕ)) (id : ℕ) (x : List ℕ) → slice_get s id ≡ Some x → words_in (take (id + 1) s) ≡ words_in (take id s) ++ whole_words x ∷ []
words_step [] id x here = absurd cc
words_step (y ∷ s) zero x here = let same : y ≡ x = cc in ap (λ z. whole_words z ∷ []) same
words_step (y ∷ s) (suc id) x here = let a : suc id + 1 ≡ suc (id + 1) = omega arith in rw a (ap (λ l. whole_words y ∷ l) (words_step s id x here))

-- the whole words of bytes, cut off behind them
whole_length : (bytes : List ℕ) → length (take (8 * (length bytes / 8)) bytes) ≡ 8 * (length bytes / 8)
whole_length bytes = length-take-le (8 * (length bytes / 8)) bytes (omega arith)

whole_same : (bytes : List ℕ) → whole_words (take (8 * (length bytes / 8)) bytes) ≡ whole_words bytes
whole_same bytes =
    let n = length bytes / 8 in
    let zero_more : n + 0 ≡ n = omega arith in
    let all : take n (words_in_bytes (n + 0) bytes) ≡ words_in_bytes n (take (8 * n) bytes) = words_in_bytes-take n 0 bytes (omega arith) in
    let size = words_in_bytes-length n bytes in
    whole_words-of_length n (take (8 * n) bytes) (whole_length bytes) ∙ sym all ∙ ap (λ k. take n (words_in_bytes k bytes)) zero_more ∙ take-all (words_in_bytes n bytes) n (omega (arith, size))

pub copies_none : (segments : List (List ℕ)) → CopiesSegments (take 0 segments) []
copies_none segments = record { words = refl; few = omega arith; small = λ i d inside. absurd (omega (arith, inside)) }

pub copies_more : (segments copies : List (List ℕ)) (id : ℕ) (bytes copy : List ℕ) → CopiesSegments (take id segments) copies → slice_get segments id ≡ Some bytes → length copies < 511 → length bytes < 8 * 2 ^ 29
    → copy ≡ take (8 * (length bytes / 8)) bytes → CopiesSegments (take (id + 1) segments) (copies ++ copy ∷ [])
copies_more segments copies id bytes copy made here few short is =
    let size : length copy ≡ 8 * (length bytes / 8) = ap length is ∙ whole_length bytes in
    let more = length-append copies (copy ∷ []) in
    record {
      words = map-append whole_words copies (copy ∷ []) ∙ ap (λ l. words_in copies ++ l ∷ []) (ap whole_words is ∙ whole_same bytes) ∙ ap (λ l. l ++ whole_words bytes ∷ []) made.words ∙ sym (words_step segments id bytes here);
      few = omega (arith, more, few);
      small = All-push IsSmallSegment copies copy made.small (omega (arith, size), omega (arith, size, short));
    }

pub one_small : (bytes : List ℕ) → length bytes < 8 * 2 ^ 29 → All (λ (words : List ℕ). length words < 2 ^ 29) (whole_words bytes ∷ [])
one_small bytes short = All-push (λ (words : List ℕ). length words < 2 ^ 29) [] (whole_words bytes) (λ i d inside. absurd (omega (arith, inside))) (let size = whole_words-length bytes in omega (arith, short, size))

pub copies_all : (segments copies : List (List ℕ)) (id : ℕ) → CopiesSegments (take id segments) copies → length segments ≤ id → CopiesSegments segments copies
copies_all segments copies id made past = subst (λ s. CopiesSegments s copies) (take-all segments id past) made

-- copies can be written
pub copies_writable : (segments copies : List (List ℕ)) → 0 < length segments → CopiesSegments segments copies → AreWritable copies
copies_writable segments copies some made =
    let a = length-map copies whole_words in
    let b = length-map segments whole_words in
    let same = ap length made.words in
    let few = made.few in
    record {
      some = omega (arith, a, b, same, some);
      few = omega (arith, few);
      words = All-weaker IsSmallSegment IsSegment (λ x fits. let short = fits.1 in (fits.0, omega (arith, short))) copies made.small;
    }

pub copies_few : (segments copies : List (List ℕ)) → CopiesSegments segments copies → length (words_in segments) ≤ 511
copies_few segments copies made = let a = length-map copies whole_words in let same = ap length made.words in let few = made.few in omega (arith, a, same, few)

pub copies_small : (segments copies : List (List ℕ)) → CopiesSegments segments copies → All (λ words. length words < 2 ^ 29) (words_in segments)
copies_small segments copies made =
    subst (All (λ words. length words < 2 ^ 29)) made.words
    (All-map (λ words. length words < 2 ^ 29) whole_words copies
    (All-weaker IsSmallSegment (λ x. length (whole_words x) < 2 ^ 29) (λ x fits. let short = fits.1 in let size = whole_words-length x in omega (arith, short, size)) copies made.small))

pub counted : (v : Vec (Vec ℕ Global) Global) (n : ℕ) → length v.items ≡ n → length (each_segment_bytes v) ≡ n
counted v n is = length-map v.items (λ bytes. bytes.items) ∙ is

pub segment_gone : (s : List (List ℕ)) (id : ℕ) → slice_get s id ≡ None → length s ≤ id
segment_gone [] id gone = omega arith
segment_gone (x ∷ s) zero gone = absurd cc
segment_gone (x ∷ s) (suc id) gone = let rest = segment_gone s id gone in omega arith
