-- Texts that are written a piece after the other.
use Rattle.std.proofs.Common.{◌≡◌, ◌⊎◌, inl, ℕ, zero, suc, ◌+◌, ◌-◌, ◌*◌, ◌/◌, ◌%◌, ◌^◌, ◌<◌, ◌≤◌, List, [], ◌∷◌, ◌++◌, get_or, None, Some, refl, sym, ap, subst, ◌∙◌, arith, length, take, drop, map, sum, append-nil, append_assoc, take-append-drop}
use Rattle.std.specs.List.{flat_map, slice_get}
use Rattle.std.specs.Int.{from_le_bytes, to_le_bytes, w64}
use Rattle.std.specs.declared.option.Option.{Option}
use Rattle.std.proofs.lemmas.List.{length-append, length-map, length-replicate, take_at, drop_at, get_or_past}
use Rattle.std.proofs.lemmas.Nat.{from_le_bytes-to_le_bytes_8}
use Rattle.capnp_units.specs.declared.kinds.ErrorKind.{ErrorKind}
use Rattle.capnp_units.specs.declared.kinds.ErrorKind.TheVariants.{OutOfMemory, BufferNotLargeEnough, Device}
use Rattle.std.specs.Option.{option_map}
use Rattle.std.proofs.lemmas.Option.{slice_get-map, slice_get_within, get_or_from_slice_get}
use Rattle.capnp_units.specs.Segments.{whole_words, words_in}
use Rattle.capnp_stream.specs.Writing.{IsSegment, AreWritable}
use Rattle.capnp_model.specs.Segments.{Segments}
use Rattle.capnp_model.specs.Messages.{Writer, paired, spelled, frame}
use Rattle.capnp_stream_io.specs.Streams.{RoomFalls, IsWriteRefusal}
use Rattle.std.proofs.lemmas.List.Elements.{All-map, All-replicate}
use Rattle.std.specs.Prelude.{All, replicate}
use Rattle.std.proofs.lemmas.Grind.{flat_map-append}
use Rattle.capnp_model.specs.Bytes.{words_in_bytes, bytes_of_words}
use Rattle.capnp_model.proofs.lemmas.ByteWords.{bytes_length}
use Rattle.capnp_stream.proofs.lemmas.WordLemmas.{whole_words-of_length, sum-cons, words_in_bytes-take}
use Rattle.capnp_model.proofs.lemmas.Written.{paired_length}
use Rattle.capnp_model.proofs.lemmas.WordsInBytes.{words_in_bytes-drop, words_in_bytes-length}

-- the bytes of a word are that word
pub word-bytes : (word : ℕ) (bytes : List ℕ) → word < 2 ^ 64 → bytes ≡ to_le_bytes w64 word → whole_words bytes ≡ word ∷ []
word-bytes word bytes small are =
    let f : List ℕ → ℕ = from_le_bytes w64 in
    ap whole_words are ∙ whole_words-of_length 1 (to_le_bytes w64 word) refl ∙ ap (λ w. w ∷ []) (from_le_bytes-to_le_bytes_8 word small)

pub RoomFalls-none : (r : Option ℕ) → RoomFalls r r 0
RoomFalls-none None = refl
RoomFalls-none (Some r) = omega arith

pub RoomFalls-next : (r s t : Option ℕ) (p q : List ℕ) → RoomFalls r s (length p) → RoomFalls s t (length q) → RoomFalls r t (length (p ++ q))
RoomFalls-next None s t p q first second = let is : s ≡ None = first in let P : Option ℕ → Type 0 = λ o. RoomFalls o t (length q) in subst P is second
RoomFalls-next (Some r) None t p q first second = absurd first
RoomFalls-next (Some r) (Some s) None p q first second = absurd second
RoomFalls-next (Some r) (Some s) (Some t) p q first second = omega (arith, first, second, length-append p q)

pub IsWriteRefusal-first : (may : Type 0) (r : Option ℕ) (p q : List ℕ) (k : ErrorKind) → IsWriteRefusal may r (length p) k → IsWriteRefusal may r (length (p ++ q)) k
IsWriteRefusal-first may r p q Device h = tt
IsWriteRefusal-first may r p q OutOfMemory h = h
IsWriteRefusal-first may None p q BufferNotLargeEnough h = h
IsWriteRefusal-first may (Some r) p q BufferNotLargeEnough h = omega (arith, h, length-append p q)
IsWriteRefusal-first may r p q _ h = absurd h

pub IsWriteRefusal-next : (may : Type 0) (r s : Option ℕ) (p q : List ℕ) (k : ErrorKind) → RoomFalls r s (length p) → IsWriteRefusal may s (length q) k → IsWriteRefusal may r (length (p ++ q)) k
IsWriteRefusal-next may r s p q Device first h = tt
IsWriteRefusal-next may r s p q OutOfMemory first h = h
IsWriteRefusal-next may None s p q BufferNotLargeEnough first h = let is : s ≡ None = first in let P : Option ℕ → Type 0 = λ o. IsWriteRefusal may o (length q) BufferNotLargeEnough in subst P is h
IsWriteRefusal-next may (Some r) None p q BufferNotLargeEnough first h = absurd first
IsWriteRefusal-next may (Some r) (Some s) p q BufferNotLargeEnough first h = omega (arith, first, h, length-append p q)
IsWriteRefusal-next may r s p q _ first h = absurd h

-- what may want memory, or more
pub IsWriteRefusal-or : (may more : Type 0) (r : Option ℕ) (n : ℕ) (k : ErrorKind) → IsWriteRefusal may r n k → IsWriteRefusal (may ⊎ more) r n k
IsWriteRefusal-or may more r n Device h = tt
IsWriteRefusal-or may more r n OutOfMemory h = inl h
IsWriteRefusal-or may more r n BufferNotLargeEnough h = h
IsWriteRefusal-or may more r n _ h = absurd h

pub one-text : (write : Writer) (word : ℕ) (ws : List ℕ) → word ≡ 2 ^ 32 * length ws → (write (word ∷ []) ++ write []) ++ write ws ≡ spelled write (ws ∷ [])
one-text write word ws is =
    let first : word ≡ 0 + 2 ^ 32 * length ws = omega (arith, is) in
    ap (λ w. (write (w ∷ []) ++ write []) ++ write ws) first ∙ append_assoc (write ((0 + 2 ^ 32 * length ws) ∷ [])) (write []) (write ws)
    ∙ ap (λ l. write ((0 + 2 ^ 32 * length ws) ∷ []) ++ (write [] ++ l)) (sym (append-nil (write ws)))

-- a table and the segments are the message
pub whole-text : (write : Writer) (s : Segments) (word n : ℕ) (rest : List ℕ) → 0 < length s → n ≡ length (get_or s 0 []) → word ≡ (length s - 1) + 2 ^ 32 * n → rest ≡ paired (map length (drop 1 s))
    → (write (word ∷ []) ++ write rest) ++ flat_map write s ≡ spelled write s
whole-text write [] word n rest some size is rests = absurd (omega (arith, some))
whole-text write (x ∷ xs) word n rest some size is rests =
    let count : word ≡ length xs + 2 ^ 32 * length x = omega (arith, is, size) in
    ap (λ w. (write (w ∷ []) ++ write rest) ++ flat_map write (x ∷ xs)) count ∙ ap (λ l. (write ((length xs + 2 ^ 32 * length x) ∷ []) ++ write l) ++ flat_map write (x ∷ xs)) rests
    ∙ append_assoc (write ((length xs + 2 ^ 32 * length x) ∷ [])) (write (paired (map length xs))) (flat_map write (x ∷ xs))

-- the next two lengths of a table
paired-step : (s : Segments) (id : ℕ) → id < length s → paired (map length (drop id s)) ≡ (length (get_or s id []) + 2 ^ 32 * length (get_or s (id + 1) [])) ∷ paired (map length (drop (id + 2) s))
paired-step [] id inside = absurd (omega (arith, inside))
paired-step (x ∷ []) zero inside = let one : length x ≡ length x + 2 ^ 32 * 0 = omega arith in ap (λ n. n ∷ []) one
paired-step (x ∷ y ∷ s) zero inside = refl
paired-step (x ∷ s) (suc id) inside =
    let a : suc id + 1 ≡ suc (id + 1) = omega arith in
    let b : suc id + 2 ≡ suc (id + 2) = omega arith in
    rw (a, b) (paired-step s id (omega (arith, inside)))

-- eight more bytes are one more word
whole_words-more : (bytes more : List ℕ) (word : ℕ) → length bytes % 8 ≡ 0 → word < 2 ^ 64 → more ≡ bytes ++ to_le_bytes w64 word → whole_words more ≡ whole_words bytes ++ word ∷ []
whole_words-more bytes more word whole small is =
    let n = length bytes / 8 in
    let size : length (bytes ++ to_le_bytes w64 word) ≡ 8 * (n + 1) = omega (arith, length-append bytes (to_le_bytes w64 word)) in
    let all = bytes ++ to_le_bytes w64 word in
    let words = words_in_bytes (n + 1) all in
    let front : take n words ≡ whole_words bytes = words_in_bytes-take n 1 all (omega (arith, size)) ∙ ap (words_in_bytes n) (take_at bytes (to_le_bytes w64 word) (8 * n) (omega arith)) in
    let behind : drop n words ≡ word ∷ [] = words_in_bytes-drop n 1 all ∙ ap (words_in_bytes 1) (drop_at bytes (to_le_bytes w64 word) (8 * n) (omega arith)) ∙ ap (λ w. w ∷ []) (from_le_bytes-to_le_bytes_8 word small) in
    ap whole_words is ∙ whole_words-of_length (n + 1) all size ∙ sym (take-append-drop n words) ∙ ap (λ l. l ++ drop n words) front ∙ ap (λ l. whole_words bytes ++ l) behind

pub table-step : (s : Segments) (id : ℕ) (bytes more all : List ℕ) (word : ℕ) → id < length s → length bytes % 8 ≡ 0 → word < 2 ^ 64 → word ≡ length (get_or s id []) + 2 ^ 32 * length (get_or s (id + 1) []) → more ≡ bytes ++ to_le_bytes w64 word
    → whole_words bytes ++ paired (map length (drop id s)) ≡ all → whole_words more ++ paired (map length (drop (id + 2) s)) ≡ all
table-step s id bytes more all word inside whole small is added before =
    let rest = paired (map length (drop (id + 2) s)) in
    ap (λ l. l ++ rest) (whole_words-more bytes more word whole small added) ∙ append_assoc (whole_words bytes) (word ∷ []) rest
    ∙ ap (λ n. whole_words bytes ++ n ∷ rest) is ∙ ap (λ l. whole_words bytes ++ l) (sym (paired-step s id inside)) ∙ before

-- ---- a loop over segments

pub each-step : {X : Type 0} (write : X → List ℕ) (s : List X) (id : ℕ) (x : X) → slice_get s id ≡ Some x → flat_map write (take (id + 1) s) ≡ flat_map write (take id s) ++ write x
each-step write [] id x here = absurd cc
each-step write (y ∷ s) zero x here = let same : y ≡ x = cc in ap (λ z. write z ++ []) same ∙ append-nil (write x)
each-step write (y ∷ s) (suc id) x here =
    let a : suc id + 1 ≡ suc (id + 1) = omega arith in
    rw a (ap (λ l. write y ++ l) (each-step write s id x here) ∙ sym (append_assoc (write y) (flat_map write (take id s)) (write x)))

pub each-text : {X : Type 0} (write : X → List ℕ) (s : List X) (id : ℕ) (x : X) → slice_get s id ≡ Some x → (flat_map write (take id s) ++ write x) ++ flat_map write (drop (id + 1) s) ≡ flat_map write s
each-text write s id x here =
    ap (λ l. l ++ flat_map write (drop (id + 1) s)) (sym (each-step write s id x here)) ∙ sym (flat_map-append write (take (id + 1) s) (drop (id + 1) s)) ∙ ap (flat_map write) (take-append-drop (id + 1) s)

-- ---- segments by their numbers

pub segment-there : (segments : List (List ℕ)) (id : ℕ) (bytes : List ℕ) → slice_get segments id ≡ Some bytes → slice_get (words_in segments) id ≡ Some (whole_words bytes)
segment-there segments id bytes here = slice_get-map whole_words segments id ∙ ap (option_map whole_words) here

pub segment-gone : {X : Type 0} (s : List X) (id : ℕ) → slice_get s id ≡ None → length s ≤ id
segment-gone [] id gone = omega arith
segment-gone (x ∷ s) zero gone = absurd cc
segment-gone (x ∷ s) (suc id) gone = let rest = segment-gone s id gone in omega arith

pub length-there : (segments : List (List ℕ)) (id : ℕ) (bytes : List ℕ) → slice_get segments id ≡ Some bytes → length bytes / 8 ≡ length (get_or (words_in segments) id [])
length-there segments id bytes here =
    let found : get_or (words_in segments) id [] ≡ whole_words bytes = get_or_from_slice_get (words_in segments) id (whole_words bytes) [] (segment-there segments id bytes here) in
    sym (ap length found ∙ words_in_bytes-length (length bytes / 8) bytes)

pub length-gone : (segments : List (List ℕ)) (id : ℕ) → slice_get segments id ≡ None → 0 ≡ length (get_or (words_in segments) id [])
length-gone segments id gone = sym (ap length (get_or_past (words_in segments) id [] (omega (arith, segment-gone segments id gone, length-map segments whole_words))))

pub is-segment : (segments : List (List ℕ)) (id : ℕ) (bytes : List ℕ) → AreWritable segments → slice_get segments id ≡ Some bytes → IsSegment bytes
is-segment segments id bytes fit here =
    let inside = slice_get_within segments id bytes here in
    subst IsSegment (get_or_from_slice_get segments id bytes [] here) (fit.words id [] inside)

-- ---- the length of a message

segments_length : (s : Segments) → length (flat_map bytes_of_words s) ≡ 8 * sum (map length s)
segments_length [] = refl
segments_length (x ∷ s) = omega (arith, length-append (bytes_of_words x) (flat_map bytes_of_words s), bytes_length x, segments_length s, sum-cons (length x) (map length s))

pub length-frame : (s : Segments) → 0 < length s → length (frame s) ≡ 8 * (length s / 2 + 1 + sum (map length s))
length-frame [] some = absurd (omega (arith, some))
length-frame (x ∷ s) some =
    let word = (length s + 2 ^ 32 * length x) ∷ [] in
    let rest = paired (map length s) in
    let all = flat_map bytes_of_words (x ∷ s) in
    let a : length (bytes_of_words word) ≡ 8 = bytes_length word in
    let b : length (bytes_of_words rest) ≡ 8 * ((length s + 1) / 2) = bytes_length rest ∙ ap (λ n. 8 * n) (paired_length (map length s) ∙ ap (λ n. (n + 1) / 2) (length-map s length)) in
    let c : length all ≡ 8 * sum (map length (x ∷ s)) = segments_length (x ∷ s) in
    let d : length (frame (x ∷ s)) ≡ length (bytes_of_words word) + (length (bytes_of_words rest) + length all) = length-append (bytes_of_words word) (bytes_of_words rest ++ all) ∙ ap (λ n. length (bytes_of_words word) + n) (length-append (bytes_of_words rest) all) in
    omega arith

-- copies of one segment can be written
pub copies-writable : {X : Type 0} (f : X → List ℕ) (n : ℕ) (x : X) (xs : List X) → xs ≡ replicate n x → 0 < n → n < 2 ^ 32 → IsSegment (f x) → AreWritable (map f xs)
copies-writable f n x xs copies some few fits =
    let count : length (map f xs) ≡ n = length-map xs f ∙ ap length copies ∙ length-replicate n x in
    record {
      some = omega (arith, count, some);
      few = omega (arith, count, few);
      words = All-map IsSegment f xs (subst (All (λ y. IsSegment (f y))) (sym copies) (All-replicate (λ y. IsSegment (f y)) n x fits));
    }
