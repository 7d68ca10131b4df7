-- What is written of a message is read, in either form.
use Rattle.std.proofs.Common.{◌≡◌, ℕ, Option, ◌+◌, ◌*◌, ◌/◌, ◌%◌, ◌^◌, List, [], ◌∷◌, ◌++◌, length, map, take, sum, Ok, refl, ap, subst, sym, ◌∙◌, append_assoc, add-one, arith}
use Rattle.std.specs.List.{flat_map, AllByRecursion}
use Rattle.std.proofs.lemmas.Bool.{lt-ltb}
use Rattle.std.proofs.lemmas.List.{length-append, length-map, take_at, drop_at, append-nil}
use Rattle.std.proofs.lemmas.List.Sums.{sum_by-cons}
use Rattle.capnp_model.specs.Segments.{Segments}
use Rattle.capnp_model.specs.Bytes.{bytes_of_words, words_in_bytes}
use Rattle.capnp_model.specs.Packing.{packed, unpacked}
use Rattle.capnp_model.specs.Messages.{Reader, Writer, plain_words, halves, cut, paired, behind_lengths, behind_first, message_at, frame_at, packed_at, spelled, frame, packed_message}
use Rattle.capnp_model.specs.Spelling.{AreWords, AreShort, CanSpell, Frames, Packs}
use Rattle.capnp_model.proofs.lemmas.Chaining.{ok_then, guard_then}
use Rattle.capnp_model.proofs.lemmas.ByteWords.{taken_front, words_back, bytes_length, bytes_append}
use Rattle.capnp_model.proofs.Packing.{all_words, unpacked-pieces}

-- A reader that reads what a writer writes of segments, piece by piece, whatever follows.
abbrev pub ReadsBack : Reader → Writer → Type 0
ReadsBack read write = (s : Segments) (rest : List ℕ) → AllByRecursion AreWords s → read (length (all_words s)) (flat_map write s ++ rest) ≡ Ok (all_words s, rest)

plain_pieces : (s : Segments) → flat_map bytes_of_words s ≡ bytes_of_words (all_words s)
plain_pieces [] = refl
plain_pieces (ws ∷ s) = ap (λ (bs : List ℕ). bytes_of_words ws ++ bs) (plain_pieces s) ∙ sym (bytes_append ws (all_words s))

pub all_append : (xs ys : List ℕ) → AreWords xs → AreWords ys → AreWords (xs ++ ys)
all_append [] ys h k = k
all_append (x ∷ xs) ys h k = (h.0, all_append xs ys h.1 k)

all_words_fit : (s : Segments) → AllByRecursion AreWords s → AreWords (all_words s)
all_words_fit [] h = tt
all_words_fit (ws ∷ s) h = all_append ws (all_words s) h.0 (all_words_fit s h.1)

pub plain_back : ReadsBack plain_words bytes_of_words
plain_back s rest h =
    let ws = all_words s in
    let e : words_in_bytes (length ws) (bytes_of_words ws) ≡ ws = ap (words_in_bytes (length ws)) (sym (append-nil (bytes_of_words ws))) ∙ words_back ws [] (all_words_fit s h) in
    ap (λ (bs : List ℕ). plain_words (length ws) (bs ++ rest)) (plain_pieces s) ∙ ok_then _ _ _ _ (taken_front (8 * length ws) (bytes_of_words ws) rest (bytes_length ws)) (ap (λ (vs : List ℕ). Ok (vs, rest)) e)

pub packed_back : ReadsBack unpacked packed
packed_back s rest h = unpacked-pieces s rest h

-- one piece
one_back : (read : Reader) (write : Writer) → ReadsBack read write → (ws rest : List ℕ) → AreWords ws → read (length ws) (write ws ++ rest) ≡ Ok (ws, rest)
one_back read write back ws rest fits =
    let whole : ws ++ [] ≡ ws = append-nil ws in
    let bytes : write ws ++ [] ≡ write ws = append-nil (write ws) in
    ap (λ (vs : List ℕ). read (length vs) (write ws ++ rest)) (sym whole) ∙ ap (λ (bs : List ℕ). read (length (ws ++ [])) (bs ++ rest)) (sym bytes) ∙ back (ws ∷ []) rest (fits, tt) ∙ ap (λ (vs : List ℕ). Ok (vs, rest)) whole

pub paired_length : (ns : List ℕ) → length (paired ns) ≡ (length ns + 1) / 2
paired_length [] = omega arith
paired_length (a ∷ []) = omega arith
paired_length (a ∷ b ∷ ns) = let rest = paired_length ns in omega arith

paired_words : (ns : List ℕ) → AreShort ns → AreWords (paired ns)
paired_words [] h = tt
paired_words (a ∷ []) h = let l = h.0 in (omega arith, tt)
paired_words (a ∷ b ∷ ns) h = let l = h.0 in let m = h.1.0 in (omega arith, paired_words ns h.1.1)

halves-paired : (ns : List ℕ) → AreShort ns → take (length ns) (halves (paired ns)) ≡ ns
halves-paired [] h = refl
halves-paired (a ∷ []) h = let l = h.0 in let e : a % 2 ^ 32 ≡ a = omega arith in ap (λ (n : ℕ). n ∷ []) e
halves-paired (a ∷ b ∷ ns) h =
    let l = h.0 in
    let m = h.1.0 in
    let low : (a + 2 ^ 32 * b) % 2 ^ 32 ≡ a = omega arith in
    let high : (a + 2 ^ 32 * b) / 2 ^ 32 ≡ b = omega arith in
    rw (low, high, halves-paired ns h.1.1) refl

all_words_length : (s : Segments) → length (all_words s) ≡ sum (map length s)
all_words_length [] = refl
all_words_length (ws ∷ s) = let rest = all_words_length s in let m : sum (map length (ws ∷ s)) ≡ length ws + sum (map length s) = sum_by-cons (λ k. k) (length ws) (map length s) in omega (arith, length-append ws (all_words s))

cut-all_words : (s : Segments) → cut (map length s) (all_words s) ≡ s
cut-all_words [] = refl
cut-all_words (ws ∷ s) = rw (take_at ws (all_words s) (length ws) refl, drop_at ws (all_words s) (length ws) refl, cut-all_words s) refl

-- THE LAW, for both forms
pub message_back : (read : Reader) (write : Writer) (limit : Option ℕ) (s : Segments) (rest : List ℕ) → ReadsBack read write → CanSpell limit s → message_at read limit (spelled write s ++ rest) ≡ Ok (s, rest)
unfolding message_at
message_back read write limit [] rest back can = absurd (let some = can.some in omega arith)
message_back read write limit (x ∷ xs) rest back can =
    let s = x ∷ xs in
    let few = can.few in
    let ns = map length xs in
    let w = length xs + 2 ^ 32 * length x in
    let short = can.sizes.0 in
    let one = write (w ∷ []) in
    let two = write (paired ns) in
    let three = flat_map write s in
    let parts : (one ++ (two ++ three)) ++ rest ≡ one ++ (two ++ (three ++ rest)) = simp append_assoc in
    let first : read 1 ((one ++ (two ++ three)) ++ rest) ≡ Ok (w ∷ [], two ++ (three ++ rest)) = ap (read 1) parts ∙ one_back read write back (w ∷ []) (two ++ (three ++ rest)) (omega arith, tt) in
    let low : w % 2 ^ 32 ≡ length xs = omega arith in
    let high : w / 2 ^ 32 ≡ length x = omega arith in
    let many : length (paired ns) ≡ (length xs + 1) / 2 = paired_length ns ∙ ap (λ (n : ℕ). (n + 1) / 2) (length-map xs length) in
    let others : read ((length xs + 1) / 2) (two ++ (three ++ rest)) ≡ Ok (paired ns, three ++ rest) = ap (λ (n : ℕ). read n (two ++ (three ++ rest))) (sym many) ∙ one_back read write back (paired ns) (three ++ rest) (paired_words ns can.sizes.1) in
    let tail : take (length xs) (halves (paired ns)) ≡ ns = ap (λ (n : ℕ). take n (halves (paired ns))) (sym (length-map xs length)) ∙ halves-paired ns can.sizes.1 in
    let lengths : take (length xs + 1) (length x ∷ halves (paired ns)) ≡ map length s = ap (λ (n : ℕ). take n (length x ∷ halves (paired ns))) (add-one (length xs)) ∙ ap (λ (l : List ℕ). length x ∷ l) tail in
    let whole : read (sum (map length s)) (three ++ rest) ≡ Ok (all_words s, rest) = ap (λ (n : ℕ). read n (three ++ rest)) (sym (all_words_length s)) ∙ back s rest can.words in
    let last : behind_lengths read limit (map length s) (three ++ rest) ≡ Ok (s, rest) = guard_then _ _ _ _ can.total (ok_then _ _ (all_words s, rest) _ whole (ap (λ (u : Segments). Ok (u, rest)) (cut-all_words s))) in
    let middle : behind_first read read limit (length xs ∷ length x ∷ []) (two ++ (three ++ rest)) ≡ Ok (s, rest) = guard_then _ _ _ _ (lt-ltb _ _ (omega arith)) (ok_then _ _ (paired ns, three ++ rest) _ others (ap (λ (l : List ℕ). behind_lengths read limit l (three ++ rest)) lengths ∙ last)) in
    let head : halves (w ∷ []) ≡ length xs ∷ length x ∷ [] = rw (low, high) refl in
    ok_then (read 1 ((one ++ (two ++ three)) ++ rest)) (λ x. behind_first read read limit (halves x.0) x.1) (w ∷ [], two ++ (three ++ rest)) (Ok (s, rest)) first (ap (λ (l : List ℕ). behind_first read read limit l (two ++ (three ++ rest))) head ∙ middle)

pub framed_back : (limit : Option ℕ) (s : Segments) (rest : List ℕ) → CanSpell limit s → frame_at limit (frame s ++ rest) ≡ Ok (s, rest)
framed_back limit s rest can = message_back plain_words bytes_of_words limit s rest plain_back can

pub packed_message_back : (limit : Option ℕ) (s : Segments) (rest : List ℕ) → CanSpell limit s → packed_at limit (packed_message s ++ rest) ≡ Ok (s, rest)
packed_message_back limit s rest can = message_back unpacked packed limit s rest packed_back can

-- and is just that of its message
pub framed_text : (limit : Option ℕ) (s : Segments) → CanSpell limit s → Frames limit (frame s) s
framed_text limit s can = subst (λ (b : List ℕ). frame_at limit b ≡ Ok (s, [])) (append-nil (frame s)) (framed_back limit s [] can)

pub packed_text : (limit : Option ℕ) (s : Segments) → CanSpell limit s → Packs limit (packed_message s) s
packed_text limit s can = subst (λ (b : List ℕ). packed_at limit b ≡ Ok (s, [])) (append-nil (packed_message s)) (packed_message_back limit s [] can)
