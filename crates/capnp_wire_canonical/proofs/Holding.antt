-- Words that stand one behind the other.
use Rattle.std.proofs.Common.{◌≡◌, ℕ, ◌+◌, ◌≤◌, true, List, [], ◌++◌, length, take, drop, Option, Some, ap, sym, ◌∙◌, subst, arith}
use Rattle.std.specs.Prelude.{unwrap_or}
use Rattle.std.specs.List.{slice_get}
use Rattle.std.specs.Option.{is_some}
use Rattle.std.proofs.Math.Seq.{take-append_seam, drop-append_seam, take-append-add}
use Rattle.std.proofs.lemmas.List.{length-append, take-take, drop-take, drop-drop, take-append-drop}
use Rattle.capnp_model.specs.Segments.{Segments, Place, place, after, words_at}
use Rattle.capnp_model.specs.Sections.{words_of, section_of}
use Rattle.capnp_model.specs.Spelling.{AreWords}
use Rattle.capnp_model.proofs.lemmas.Chaining.{some_is}
use Rattle.capnp_model.proofs.lemmas.Numbers.{numbers_in-number_of}
use Rattle.capnp_wire_objects.specs.Inside.{section_at, words_there}
use Rattle.capnp_wire_objects.proofs.lemmas.Tags.{words_from, words_are}
use Rattle.capnp_model.proofs.lemmas.WordsInBytes.{AreWords-take, AreWords-drop}
use Rattle.capnp_wire_canonical.specs.Standing.{Hold, segment_words}
use Rattle.capnp_wire_canonical.proofs.Parts.{segment_of, there_is, there_words, there_length, section_is}

-- ---- parts

pub hold_parts : (s : Segments) (p : Place) (xs ys : List ℕ) → Hold s p (xs ++ ys) → Hold s p xs × Hold s (after p (length xs)) ys
hold_parts s p xs ys h =
    let n = length xs in
    let m = length ys in
    let all = length (xs ++ ys) in
    let a = words_from (slice_get s p.segment) p.position all (ap is_some h) in
    let ws : List ℕ = a.0 in
    let size : all ≡ n + m = length-append xs ys in
    let bound = a.2 in
    let z : List ℕ = drop p.position ws in
    let whole : take all z ≡ xs ++ ys = some_is _ _ (sym (words_are s p all ws a.1 bound) ∙ h) in
    let front : take n z ≡ xs = sym (take-take n all z (omega arith)) ∙ ap (take n) whole ∙ take-append_seam xs ys in
    let behind : take m (drop (p.position + n) ws) ≡ ys =
    ap (take m) (sym (drop-drop n p.position ws)) ∙ sym (drop-take n m z) ∙ ap (λ (j : ℕ). drop n (take j z)) (sym size) ∙ ap (drop n) whole ∙ drop-append_seam xs ys in
    (words_are s p n ws a.1 (omega arith) ∙ ap (λ (v : List ℕ). Some v) front, words_are s (after p n) m ws a.1 (omega arith) ∙ ap (λ (v : List ℕ). Some v) behind)

pub hold_both : (s : Segments) (p : Place) (xs ys : List ℕ) → Hold s p xs → Hold s (after p (length xs)) ys → Hold s p (xs ++ ys)
hold_both s p xs ys h j =
    let n = length xs in
    let m = length ys in
    let a = words_from (slice_get s p.segment) p.position n (ap is_some h) in
    let b = words_from (slice_get s p.segment) (p.position + n) m (ap is_some j) in
    let ws : List ℕ = a.0 in
    let same : b.0 ≡ ws = some_is _ _ (sym b.1 ∙ a.1) in
    let bound : p.position + n + m ≤ length ws = subst (λ (w : List ℕ). p.position + n + m ≤ length w) same b.2 in
    let z : List ℕ = drop p.position ws in
    let front : take n z ≡ xs = some_is _ _ (sym (words_are s p n ws a.1 a.2) ∙ h) in
    let behind : take m (drop n z) ≡ ys = ap (take m) (drop-drop n p.position ws) ∙ some_is _ _ (sym (words_are s (after p n) m ws a.1 bound) ∙ j) in
    let split : z ≡ xs ++ drop n z = sym (take-append-drop n z) ∙ ap (λ (v : List ℕ). v ++ drop n z) front in
    let size : length (xs ++ ys) ≡ n + m = length-append xs ys in
    words_are s p (length (xs ++ ys)) ws a.1 (omega arith)
    ∙ ap (λ (v : List ℕ). Some v) (ap (λ (i : ℕ). take i z) size ∙ ap (take (n + m)) split ∙ take-append-add xs (drop n z) m ∙ ap (λ (v : List ℕ). xs ++ v) behind)

pub hold_at : (s : Segments) (i j k : ℕ) (ws : List ℕ) → j ≡ k → Hold s (place i j) ws → Hold s (place i k) ws
hold_at s i j k ws e h = subst (λ (m : ℕ). Hold s (place i m) ws) e h

pub hold_none : (s : Segments) (p : Place) → is_some (words_at s p 0) ≡ true → Hold s p []
hold_none s p h = let a = words_from (slice_get s p.segment) p.position 0 h in words_are s p 0 a.0 a.1 a.2

-- the place behind
pub hold_end : (s : Segments) (p : Place) (xs : List ℕ) → Hold s p xs → is_some (words_at s (after p (length xs)) 0) ≡ true
hold_end s p xs h =
    let a = words_from (slice_get s p.segment) p.position (length xs) (ap is_some h) in
    let bound = a.2 in
    ap is_some (words_are s (after p (length xs)) 0 a.0 a.1 (omega arith))

-- ---- words that are there

-- a place that is there lies within its segment
pub place_within : (s : Segments) (p : Place) (n : ℕ) → is_some (words_at s p n) ≡ true → p.position + n ≤ length (segment_words s p.segment)
unfolding segment_words
place_within s p n h =
    let a = words_from (slice_get s p.segment) p.position n h in
    let is : unwrap_or (slice_get s p.segment) [] ≡ a.0 = ap (λ (o : Option (List ℕ)). unwrap_or o []) a.1 in
    subst (λ (ws : List ℕ). p.position + n ≤ length ws) (sym is) a.2

pub there_are_words : (s : Segments) (p : Place) (n : ℕ) → is_some (words_at s p n) ≡ true → AreWords (segment_words s p.segment) → AreWords (words_there s p n)
unfolding segment_words
there_are_words s p n there small =
    let a = segment_of s p n there in
    let is : unwrap_or (slice_get s p.segment) [] ≡ a.0 = ap (λ (o : Option (List ℕ)). unwrap_or o []) a.1 in
    subst AreWords (sym (there_words s p n there)) (AreWords-take n (drop p.position a.0) (AreWords-drop p.position a.0 (subst AreWords is small)))

-- the words of the section that is there
pub own_words_are : (s : Segments) (p : Place) (n : ℕ) → is_some (words_at s p n) ≡ true → AreWords (segment_words s p.segment) → words_of n (section_at s p n) ≡ words_there s p n
own_words_are s p n there small =
    let ws = words_there s p n in
    let long = there_length s p n there in
    ap (words_of n) (section_is s p n there) ∙ ap (λ (j : ℕ). words_of j (section_of ws)) (sym long) ∙ numbers_in-number_of 64 ws (there_are_words s p n there small)

pub hold_there : (s : Segments) (p : Place) (n : ℕ) → is_some (words_at s p n) ≡ true → Hold s p (words_there s p n)
hold_there s p n there = ap (words_at s p) (there_length s p n there) ∙ there_is s p n there

pub hold_own : (s : Segments) (p : Place) (n : ℕ) → is_some (words_at s p n) ≡ true → AreWords (segment_words s p.segment) → Hold s p (words_of n (section_at s p n))
hold_own s p n there small = subst (Hold s p) (sym (own_words_are s p n there small)) (hold_there s p n there)
