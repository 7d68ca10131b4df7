-- Rows of words in bytes.
use Rattle.std.proofs.Common.{◌≡◌, ℕ, zero, suc, ◌+◌, ◌-◌, ◌/◌, ◌≤◌, ◌<◌, true, List, [], ◌∷◌, ◌++◌, length, get_or, take, drop, set, Some, refl, ap, sym, ◌∙◌, arith}
use Rattle.std.specs.Int.{from_le_bytes, w64}
use Rattle.std.specs.List.{slice_get}
use Rattle.std.specs.Option.{is_some}
use Rattle.std.specs.Simd.{first_chunks}
use Rattle.std.proofs.Math.Seq.{drop-append_seam, drop-cons, set-append_seam, take-length}
use Rattle.std.proofs.lemmas.List.{take-append-drop, set-append_right, map-append, take-map, drop-map, length-append, length-take, length-drop, append_assoc}
use Rattle.capnp_model.specs.Sections.{words_of}
use Rattle.capnp_model.specs.Segments.{place, words_at}
use Rattle.capnp_model.proofs.lemmas.Chaining.{some_is}
use Rattle.capnp_units.specs.Segments.{whole_words, words_in}
use Rattle.capnp_wire_objects.specs.Inside.{words_there}
use Rattle.capnp_wire_objects.proofs.lemmas.Words.{chunks_are_words, segment_there}
use Rattle.capnp_wire_canonical.specs.Copies.{Behind}
use Rattle.capnp_wire_canonical.specs.Writes.{words_view, with_section_at}
use Rattle.capnp_wire_canonical.proofs.Parts.{segment_of, there_words}

-- a part of them is what is there
pub part_is_there : (s : List (List ℕ)) (i p n : ℕ) (bytes : List ℕ) → Some bytes ≡ slice_get s i → is_some (words_at (words_in s) (place i p) n) ≡ true → words_view (take n (drop p (first_chunks 8 (length bytes / 8) bytes))) ≡ words_there (words_in s) (place i p) n
part_is_there s i p n bytes e there =
    let a = segment_of (words_in s) (place i p) n there in
    let f = from_le_bytes w64 in
    let chunks = first_chunks 8 (length bytes / 8) bytes in
    let same : whole_words bytes ≡ a.0 = some_is _ _ (sym (segment_there s i bytes e) ∙ a.1) in
    sym (take-map f n (drop p chunks)) ∙ ap (take n) (sym (drop-map f p chunks)) ∙ ap (λ (ws : List ℕ). take n (drop p ws)) (chunks_are_words (length bytes / 8) bytes ∙ same) ∙ sym (there_words (words_in s) (place i p) n there)

-- words over those from a place on
pub row_put : (at count section : ℕ) (old new row : List (List ℕ)) → new ≡ take at old ++ (row ++ drop (at + count) old) → words_view row ≡ words_of count section → words_view new ≡ with_section_at at count section (words_view old)
unfolding with_section_at
row_put at count section old new row is e =
    let f = from_le_bytes w64 in
    ap words_view is ∙ map-append f (take at old) (row ++ drop (at + count) old) ∙ ap (λ (ws : List ℕ). words_view (take at old) ++ ws) (map-append f row (drop (at + count) old))
    ∙ ap (λ (ws : List ℕ). ws ++ (words_view row ++ words_view (drop (at + count) old))) (sym (take-map f at old))
    ∙ ap (λ (ws : List ℕ). take at (words_view old) ++ (words_view row ++ ws)) (sym (drop-map f (at + count) old))
    ∙ ap (λ (ws : List ℕ). take at (words_view old) ++ (ws ++ drop (at + count) (words_view old))) e

pub row_behind : (at count : ℕ) (old new row : List (List ℕ)) → new ≡ take at old ++ (row ++ drop (at + count) old) → length row ≡ count → at + count ≤ length old → Behind (at + count) old new
row_behind at count old new row is long room =
    let front = take at old ++ row in
    let size : length front ≡ at + count = omega (arith, length-append (take at old) row, length-take at old) in
    let whole : new ≡ front ++ drop (at + count) old = is ∙ sym (append_assoc (take at old) row (drop (at + count) old)) in (
      ap length whole ∙ omega (arith, length-append front (drop (at + count) old), length-drop (at + count) old),
      ap (drop (at + count)) whole ∙ ap (λ (j : ℕ). drop j (front ++ drop (at + count) old)) (sym size) ∙ drop-append_seam front (drop (at + count) old),
    )

-- ---- one word after the other

take_one : (i : ℕ) (row : List (List ℕ)) → i < length row → take (suc i) row ≡ take i row ++ (get_or row i [] ∷ [])
take_one i [] h = absurd (omega arith)
take_one zero (r ∷ rs) h = refl
take_one (suc i) (r ∷ rs) h = ap (λ (ws : List (List ℕ)). r ∷ ws) (take_one i rs (omega arith))

-- The first words of a row over those from a place on.
abbrev pub laid : ℕ → ℕ → List (List ℕ) → List (List ℕ) → List (List ℕ)
laid at i row old = take at old ++ (take i row ++ drop (at + i) old)

pub laid_none : (at : ℕ) (row old : List (List ℕ)) → old ≡ laid at 0 row old
laid_none at row old = let none : at ≡ at + 0 = omega arith in sym (take-append-drop at old) ∙ ap (λ (n : ℕ). take at old ++ drop n old) none

pub laid_more : (at i : ℕ) (row old : List (List ℕ)) → i < length row → at + length row ≤ length old → set (laid at i row old) (at + i) (get_or row i []) ≡ laid at (i + 1) row old
laid_more at i row old h room =
    let w = get_or row i [] in
    let front = take at old in
    let mid = take i row in
    let rest = drop (suc (at + i)) old in
    let long : length front ≡ at = omega (arith, length-take at old) in
    let most : length mid ≡ i = omega (arith, length-take i row) in
    let back : at + i - at ≡ i = omega arith in
    let one : suc i ≡ i + 1 = omega arith in
    let next : suc (at + i) ≡ at + (i + 1) = omega arith in
    set-append_right front (mid ++ drop (at + i) old) at (at + i) w long (omega arith) ∙ ap (λ (n : ℕ). front ++ set (mid ++ drop (at + i) old) n w) (back ∙ sym most) ∙ ap (λ (ws : List (List ℕ)). front ++ set (mid ++ ws) (length mid) w) (drop-cons old (at + i) [] (omega arith))
    ∙ ap (λ (ws : List (List ℕ)). front ++ ws) (set-append_seam mid (get_or old (at + i) []) rest w)
    ∙ ap (λ (ws : List (List ℕ)). front ++ ws) (sym (append_assoc mid (w ∷ []) rest)) ∙ ap (λ (ws : List (List ℕ)). front ++ (ws ++ rest)) (sym (take_one i row h))
    ∙ ap (λ (n : ℕ). front ++ (take n row ++ rest)) one ∙ ap (λ (n : ℕ). front ++ (take (i + 1) row ++ drop n old)) next

-- one by one from the first on
pub laid_first : (at : ℕ) (row old : List (List ℕ)) → 0 < length row → at + length row ≤ length old → set old at (get_or row 0 []) ≡ laid at 1 row old
laid_first at row old h room =
    let here : at ≡ at + 0 = omega arith in
    ap (λ (j : ℕ). set old j (get_or row 0 [])) here ∙ ap (λ (ws : List (List ℕ)). set ws (at + 0) (get_or row 0 [])) (laid_none at row old) ∙ laid_more at 0 row old h room

pub laid_next : (at i : ℕ) (row old ws : List (List ℕ)) → ws ≡ laid at i row old → i < length row → at + length row ≤ length old → set ws (at + i) (get_or row i []) ≡ laid at (i + 1) row old
laid_next at i row old ws is h room = ap (λ (vs : List (List ℕ)). set vs (at + i) (get_or row i [])) is ∙ laid_more at i row old h room

pub laid_all : (at i : ℕ) (row old : List (List ℕ)) → i ≡ length row → laid at i row old ≡ take at old ++ (row ++ drop (at + length row) old)
laid_all at i row old e = ap (λ (n : ℕ). laid at n row old) e ∙ ap (λ (ws : List (List ℕ)). take at old ++ (ws ++ drop (at + length row) old)) (take-length row)
