-- Words that stay where they are, and words that are written one behind the other.
use Rattle.std.proofs.Common.{◌≡◌, ℕ, zero, suc, ◌+◌, ◌-◌, ◌*◌, ◌<◌, ◌≤◌, true, false, List, [], ◌∷◌, ◌++◌, length, map, Option, Some, None, refl, ap, sym, ◌∙◌, subst, arith}
use Rattle.std.specs.List.{slice_get}
use Rattle.std.specs.Option.{is_some}
use Rattle.std.proofs.lemmas.Bool.{leb-true}
use Rattle.capnp_model.specs.Segments.{Segments, Place, place, after, word_at, words_at}
use Rattle.capnp_model.specs.Coverage.{Grows}
use Rattle.capnp_model.proofs.lemmas.Chaining.{some_is, bind_some, provided_some}
use Rattle.capnp_model.proofs.lemmas.Locality.{word_was}
use Rattle.capnp_model_writes.specs.Writes.{spliced, spliced_in, with_words, segment_end}
use Rattle.capnp_model_writes.proofs.lemmas.Spans.{words_front, words_back}
use Rattle.capnp_model_writes.proofs.lemmas.Rows.{words_grown, after_none}
use Rattle.capnp_model_writes.proofs.lemmas.Splices.{spliced_length, spliced_nothing, splice_grows}
use Rattle.capnp_wire_objects.specs.Places.{place_view}
use Rattle.capnp_wire_objects.specs.declared.place.Place as code
use Rattle.capnp_copy_arenas.specs.Allocations.{total_words}
use Rattle.capnp_copy_arenas.specs.Rooms.{HasPad, linked, slot_word}
use Rattle.capnp_copy_arenas.specs.declared.room.Room.{Room}
use Rattle.capnp_copy_arenas.specs.declared.room.Room.TheVariants.{Here, Near, Far}
use Rattle.capnp_model_writes.specs.NewObjects.{far_pointer, double_far_pointer}
use Rattle.capnp_copy_arenas.proofs.lemmas.RoomLaws.{some_of, still_some, still_written}
use Rattle.capnp_copy_arenas.proofs.lemmas.Parts.{section_there}
use Rattle.capnp_copy_arenas.proofs.lemmas.ZeroedWords.{spliced_sizes, written_sizes}
use Rattle.capnp_copy_arenas.proofs.lemmas.Ends.{get_short}
use Rattle.capnp_model.proofs.lemmas.ReadFits.{words_length}
use Rattle.capnp_copy_widening.specs.Moves.{HasPads, pointed_at, offset_to}

-- ---- what is there

pub one_word : (s : Segments) (p : Place) → is_some (words_at s p 1) ≡ true → (w : ℕ) × (word_at s p ≡ Some w)
one_word s p e = let x = some_of s p 1 e in one x.0 x.1 (words_length s p 1 x.0 x.1)
  where
    one : (ws : List ℕ) → words_at s p 1 ≡ Some ws → length ws ≡ 1 → (w : ℕ) × (word_at s p ≡ Some w)
    one [] f l = absurd (omega (arith, l))
    one (w ∷ []) f l = (w, word_was s p w f)
    one (a ∷ (b ∷ ws)) f l = absurd (omega (arith, l))

-- ---- words written behind others

spliced_empty : (k : ℕ) (vs : List ℕ) → spliced k vs [] ≡ []
unfolding spliced
spliced_empty zero vs = refl
spliced_empty (suc k) vs = refl

spliced_then : (j k : ℕ) (vs ws xs : List ℕ) → j ≡ k + length vs → spliced j ws (spliced k vs xs) ≡ spliced k (vs ++ ws) xs
unfolding spliced
spliced_then j k vs ws [] e = ap (spliced j ws) (spliced_empty k vs) ∙ spliced_empty j ws ∙ sym (spliced_empty k (vs ++ ws))
spliced_then zero zero [] ws (x ∷ xs) e = refl
spliced_then (suc j) zero [] ws (x ∷ xs) e = absurd (omega (arith, e))
spliced_then zero zero (v ∷ vs) ws (x ∷ xs) e = absurd (omega (arith, e))
spliced_then (suc j) zero (v ∷ vs) ws (x ∷ xs) e = ap (λ (ys : List ℕ). v ∷ ys) (spliced_then j zero vs ws xs (omega (arith, e)))
spliced_then zero (suc k) vs ws (x ∷ xs) e = absurd (omega (arith, e))
spliced_then (suc j) (suc k) vs ws (x ∷ xs) e = ap (λ (ys : List ℕ). x ∷ ys) (spliced_then j k vs ws xs (omega (arith, e)))

spliced_in_then : (s : Segments) (i j k : ℕ) (vs ws : List ℕ) → j ≡ k + length vs → spliced_in (spliced_in s i k vs) i j ws ≡ spliced_in s i k (vs ++ ws)
spliced_in_then [] i j k vs ws e = refl
spliced_in_then (xs ∷ s) zero j k vs ws e = ap (λ (ys : List ℕ). ys ∷ s) (spliced_then j k vs ws xs e)
spliced_in_then (xs ∷ s) (suc i) j k vs ws e = ap (λ (t : Segments). xs ∷ t) (spliced_in_then s i j k vs ws e)

pub written_then : (s : Segments) (p : Place) (n : ℕ) (vs ws : List ℕ) → n ≡ length vs → with_words (with_words s p vs) (after p n) ws ≡ with_words s p (vs ++ ws)
unfolding with_words
written_then s p n vs ws e = spliced_in_then s p.segment (p.position + n) p.position vs ws (ap (λ (m : ℕ). p.position + m) e)

spliced_none : (s : Segments) (i k : ℕ) → spliced_in s i k [] ≡ s
spliced_none [] i k = refl
spliced_none (xs ∷ s) zero k = ap (λ (ys : List ℕ). ys ∷ s) (spliced_nothing k xs)
spliced_none (xs ∷ s) (suc i) k = ap (λ (t : Segments). xs ∷ t) (spliced_none s i k)

pub written_none : (s : Segments) (p : Place) → with_words s p [] ≡ s
unfolding with_words
written_none s p = spliced_none s p.segment p.position

-- ---- where segments end

ended : (s : Segments) (i : ℕ) (xs : List ℕ) → slice_get s i ≡ Some xs → length xs ≤ total_words s
unfolding total_words
ended [] i xs e = absurd cc
ended (ws ∷ s) zero xs e = let is : ws ≡ xs = some_is _ _ e in let long : length ws ≡ length xs = ap length is in omega (arith, long)
ended (ws ∷ s) (suc i) xs e = let l = ended s i xs e in omega (arith, l)

pub within_total : (s : Segments) (p : Place) (n : ℕ) → is_some (words_at s p n) ≡ true → p.position + n ≤ total_words s
within_total s p n e =
    let x = some_of s p n e in
    let y = bind_some (slice_get s p.segment) _ x.0 x.1 in
    let g = provided_some _ _ _ y.2 in
    omega (arith, leb-true _ _ g.0, ended s p.segment y.0 y.1)

-- ---- pads

pub pads_stay : (s u : Segments) (pad : Option code.Place) (k : ℕ) → Grows s u → HasPads s pad k → HasPads u pad k
pads_stay s u None k g h = tt
pads_stay s u (Some p) k g h = (still_some s u (place_view p) (2 * k) g h.0, h.1)

pub pointed_sizes : (s : Segments) (p r : Place) (pad : Option code.Place) (w : ℕ) → map length (pointed_at s p r pad w) ≡ map length s
pointed_sizes s p r None w = written_sizes s p ((w + 4 * offset_to p r) ∷ [])
pointed_sizes s p r (Some pad) w = written_sizes (with_words s (place_view pad) (far_pointer r ∷ (w ∷ []))) p (double_far_pointer (place_view pad) ∷ []) ∙ written_sizes s (place_view pad) (far_pointer r ∷ (w ∷ []))

-- ---- a word and the end of its segment
