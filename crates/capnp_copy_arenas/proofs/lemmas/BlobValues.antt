-- Bytes written into a new list of zeros.
use Rattle.std.proofs.Common.{◌≡◌, ℕ, suc, ◌+◌, ◌*◌, ◌%◌, ◌^◌, ◌≤◌, Bool, true, false, cond, ltb, List, [], ◌∷◌, ◌++◌, length, Some, refl, ap, sym, ◌∙◌, subst, arith}
use Rattle.std.specs.Option.{is_some}
use Rattle.std.proofs.lemmas.Bool.{ltb-true, ltb-false}
use Rattle.capnp_model.specs.Bytes.{words_in_bytes, AreBytes}
use Rattle.capnp_model.specs.Sections.{number_of, section_of, words_for}
use Rattle.capnp_model.specs.Segments.{Segments, Place, after, words_at}
use Rattle.capnp_model.specs.Pointers.{Object, a_list, Found}
use Rattle.capnp_model.specs.Trees.{Tree, plain_list}
use Rattle.capnp_model_writes.specs.Footprints.{OwnsObject}
use Rattle.capnp_model_writes.specs.Changes.{ReplacesObject}
use Rattle.capnp_model_writes.specs.Writes.{spliced, with_words}
use Rattle.capnp_model_writes.proofs.lemmas.Rows.{after_none}
use Rattle.capnp_model_writes.proofs.lemmas.Levels.{owned_more}
use Rattle.capnp_model_writes.proofs.lemmas.Lift.{object_of_pointer, pointer_of_object, replaced_owned, replaced_then, object_replaced_owned, object_replaced_then}
use Rattle.capnp_model_writes.proofs.lemmas.Splices.{splice_words, spliced_whole}
use Rattle.capnp_model_writes.proofs.lemmas.Writing.{plain_words}
use Rattle.capnp_model.proofs.lemmas.ReadFits.{words_length}
use Rattle.capnp_copy_arenas.specs.Blobs.{whole_of, last_of, front_of, with_bytes}
use Rattle.capnp_copy_arenas.specs.Values.{Becomes, LeadsTo}
use Rattle.capnp_copy_arenas.proofs.lemmas.RoomLaws.{some_of}
use Rattle.capnp_copy_arenas.proofs.lemmas.BlobNumbers.{front_words_length, front_section, all_words, number_fits, filled}

-- the words in front are written
front_written : (n : ℕ) (m : Segments) (r : Place) (count w : ℕ) (t : Tree) (vs ws : List ℕ) → w ≡ words_for (8 * count) → length vs ≤ w → words_at m r w ≡ Some ws → OwnsObject n m (a_list r 2 count) t
    → ReplacesObject n m (with_words m r vs) (a_list r 2 count) (plain_list 2 count (section_of (spliced 0 vs ws) % 2 ^ (8 * count)))
front_written n m r count w t vs ws we l there o =
    let there' : words_at m r (words_for (8 * count)) ≡ Some ws = subst (λ (k : ℕ). words_at m r k ≡ Some ws) we there in
    let fits : 0 + length vs ≤ words_for (8 * count) = omega (arith, l, we) in
    let all = plain_words n m r 2 count 0 t vs ws refl fits there' o in
    subst (λ (q : Place). ReplacesObject n m (with_words m q vs) (a_list r 2 count) (plain_list 2 count (section_of (spliced 0 vs ws) % 2 ^ (8 * count)))) (after_none r) all

pub front_there : (m : Segments) (r : Place) (w : ℕ) (vs ws : List ℕ) → length vs ≤ w → words_at m r w ≡ Some ws → words_at (with_words m r vs) r w ≡ Some (spliced 0 vs ws)
front_there m r w vs ws l there =
    let fits : 0 + length vs ≤ w = omega (arith, l) in
    subst (λ (q : Place). words_at (with_words m q vs) r w ≡ Some (spliced 0 vs ws)) (after_none r) (splice_words m r 0 w vs ws fits there)

pub bytes_written : (n : ℕ) (m : Segments) (r : Place) (count w : ℕ) (bytes : List ℕ) (t : Tree) → AreBytes bytes → length bytes ≤ count → w ≡ words_for (8 * count) → whole_of bytes ≤ w → w ≤ whole_of bytes + 1 → is_some (words_at m r w) ≡ true → OwnsObject n m (a_list r 2 count) t
    → ReplacesObject n m (with_bytes m r w bytes) (a_list r 2 count) (plain_list 2 count (number_of 8 bytes))
bytes_written n m r count w bytes t small fit we low high there o = by_cases (ltb (whole_of bytes) w) refl
  where
    by_cases : (b : Bool) → ltb (whole_of bytes) w ≡ b → ReplacesObject n m (cond b (with_words (with_words m r (words_in_bytes (whole_of bytes) (front_of bytes))) (after r (whole_of bytes)) (last_of bytes ∷ [])) (with_words m r (words_in_bytes (whole_of bytes) (front_of bytes)))) (a_list r 2 count) (plain_list 2 count (number_of 8 bytes))
    by_cases true less =
        let vs = words_in_bytes (whole_of bytes) (front_of bytes) in
        let long : length (words_in_bytes (whole_of bytes) (front_of bytes)) ≡ whole_of bytes = front_words_length bytes in
        let l = ltb-true (whole_of bytes) w less in
        let one : w ≡ suc (length (words_in_bytes (whole_of bytes) (front_of bytes))) = omega (arith, l, high, long) in
        let x = some_of m r w there in
        let few : length (words_in_bytes (whole_of bytes) (front_of bytes)) ≤ w = omega (arith, one) in
        let first = front_written n m r count w t (words_in_bytes (whole_of bytes) (front_of bytes)) x.0 we few x.1 o in
        let there_now = front_there m r w (words_in_bytes (whole_of bytes) (front_of bytes)) x.0 few x.1 in
        let mine = object_replaced_owned n m (with_words m r (words_in_bytes (whole_of bytes) (front_of bytes))) (a_list r 2 count) _ _ o first in
        let there' : words_at (with_words m r (words_in_bytes (whole_of bytes) (front_of bytes))) r (words_for (8 * count)) ≡ Some (spliced 0 (words_in_bytes (whole_of bytes) (front_of bytes)) x.0) = subst (λ (k : ℕ). words_at (with_words m r (words_in_bytes (whole_of bytes) (front_of bytes))) r k ≡ Some (spliced 0 (words_in_bytes (whole_of bytes) (front_of bytes)) x.0)) we there_now in
        let fits : whole_of bytes + length (last_of bytes ∷ []) ≤ words_for (8 * count) = omega (arith, one, long, we) in
        let second = plain_words n (with_words m r (words_in_bytes (whole_of bytes) (front_of bytes))) r 2 count (whole_of bytes) _ (last_of bytes ∷ []) (spliced 0 (words_in_bytes (whole_of bytes) (front_of bytes)) x.0) refl fits there' mine in
        let width : length x.0 ≡ suc (length (words_in_bytes (whole_of bytes) (front_of bytes))) = words_length m r w x.0 x.1 ∙ one in
        let words : spliced (whole_of bytes) (last_of bytes ∷ []) (spliced 0 (words_in_bytes (whole_of bytes) (front_of bytes)) x.0) ≡ words_in_bytes (whole_of bytes) (front_of bytes) ++ last_of bytes ∷ [] =
        ap (λ (k : ℕ). spliced k (last_of bytes ∷ []) (spliced 0 (words_in_bytes (whole_of bytes) (front_of bytes)) x.0)) (sym long) ∙ filled (words_in_bytes (whole_of bytes) (front_of bytes)) (last_of bytes) x.0 width in
        let number : section_of (spliced (whole_of bytes) (last_of bytes ∷ []) (spliced 0 (words_in_bytes (whole_of bytes) (front_of bytes)) x.0)) % 2 ^ (8 * count) ≡ number_of 8 bytes = ap (λ (v : List ℕ). section_of v % 2 ^ (8 * count)) words ∙ ap (λ (k : ℕ). k % 2 ^ (8 * count)) (all_words bytes small) ∙ number_fits bytes count fit in
        let both = object_replaced_then n m (with_words m r (words_in_bytes (whole_of bytes) (front_of bytes))) (with_words (with_words m r (words_in_bytes (whole_of bytes) (front_of bytes))) (after r (whole_of bytes)) (last_of bytes ∷ [])) (a_list r 2 count) _ _ first second in
        subst (λ (k : ℕ). ReplacesObject n m (with_words (with_words m r (words_in_bytes (whole_of bytes) (front_of bytes))) (after r (whole_of bytes)) (last_of bytes ∷ [])) (a_list r 2 count) (plain_list 2 count k)) number both
    by_cases false least =
        let long : length (words_in_bytes (whole_of bytes) (front_of bytes)) ≡ whole_of bytes = front_words_length bytes in
        let l = ltb-false (whole_of bytes) w least in
        let same : w ≡ whole_of bytes = omega (arith, l, low) in
        let x = some_of m r w there in
        let few : length (words_in_bytes (whole_of bytes) (front_of bytes)) ≤ w = omega (arith, same, long) in
        let first = front_written n m r count w t (words_in_bytes (whole_of bytes) (front_of bytes)) x.0 we few x.1 o in
        let width : length (words_in_bytes (whole_of bytes) (front_of bytes)) ≡ length x.0 = long ∙ sym same ∙ sym (words_length m r w x.0 x.1) in
        let words : spliced 0 (words_in_bytes (whole_of bytes) (front_of bytes)) x.0 ≡ words_in_bytes (whole_of bytes) (front_of bytes) = spliced_whole (words_in_bytes (whole_of bytes) (front_of bytes)) x.0 width in
        let full : length bytes ≤ 8 * whole_of bytes = omega (arith, fit, we, same) in
        let number : section_of (spliced 0 (words_in_bytes (whole_of bytes) (front_of bytes)) x.0) % 2 ^ (8 * count) ≡ number_of 8 bytes = ap (λ (v : List ℕ). section_of v % 2 ^ (8 * count)) words ∙ ap (λ (k : ℕ). k % 2 ^ (8 * count)) (front_section bytes small ∙ number_fits bytes (8 * whole_of bytes) full) ∙ number_fits bytes count fit in
        subst (λ (k : ℕ). ReplacesObject n m (with_words m r (words_in_bytes (whole_of bytes) (front_of bytes))) (a_list r 2 count) (plain_list 2 count k)) number first

-- what is found over so many pads
found_over : ℕ → Object → Found
found_over k o = record { pads = k; object = o }

pub blob_made : (s m : Segments) (p r : Place) (count w : ℕ) (bytes : List ℕ) → AreBytes bytes → length bytes ≤ count → w ≡ words_for (8 * count) → whole_of bytes ≤ w → w ≤ whole_of bytes + 1 → is_some (words_at m r w) ≡ true → Becomes s m p (plain_list 2 count 0) → LeadsTo m p (a_list r 2 count)
    → Becomes s (with_bytes m r w bytes) p (plain_list 2 count (number_of 8 bytes))
unfolding found_over
blob_made s m p r count w bytes small fit we low high there b lead = λ n t o. (
    let o1 = owned_more n (suc n) s p t (omega arith) o in
    let rep = b n t o in
    let mine = replaced_owned (suc n) s m p t (plain_list 2 count 0) o1 rep in
    let own = object_of_pointer n m p (found_over lead.0 (a_list r 2 count)) (plain_list 2 count 0) lead.1 mine in
    let written = bytes_written n m r count w bytes (plain_list 2 count 0) small fit we low high there own in
    let up = pointer_of_object n m (with_bytes m r w bytes) p (found_over lead.0 (a_list r 2 count)) (plain_list 2 count 0) (plain_list 2 count (number_of 8 bytes)) lead.1 mine written in
    replaced_then (suc n) s m (with_bytes m r w bytes) p (plain_list 2 count 0) (plain_list 2 count (number_of 8 bytes)) rep up
    )
