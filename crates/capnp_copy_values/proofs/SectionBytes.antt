-- Bytes that become the data section of a struct.
use Rattle.std.specs.Bool.{⊤}
use Rattle.std.proofs.Common.{replicate, Option, Result, ◌≡◌, ℕ, suc, ◌+◌, ◌*◌, ◌≤◌, Bool, true, false, cond, ltb, List, [], ◌∷◌, ◌++◌, length, Some, refl, ap, sym, ◌∙◌, subst, arith}
use Rattle.std.specs.Option.{is_some}
use Rattle.std.proofs.lemmas.Bool.{ltb-true, ltb-false}
use Rattle.capnp_model.specs.Bytes.{words_in_bytes, AreBytes}
use Rattle.capnp_model.specs.Sections.{number_of, section_of, words_for}
use Rattle.capnp_model.specs.Segments.{Segments, Place, after, words_at}
use Rattle.capnp_model.specs.Pointers.{a_struct}
use Rattle.capnp_model.specs.Chains.{◌>>=◌}
use Rattle.capnp_model.specs.Trees.{Tree, structure, Trees}
use Rattle.capnp_model.specs.Coverage.{Grows, span}
use Rattle.capnp_model.specs.Visits.{Visit}
use Rattle.capnp_units.specs.declared.errors.Error.{Error}
use Rattle.capnp_units.specs.declared.limiter.ReadLimiter.{ReadLimiter}
use Rattle.capnp_model_writes.specs.Footprints.{OwnsObject}
use Rattle.capnp_model_writes.specs.Changes.{ReplacesObject}
use Rattle.capnp_model_writes.specs.Writes.{spliced, with_words}
use Rattle.capnp_model_writes.proofs.lemmas.Rows.{after_none}
use Rattle.capnp_model_writes.proofs.lemmas.Lift.{object_replaced_owned, object_replaced_then}
use Rattle.capnp_model_writes.proofs.lemmas.Spans.{grows_then}
use Rattle.capnp_model_writes.proofs.lemmas.Splices.{splice_grows, spliced_whole}
use Rattle.capnp_model_writes.proofs.lemmas.Writing.{struct_words}
use Rattle.capnp_copy_arenas.specs.Allocations.{total_words}
use Rattle.capnp_copy_arenas.specs.Blobs.{whole_of, last_of, front_of, with_bytes}
use Rattle.capnp_copy_arenas.proofs.lemmas.RoomLaws.{some_of}
use Rattle.capnp_copy_arenas.proofs.lemmas.BlobNumbers.{front_words_length, front_section, all_words, number_fits, filled}
use Rattle.capnp_copy_arenas.proofs.lemmas.BlobValues.{front_there}
use Rattle.capnp_model.proofs.lemmas.ReadFits.{words_length}
use Rattle.capnp_copy_values.specs.Copies.{CopyGives, Fills, FillsRow, LeavesRow, copy_of, copy_source, limited_words, sized_at}
use Rattle.capnp_copy_values.proofs.Made.{struct_fills, section_copied}
use Rattle.capnp_copy_values.proofs.Parts as parts
use Rattle.capnp_copy_values.proofs.Taking.{written_total}

pub bytes_grow : (s : Segments) (r : Place) (d : ℕ) (bytes : List ℕ) → Grows s (with_bytes s r d bytes)
bytes_grow s r d bytes = by_cases (ltb (whole_of bytes) d)
  where
    by_cases : (b : Bool) → Grows s (cond b (with_words (with_words s r (words_in_bytes (whole_of bytes) (front_of bytes))) (after r (whole_of bytes)) (last_of bytes ∷ [])) (with_words s r (words_in_bytes (whole_of bytes) (front_of bytes))))
    by_cases true = grows_then s (with_words s r (words_in_bytes (whole_of bytes) (front_of bytes))) _ (splice_grows s r _) (splice_grows (with_words s r (words_in_bytes (whole_of bytes) (front_of bytes))) (after r (whole_of bytes)) _)
    by_cases false = splice_grows s r _

pub bytes_total : (s : Segments) (r : Place) (d : ℕ) (bytes : List ℕ) → total_words (with_bytes s r d bytes) ≡ total_words s
bytes_total s r d bytes = by_cases (ltb (whole_of bytes) d)
  where
    by_cases : (b : Bool) → total_words (cond b (with_words (with_words s r (words_in_bytes (whole_of bytes) (front_of bytes))) (after r (whole_of bytes)) (last_of bytes ∷ [])) (with_words s r (words_in_bytes (whole_of bytes) (front_of bytes)))) ≡ total_words s
    by_cases true = written_total (with_words s r (words_in_bytes (whole_of bytes) (front_of bytes))) (after r (whole_of bytes)) _ ∙ written_total s r _
    by_cases false = written_total s r _

-- the words in front are written
front_written : (n : ℕ) (m : Segments) (r : Place) (d k own : ℕ) (kids : Trees) (vs ws : List ℕ) → length vs ≤ d → words_at m r d ≡ Some ws → OwnsObject n m (a_struct r d k) (structure d own kids)
    → ReplacesObject n m (with_words m r vs) (a_struct r d k) (structure d (section_of (spliced 0 vs ws)) kids)
front_written n m r d k own kids vs ws l there o =
    let fits : 0 + length vs ≤ d = omega (arith, l) in
    let all = struct_words n m r d k 0 d own kids vs ws fits there o in
    subst (λ (q : Place). ReplacesObject n m (with_words m q vs) (a_struct r d k) (structure d (section_of (spliced 0 vs ws)) kids)) (after_none r) all

pub section_written : (n : ℕ) (m : Segments) (r : Place) (d k own : ℕ) (kids : Trees) (bytes : List ℕ) → AreBytes bytes → d ≡ words_for (8 * length bytes) → is_some (words_at m r d) ≡ true → OwnsObject n m (a_struct r d k) (structure d own kids)
    → ReplacesObject n m (with_bytes m r d bytes) (a_struct r d k) (structure d (number_of 8 bytes) kids)
section_written n m r d k own kids bytes small fit there o = by_cases (ltb (whole_of bytes) d) refl
  where
    by_cases : (b : Bool) → ltb (whole_of bytes) d ≡ b → ReplacesObject n m (cond b (with_words (with_words m r (words_in_bytes (whole_of bytes) (front_of bytes))) (after r (whole_of bytes)) (last_of bytes ∷ [])) (with_words m r (words_in_bytes (whole_of bytes) (front_of bytes)))) (a_struct r d k) (structure d (number_of 8 bytes) kids)
    by_cases true less =
        let long : length (words_in_bytes (whole_of bytes) (front_of bytes)) ≡ whole_of bytes = front_words_length bytes in
        let l = ltb-true (whole_of bytes) d less in
        let one : d ≡ suc (length (words_in_bytes (whole_of bytes) (front_of bytes))) = omega (arith, l, fit, long) in
        let x = some_of m r d there in
        let few : length (words_in_bytes (whole_of bytes) (front_of bytes)) ≤ d = omega (arith, one) in
        let first = front_written n m r d k own kids (words_in_bytes (whole_of bytes) (front_of bytes)) x.0 few x.1 o in
        let there_now = front_there m r d (words_in_bytes (whole_of bytes) (front_of bytes)) x.0 few x.1 in
        let mine = object_replaced_owned n m (with_words m r (words_in_bytes (whole_of bytes) (front_of bytes))) (a_struct r d k) _ _ o first in
        let fits : whole_of bytes + length (last_of bytes ∷ []) ≤ d = omega (arith, one, long) in
        let second = struct_words n (with_words m r (words_in_bytes (whole_of bytes) (front_of bytes))) r d k (whole_of bytes) d _ kids (last_of bytes ∷ []) (spliced 0 (words_in_bytes (whole_of bytes) (front_of bytes)) x.0) fits there_now mine in
        let width : length x.0 ≡ suc (length (words_in_bytes (whole_of bytes) (front_of bytes))) = words_length m r d x.0 x.1 ∙ one in
        let words : spliced (whole_of bytes) (last_of bytes ∷ []) (spliced 0 (words_in_bytes (whole_of bytes) (front_of bytes)) x.0) ≡ words_in_bytes (whole_of bytes) (front_of bytes) ++ last_of bytes ∷ [] =
        ap (λ (j : ℕ). spliced j (last_of bytes ∷ []) (spliced 0 (words_in_bytes (whole_of bytes) (front_of bytes)) x.0)) (sym long) ∙ filled (words_in_bytes (whole_of bytes) (front_of bytes)) (last_of bytes) x.0 width in
        let number : section_of (spliced (whole_of bytes) (last_of bytes ∷ []) (spliced 0 (words_in_bytes (whole_of bytes) (front_of bytes)) x.0)) ≡ number_of 8 bytes = ap section_of words ∙ all_words bytes small in
        let both = object_replaced_then n m (with_words m r (words_in_bytes (whole_of bytes) (front_of bytes))) (with_words (with_words m r (words_in_bytes (whole_of bytes) (front_of bytes))) (after r (whole_of bytes)) (last_of bytes ∷ [])) (a_struct r d k) _ _ first second in
        subst (λ (j : ℕ). ReplacesObject n m (with_words (with_words m r (words_in_bytes (whole_of bytes) (front_of bytes))) (after r (whole_of bytes)) (last_of bytes ∷ [])) (a_struct r d k) (structure d j kids)) number both
    by_cases false least =
        let long : length (words_in_bytes (whole_of bytes) (front_of bytes)) ≡ whole_of bytes = front_words_length bytes in
        let l = ltb-false (whole_of bytes) d least in
        let same : d ≡ whole_of bytes = omega (arith, l, fit) in
        let x = some_of m r d there in
        let few : length (words_in_bytes (whole_of bytes) (front_of bytes)) ≤ d = omega (arith, same, long) in
        let first = front_written n m r d k own kids (words_in_bytes (whole_of bytes) (front_of bytes)) x.0 few x.1 o in
        let width : length (words_in_bytes (whole_of bytes) (front_of bytes)) ≡ length x.0 = long ∙ sym same ∙ sym (words_length m r d x.0 x.1) in
        let words : spliced 0 (words_in_bytes (whole_of bytes) (front_of bytes)) x.0 ≡ words_in_bytes (whole_of bytes) (front_of bytes) = spliced_whole (words_in_bytes (whole_of bytes) (front_of bytes)) x.0 width in
        let full : length bytes ≤ 8 * whole_of bytes = omega (arith, fit, same) in
        let number : section_of (spliced 0 (words_in_bytes (whole_of bytes) (front_of bytes)) x.0) ≡ number_of 8 bytes = ap section_of words ∙ front_section bytes small ∙ number_fits bytes (8 * whole_of bytes) full in
        subst (λ (j : ℕ). ReplacesObject n m (with_words m r (words_in_bytes (whole_of bytes) (front_of bytes))) (a_struct r d k) (structure d j kids)) number first

-- zero words that become a struct of these bytes, and of the pointers that are copied
pub section_fills : (levels : ℕ) (b : Segments) (p : Place) (from : Segments) (there : Option Trees) (path : List Visit) (bytes : List ℕ) (m w u : Segments) (r : Place) (d k : ℕ) (old new : ReadLimiter) (x : Result ⊤ Error) → AreBytes bytes → d ≡ words_for (8 * length bytes) → words_at m r (d + k) ≡ Some (replicate (d + k) 0) → w ≡ with_bytes m r d bytes
    → CopyGives (copy_of from there path) (FillsRow levels w u (sized_at r d k)) (LeavesRow (copy_source levels b p) w u (sized_at r d k)) (limited_words w old) x (limited_words u new)
    → CopyGives (copy_of from (there >>= λ ts. Some (structure d (number_of 8 bytes) ts)) path) (λ v. (n : ℕ) → levels ≤ n → Fills n m u (span r (d + k)) (a_struct r d k) v) ((t : Tree) × Fills levels m u (span r (d + k)) (a_struct r d k) t) (limited_words m old) x (limited_words u new)
section_fills levels b p from there path bytes m w u r d k old new x small fit zeros now g =
    let front : is_some (words_at m r d) ≡ true = parts.front_there m r (d + k) (ap is_some zeros) d (omega arith) in
    struct_fills levels from there path (number_of 8 bytes) m u r d k old new x zeros
    (section_copied levels b p from there path (number_of 8 bytes) m w u r d k old new x (subst (λ (v : Segments). Grows m v) (sym now) (bytes_grow m r d bytes)) (ap total_words now ∙ bytes_total m r d bytes)
    (λ n own kids o. subst (λ (v : Segments). ReplacesObject n m v (a_struct r d k) (structure d (number_of 8 bytes) kids)) (sym now) (section_written n m r d k own kids bytes small fit front o)) g)
