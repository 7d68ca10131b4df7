-- Pointers behind pads are written to objects that stand there.
use Rattle.std.proofs.Common.{◌≡◌, ℕ, suc, ◌+◌, List, Some, refl, sym, ◌∙◌, arith, ◌*◌, ◌^◌, ◌≤◌, ◌<◌, ap, true, false, Ok, [], ◌∷◌, eqb, leb, replicate, Result, ◌-◌, ltb}
use Rattle.std.proofs.lemmas.Bool.{le-leb}
use Rattle.std.proofs.lemmas.Bool.Decides.{nat_tests}
use Rattle.capnp_model.specs.Coverage.{Span, times_held, Grows, span, pad_of, pads_by, pads_at}
use Rattle.capnp_model.specs.Kinds.{Kind}
use Rattle.capnp_model.specs.Pointers.{Object, found_at, to_pad, pointer_of, begins, described, found_by}
use Rattle.capnp_model.specs.Sections.{bits_at}
use Rattle.capnp_model.specs.Segments.{Segments, Place, after, words_at, place, word_at}
use Rattle.capnp_model.specs.Traversal.{tree_at}
use Rattle.capnp_model.specs.Trees.{Tree, null}
use Rattle.capnp_model.proofs.lemmas.FineShapes.{found}
use Rattle.capnp_model.proofs.lemmas.Locality.{word_was, word_is}
use Rattle.capnp_model_writes.specs.Changes.{Changes, Replaces, absent}
use Rattle.capnp_model_writes.specs.Detached.{all_taken, Detached, AreZero, Reaches}
use Rattle.capnp_model_writes.specs.Footprints.{object_footprint, footprint}
use Rattle.capnp_model_writes.specs.NewObjects.{Fits, New, new_pointer, new_object, far_pointer, IsNamed, pointed, pointed_far, IsOffsetTo, double_far_pointer, pointed_double_far}
use Rattle.capnp_model_writes.specs.Writes.{with_words, spliced}
use Rattle.capnp_model_writes.proofs.lemmas.Algebra.{changes_lift, changes_then, beside_kept}
use Rattle.capnp_model_writes.proofs.lemmas.Detached.{zeros_at, zeros_kept, all_on, not_spare, object_beside}
use Rattle.capnp_model_writes.proofs.lemmas.Lift.{slot_is}
use Rattle.capnp_model_writes.proofs.lemmas.Nulls.{null_word}
use Rattle.capnp_model_writes.proofs.lemmas.Pointing.{Names, not_zero, new_names, far_pads, far_says}
use Rattle.capnp_model_writes.proofs.lemmas.Prepared.{starts_near}
use Rattle.capnp_model_writes.proofs.lemmas.Rows.{after_none}
use Rattle.capnp_model_writes.proofs.lemmas.Spans.{held, held_is, held_self, there, grows_then}
use Rattle.capnp_model_writes.proofs.lemmas.Splices.{Rewrites, splice_rewrites, splice_words, spliced_whole}
use Rattle.capnp_model_writes.proofs.lemmas.Writing.{rewrites_keep, written_word}
use Rattle.capnp_model_writes.proofs.lemmas.Zeros.{null_footprint}

-- the pad and the pointer are written
pointed_by_pad : (n : ℕ) (s u w : Segments) (p pad : Place) (v : Tree) (a : ℕ) (o : Object) (spare : List Span) → Detached n s u p null (span pad a ∷ spare) o v → Grows u w → ((q : Place) → absent u q ≡ absent w q) → ((q : Place) (z : ℕ) → held p 1 q ≡ 0 → held pad a q ≡ 0 → word_at u q ≡ Some z → word_at w q ≡ Some z)
    → found_at w p ≡ Ok (record { pads = a; object = o }) → pads_at w p ≡ span pad a ∷ [] → Replaces (suc n) s w p v
unfolding tree_at
pointed_by_pad n s u w p pad v a o spare h g more others found pads =
    let word_was : word_at u p ≡ Some 0 = null_word (suc n) u p h.value in
    let slot : (q : Place) → footprint (suc n) u p q ≡ held p 1 q = λ q. null_footprint (suc n) u p q word_was in
    let part : (q : Place) → times_held (span pad a ∷ spare) q ≡ held pad a q + times_held spare q = λ q. held_is pad a spare q in
    let c : Changes u w (λ q. held p 1 q + held pad a q) (λ q. held p 1 q + held pad a q) = record {
      grows = g;
      kept = λ q z e f. others q z (omega (arith, f)) (omega (arith, f)) e;
      within = λ q. omega arith;
      cleared = λ q z e f l. absurd (omega (arith, f, l, more q, there w q z e));
    } in
    let b = object_beside n u w o v (λ q. held p 1 q + held pad a q) (λ q. held p 1 q + held pad a q) c (λ q. omega (arith, h.apart q, slot q, part q)) h.object in
    let same : (q : Place) → object_footprint n w o q ≡ object_footprint n u o q = λ q. ap (λ (xs : List Span). times_held xs q) b.1 in
    let whole : (q : Place) → footprint (suc n) w p q ≡ held p 1 q + held pad a q + object_footprint n u o q = λ q. (
    let d = slot_is n w p (record { pads = a; object = o }) q found in
    let e : times_held (span p 1 ∷ pads_at w p) q ≡ times_held (span p 1 ∷ span pad a ∷ []) q = ap (λ (xs : List Span). times_held (span p 1 ∷ xs) q) pads in
    omega (arith, d, e, held_is p 1 (span pad a ∷ []) q, held_is pad a [] q, same q)
    ) in
    let lifted : Changes u w (all_taken n u p (span pad a ∷ spare) o) (λ q. footprint (suc n) w p q + times_held spare q) = changes_lift u w (λ q. held p 1 q + held pad a q) (λ q. held p 1 q + held pad a q) (all_taken n u p (span pad a ∷ spare) o) (λ q. footprint (suc n) w p q + times_held spare q) c (λ q. omega (arith, whole q, slot q, part q)) (λ q. omega (arith, slot q, part q)) in
    let all = changes_then s u w (footprint (suc n) s p) (all_taken n u p (span pad a ∷ spare) o) (λ q. footprint (suc n) w p q + times_held spare q) h.changes lifted (all_on n s u p null v (span pad a ∷ spare) o h) in
    let spare_now = zeros_kept u w spare (beside_kept u w (λ q. held p 1 q + held pad a q) (λ q. held p 1 q + held pad a q) spare c (λ q. omega (arith, h.apart q, slot q, part q))) h.zeros.1 in
    record {
      means = rw found b.0;
      changes = not_spare s w (footprint (suc n) s p) (λ q. footprint (suc n) w p q + times_held spare q) (footprint (suc n) w p) all (λ q. omega arith) (λ q l z. zeros_at w spare q spare_now (omega (arith, l, z)));
    }

pub far_found_at : (s : Segments) (p pad r : Place) (w o : ℕ) (make : Place → Object) → Names w o make → IsNamed pad → begins (after pad 1) o ≡ Ok r → word_at s p ≡ Some (far_pointer pad) → word_at s pad ≡ Some w → found_at s p ≡ Ok (record { pads = 1; object = make r })
far_found_at s p pad r w o make h l start e e' =
    let nz : eqb (far_pointer pad) 0 ≡ false = not_zero (far_pointer pad) (omega arith) in
    let one : words_at s pad 1 ≡ Some (w ∷ []) = word_is s pad w e' in
    rw (e, nz) (ap (found_by s p) (far_says pad l) ∙ by_pad one (h.names (begins (after pad 1)) r start))
  where
    by_pad : words_at s pad 1 ≡ Some (w ∷ []) → described (begins (after pad 1)) (pointer_of w) ≡ Ok (make r) → found_by s p (to_pad 1 pad) ≡ Ok (record { pads = 1; object = make r })
    by_pad one named = rw (one, named) refl

pub detached_far : (n : ℕ) (s u : Segments) (p pad : Place) (v : Tree) (r : Place) (offset : ℕ) (x : New) (spare : List Span) → Detached n s u p null (span pad 1 ∷ spare) (new_object r x) v → IsNamed pad → Reaches pad r offset → Fits x → Replaces (suc n) s (pointed_far u p pad (new_pointer offset x)) p v
detached_far n s u p pad v r offset x spare h named at fits =
    let m = pointed u pad (new_pointer offset x) in
    let w = pointed_far u p pad (new_pointer offset x) in
    let word_was : word_at u p ≡ Some 0 = null_word (suc n) u p h.value in
    let slot : (q : Place) → footprint (suc n) u p q ≡ held p 1 q = λ q. null_footprint (suc n) u p q word_was in
    let apart : (q : Place) → held p 1 q + held pad 1 q ≤ 1 = λ q. omega (arith, h.apart q, slot q, held_is pad 1 spare q) in
    let a : Rewrites u (pointed u pad (new_pointer offset x)) pad 1 = splice_rewrites u pad (new_pointer offset x ∷ []) in
    let b : Rewrites (pointed u pad (new_pointer offset x)) (pointed_far u p pad (new_pointer offset x)) p 1 = splice_rewrites (pointed u pad (new_pointer offset x)) p (far_pointer pad ∷ []) in
    let pad_was : word_at u pad ≡ Some 0 = word_was_zero h.zeros.0 in
    let pad_word : word_at (pointed u pad (new_pointer offset x)) pad ≡ Some (new_pointer offset x) = written_word u pad 0 (new_pointer offset x) pad_was in
    let pad_now : word_at (pointed_far u p pad (new_pointer offset x)) pad ≡ Some (new_pointer offset x) = b.others pad (new_pointer offset x) (omega (arith, apart pad, held_self pad)) pad_word in
    let slot_was : word_at (pointed u pad (new_pointer offset x)) p ≡ Some 0 = a.others p 0 (omega (arith, apart p, held_self p)) word_was in
    let word : word_at (pointed_far u p pad (new_pointer offset x)) p ≡ Some (far_pointer pad) = written_word (pointed u pad (new_pointer offset x)) p 0 (far_pointer pad) slot_was in
    let found = far_found_at (pointed_far u p pad (new_pointer offset x)) p pad r (new_pointer offset x) offset (λ q. new_object q x) (new_names offset x at.fits fits) named at.starts word pad_now in
    pointed_by_pad n s u (pointed_far u p pad (new_pointer offset x)) p pad v 1 (new_object r x) spare h (grows_then u (pointed u pad (new_pointer offset x)) (pointed_far u p pad (new_pointer offset x)) a.grows b.grows) (λ q. a.no_more q ∙ b.no_more q) (λ q z e f g. b.others q z e (a.others q z f g)) found (far_pads (pointed_far u p pad (new_pointer offset x)) p pad named word)
  where
    word_was_zero : AreZero u (span pad 1) → word_at u pad ≡ Some 0
    word_was_zero z = word_was u pad 0 z

-- ---- pads of two words

pub double_says : (pad : Place) → IsNamed pad → pointer_of (double_far_pointer pad) ≡ to_pad 2 pad
double_says pad l =
    let lj = l.position_fits in
    let li = l.segment_fits in
    let kind : bits_at 0 2 (6 + 8 * pad.position + 2 ^ 32 * pad.segment) ≡ 2 = omega (arith, lj, li) in
    let one : bits_at 2 1 (6 + 8 * pad.position + 2 ^ 32 * pad.segment) ≡ 1 = omega (arith, lj, li) in
    let segment : bits_at 32 32 (6 + 8 * pad.position + 2 ^ 32 * pad.segment) ≡ pad.segment = omega (arith, lj, li) in
    let position : bits_at 3 29 (6 + 8 * pad.position + 2 ^ 32 * pad.segment) ≡ pad.position = omega (arith, lj, li) in
    rw (kind, one, segment, position) refl

pub double_found : (s : Segments) (p pad r : Place) (w : ℕ) (make : Place → Object) → Names w 0 make → IsNamed pad → IsNamed r → word_at s p ≡ Some (double_far_pointer pad) → words_at s pad 2 ≡ Some (far_pointer r ∷ w ∷ []) → found_at s p ≡ Ok (record { pads = 2; object = make r })
double_found s p pad r w make h l m e e' =
    let nz : eqb (double_far_pointer pad) 0 ≡ false = not_zero (double_far_pointer pad) (omega arith) in
    let lj = m.position_fits in
    let li = m.segment_fits in
    let segment : bits_at 32 32 (2 + 8 * r.position + 2 ^ 32 * r.segment) ≡ r.segment = omega (arith, lj, li) in
    let position : bits_at 3 29 (2 + 8 * r.position + 2 ^ 32 * r.segment) ≡ r.position = omega (arith, lj, li) in
    let start : ◌≡◌ {A = Result Place Kind} (Ok (place (bits_at 32 32 (far_pointer r)) (bits_at 3 29 (far_pointer r)))) (Ok r) = ap (λ (q : Place). let o : Result Place Kind = Ok q in o) (ap (λ (i : ℕ). place i (bits_at 3 29 (far_pointer r))) segment ∙ ap (λ (j : ℕ). place r.segment j) position) in
    rw (e, nz) (ap (found_by s p) (double_says pad l) ∙ by_pad e' (h.names (λ _. Ok (place (bits_at 32 32 (far_pointer r)) (bits_at 3 29 (far_pointer r)))) r start))
  where
    by_pad : words_at s pad 2 ≡ Some (far_pointer r ∷ w ∷ []) → described (λ _. Ok (place (bits_at 32 32 (far_pointer r)) (bits_at 3 29 (far_pointer r)))) (pointer_of w) ≡ Ok (make r) → found_by s p (to_pad 2 pad) ≡ Ok (record { pads = 2; object = make r })
    by_pad two named = rw (two, named) refl

pub detached_double_far : (n : ℕ) (s u : Segments) (p pad : Place) (v : Tree) (r : Place) (x : New) (spare : List Span) → Detached n s u p null (span pad 2 ∷ spare) (new_object r x) v → IsNamed pad → IsNamed r → Fits x → Replaces (suc n) s (pointed_double_far u p pad r (new_pointer 0 x)) p v
detached_double_far n s u p pad v r x spare h named named' fits =
    let vs : List ℕ = far_pointer r ∷ (new_pointer 0 x ∷ []) in
    let m = with_words u pad (far_pointer r ∷ (new_pointer 0 x ∷ [])) in
    let w = pointed_double_far u p pad r (new_pointer 0 x) in
    let word_was : word_at u p ≡ Some 0 = null_word (suc n) u p h.value in
    let slot : (q : Place) → footprint (suc n) u p q ≡ held p 1 q = λ q. null_footprint (suc n) u p q word_was in
    let apart : (q : Place) → held p 1 q + held pad 2 q ≤ 1 = λ q. omega (arith, h.apart q, slot q, held_is pad 2 spare q) in
    let a : Rewrites u (with_words u pad (far_pointer r ∷ (new_pointer 0 x ∷ []))) pad 2 = splice_rewrites u pad (far_pointer r ∷ (new_pointer 0 x ∷ [])) in
    let b : Rewrites (with_words u pad (far_pointer r ∷ (new_pointer 0 x ∷ []))) (pointed_double_far u p pad r (new_pointer 0 x)) p 1 = splice_rewrites (with_words u pad (far_pointer r ∷ (new_pointer 0 x ∷ []))) p (double_far_pointer pad ∷ []) in
    let now : words_at (with_words u (after pad 0) (far_pointer r ∷ (new_pointer 0 x ∷ []))) pad 2 ≡ Some (spliced 0 (far_pointer r ∷ (new_pointer 0 x ∷ [])) (replicate 2 0)) = splice_words u pad 0 2 (far_pointer r ∷ (new_pointer 0 x ∷ [])) (replicate 2 0) (omega arith) h.zeros.0 in
    let whole : spliced 0 (far_pointer r ∷ (new_pointer 0 x ∷ [])) (replicate 2 0) ≡ far_pointer r ∷ (new_pointer 0 x ∷ []) = spliced_whole (far_pointer r ∷ (new_pointer 0 x ∷ [])) (replicate 2 0) refl in
    let pad_words : words_at (with_words u pad (far_pointer r ∷ (new_pointer 0 x ∷ []))) pad 2 ≡ Some (far_pointer r ∷ (new_pointer 0 x ∷ [])) = ap (λ (q : Place). words_at (with_words u q (far_pointer r ∷ (new_pointer 0 x ∷ []))) pad 2) (sym (after_none pad)) ∙ now ∙ ap (λ (ws : List ℕ). Some ws) whole in
    let pad_now : words_at (pointed_double_far u p pad r (new_pointer 0 x)) pad 2 ≡ Some (far_pointer r ∷ (new_pointer 0 x ∷ [])) = (rewrites_keep (with_words u pad (far_pointer r ∷ (new_pointer 0 x ∷ []))) (pointed_double_far u p pad r (new_pointer 0 x)) p 1 (span pad 2 ∷ []) b (λ q. omega (arith, apart q, held_is pad 2 [] q))).0 (far_pointer r ∷ (new_pointer 0 x ∷ [])) pad_words in
    let slot_was : word_at (with_words u pad (far_pointer r ∷ (new_pointer 0 x ∷ []))) p ≡ Some 0 = a.others p 0 (omega (arith, apart p, held_self p)) word_was in
    let word : word_at (pointed_double_far u p pad r (new_pointer 0 x)) p ≡ Some (double_far_pointer pad) = written_word (with_words u pad (far_pointer r ∷ (new_pointer 0 x ∷ []))) p 0 (double_far_pointer pad) slot_was in
    let found = double_found (pointed_double_far u p pad r (new_pointer 0 x)) p pad r (new_pointer 0 x) (λ q. new_object q x) (new_names 0 x (omega arith) fits) named named' word pad_now in
    let pads : pads_at (pointed_double_far u p pad r (new_pointer 0 x)) p ≡ span pad 2 ∷ [] = ap pads_by word ∙ ap pad_of (double_says pad named) in
    pointed_by_pad n s u (pointed_double_far u p pad r (new_pointer 0 x)) p pad v 2 (new_object r x) spare h (grows_then u (with_words u pad (far_pointer r ∷ (new_pointer 0 x ∷ []))) (pointed_double_far u p pad r (new_pointer 0 x)) a.grows b.grows) (λ q. a.no_more q ∙ b.no_more q) (λ q z e f g. b.others q z e (a.others q z f g)) found pads

-- ---- offsets

pub reaches_ahead : (p r : Place) (offset : ℕ) → IsOffsetTo p r offset → Reaches p r offset
reaches_ahead p r offset h = record { fits = (let l = h.short in omega (arith, l)); starts = starts_near p r offset h }

pub reaches_back : (p r : Place) (offset : ℕ) → r.segment ≡ p.segment → r.position + 2 ^ 30 ≡ p.position + 1 + offset → 2 ^ 29 ≤ offset → offset < 2 ^ 30 → Reaches p r offset
reaches_back p r offset same gap low high =
    let not_ahead : ltb offset (2 ^ 29) ≡ false = grind (arith, nat_tests) in
    let inside : leb (2 ^ 30) (p.position + 1 + offset) ≡ true = le-leb _ _ (omega (arith, gap)) in
    let at : p.position + 1 + offset - 2 ^ 30 ≡ r.position = omega (arith, gap) in
    record {
      fits = high;
      starts = rw (not_ahead, inside) (ap (λ (q : Place). let o : Result Place Kind = Ok q in o) (ap (λ (k : ℕ). place p.segment k) at ∙ ap (λ (i : ℕ). place i r.position) (sym same)));
    }
