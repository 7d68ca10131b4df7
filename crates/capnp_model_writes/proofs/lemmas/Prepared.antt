-- A pointer to words that were prepared for it.
use Rattle.std.proofs.Common.{◌≡◌, ℕ, zero, suc, ◌+◌, List, Some, refl, subst, sym, ◌∙◌, arith, ◌^◌, ◌≤◌, ◌<◌, ap, Ok, [], ◌∷◌, ◌≢◌, length, replicate, Result, ◌-◌}
use Rattle.capnp_model.specs.Coverage.{Span, times_held, Grows, span, pads_at}
use Rattle.capnp_model.specs.Kinds.{Kind}
use Rattle.capnp_model.specs.Pointers.{found_at, begins}
use Rattle.capnp_model.specs.Segments.{Segments, Place, after, words_at, place, word_at}
use Rattle.capnp_model.specs.Traversal.{tree_at}
use Rattle.capnp_model.specs.Trees.{Tree, null}
use Rattle.capnp_model.proofs.lemmas.Locality.{word_was, word_is}
use Rattle.capnp_model.proofs.lemmas.PointerWords.{begins_behind, begins_here}
use Rattle.capnp_model.proofs.lemmas.ReadFits.{words_length}
use Rattle.capnp_model_writes.specs.Changes.{Changes, Replaces, absent}
use Rattle.capnp_model_writes.specs.Footprints.{footprint, Owns}
use Rattle.capnp_model_writes.specs.NewObjects.{Fits, new_list, New, new_struct, filled_list, new_pointers, new_structs, new_pointer, new_object, far_pointer, IsNamed, new_words, new_tree, pointed, pointed_far, Prepared, IsOffsetTo}
use Rattle.capnp_model_writes.specs.Writes.{with_words, spliced, with_zeros, segment_end}
use Rattle.capnp_model_writes.proofs.lemmas.Algebra.{On, changes_then, changes_alike, beside_kept}
use Rattle.capnp_model_writes.proofs.lemmas.Growing.{zeros_extend, held_not}
use Rattle.capnp_model_writes.proofs.lemmas.Levels.{grown_value}
use Rattle.capnp_model_writes.proofs.lemmas.Lift.{value_on, slot_is}
use Rattle.capnp_model_writes.proofs.lemmas.NewKinds.{is_new}
use Rattle.capnp_model_writes.proofs.lemmas.Nulls.{null_word}
use Rattle.capnp_model_writes.proofs.lemmas.Pointing.{new_names, near_found, near_pads, far_found, far_pads}
use Rattle.capnp_model_writes.proofs.lemmas.Rows.{footprint_is, after_none}
use Rattle.capnp_model_writes.proofs.lemmas.Spans.{words_back, held, held_is, held_split, held_self, there, words_front, grows_then, held_le, held_segment, held_low, held_high}
use Rattle.capnp_model_writes.proofs.lemmas.Splices.{Rewrites, splice_rewrites, splice_words, spliced_whole}
use Rattle.capnp_model_writes.proofs.lemmas.There.{words_there}
use Rattle.capnp_model_writes.proofs.lemmas.Writing.{wider, rewrites_keep, written_word}
use Rattle.capnp_model_writes.proofs.lemmas.Zeros.{held_none, null_footprint}

-- ---- what is prepared

both : (p r : Place) (k : ℕ) (q : Place) → times_held (span p 1 ∷ span r k ∷ []) q ≡ held p 1 q + held r k q
both p r k q = omega (arith, held_is p 1 (span r k ∷ []) q, held_is r k [] q)

replaced_by_null : (n : ℕ) (s u : Segments) (p : Place) → Replaces n s u p null → Changes s u (footprint n s p) (held p 1)
replaced_by_null n s u p h = changes_alike s u (footprint n s p) (footprint n u p) (footprint n s p) (held p 1) h.changes (λ q. refl) (λ q. sym (null_footprint n u p q (null_word n u p h.means)))

pub prepared_new : (n : ℕ) (s u : Segments) (p : Place) (t : Tree) (i k : ℕ) → i ≤ length s → Owns (suc n) s p t → Replaces (suc n) (with_zeros s i k) u p null → Prepared n s u p (place i (segment_end s i)) k (replicate k 0)
prepared_new n s u p t i k l o h =
    let r = place i (segment_end s i) in
    let m = with_zeros s i k in
    let x = zeros_extend s i k l in
    let v = grown_value (suc n) s (with_zeros s i k) p (place i (segment_end s i)) k t o x in
    let same : (q : Place) → footprint (suc n) (with_zeros s i k) p q ≡ footprint (suc n) s p q = λ q. ap (λ (xs : List Span). times_held (span p 1 ∷ xs) q) v.1 in
    let c = replaced_by_null (suc n) (with_zeros s i k) u p h in
    let beside : (q : Place) → footprint (suc n) s p q + held (place i (segment_end s i)) k q ≤ 1 = λ q. apart_new q (footprint (suc n) s p q) refl in
    let slot : (q : Place) → held p 1 q ≤ footprint (suc n) s p q = λ q. omega (arith, footprint_is (suc n) s p q) in
    let zeros_kept : words_at u (place i (segment_end s i)) k ≡ Some (replicate k 0) = (beside_kept (with_zeros s i k) u (footprint (suc n) (with_zeros s i k) p) (held p 1) (span (place i (segment_end s i)) k ∷ []) c (λ q. omega (arith, beside q, same q, held_is (place i (segment_end s i)) k [] q))).0 (replicate k 0) x.zeros in
    record {
      null_there = null_word (suc n) u p h.means;
      words_there = zeros_kept;
      changes = record {
        grows = grows_then s (with_zeros s i k) u x.grows c.grows;
        kept = λ q w e z. c.kept q w (x.kept q w e) (omega (arith, same q, z));
        within = λ q. omega (arith, both p (place i (segment_end s i)) k q, slot q, x.only q);
        cleared = λ q w e z a. c.cleared q w e (omega (arith, both p (place i (segment_end s i)) k q, z)) (omega (arith, both p (place i (segment_end s i)) k q, z, same q, x.only q, a));
      };
      apart = λ q. omega (arith, both p (place i (segment_end s i)) k q, beside q, slot q);
    }
  where
    apart_new : (q : Place) (a : ℕ) → a ≡ footprint (suc n) s p q → footprint (suc n) s p q + held (place i (segment_end s i)) k q ≤ 1
    apart_new q zero e = omega (arith, e, held_le (place i (segment_end s i)) k q)
    apart_new q (suc a) e =
        let y = value_on (suc n) s p t o.means q (omega (arith, e)) in
        omega (arith, o.apart q, (zeros_extend s i k l).only q, there s q y.0 y.1)

-- no words, at a place that is there
prepared_none : (n : ℕ) (s u : Segments) (p r : Place) → Replaces (suc n) s u p null → words_at u r 0 ≡ Some [] → Prepared n s u p r 0 []
prepared_none n s u p r h e =
    record {
      null_there = null_word (suc n) u p h.means;
      words_there = e;
      changes = changes_alike s u (footprint (suc n) s p) (held p 1) (footprint (suc n) s p) (times_held (span p 1 ∷ span r 0 ∷ [])) (replaced_by_null (suc n) s u p h) (λ q. refl) (λ q. omega (arith, both p r 0 q, held_none r q));
      apart = λ q. omega (arith, both p r 0 q, held_none r q, held_le p 1 q);
    }

pub prepared_here : (n : ℕ) (s u : Segments) (p : Place) → Replaces (suc n) s u p null → Prepared n s u p p 0 []
prepared_here n s u p h =
    let e : words_at u p (0 + 1) ≡ Some (0 ∷ []) = word_is u p 0 (null_word (suc n) u p h.means) in
    prepared_none n s u p p h (words_front u p 0 1 (0 ∷ []) e)

pub prepared_next : (n : ℕ) (s u : Segments) (p : Place) → Replaces (suc n) s u p null → Prepared n s u p (after p 1) 0 []
prepared_next n s u p h =
    let e : words_at u p (1 + 0) ≡ Some (0 ∷ []) = word_is u p 0 (null_word (suc n) u p h.means) in
    prepared_none n s u p (after p 1) h (words_back u p 1 0 (0 ∷ []) e)

on_prepared : (n : ℕ) (s u : Segments) (p r : Place) (k : ℕ) (ws : List ℕ) → Prepared n s u p r k ws → On u (times_held (span p 1 ∷ span r k ∷ []))
on_prepared n s u p r k ws h q l = words_there u (span p 1 ∷ span r k ∷ []) q ((0 ∷ [], word_is u p 0 h.null_there), ((ws, h.words_there), tt)) l

-- rewriting what is prepared changes nothing else
rewritten : (n : ℕ) (s u v : Segments) (p r : Place) (k : ℕ) (ws : List ℕ) → Prepared n s u p r k ws → Grows u v → ((q : Place) → absent u q ≡ absent v q) → ((q : Place) (w : ℕ) → held p 1 q ≡ 0 → held r k q ≡ 0 → word_at u q ≡ Some w → word_at v q ≡ Some w) → Changes s v (footprint (suc n) s p) (times_held (span p 1 ∷ span r k ∷ []))
rewritten n s u v p r k ws h g no_more others =
    let c = times_held (span p 1 ∷ span r k ∷ []) in
    let x : Changes u v (times_held (span p 1 ∷ span r k ∷ [])) (times_held (span p 1 ∷ span r k ∷ [])) = record {
      grows = g;
      kept = λ q w e z. others q w (omega (arith, both p r k q, z)) (omega (arith, both p r k q, z)) e;
      within = λ q. omega arith;
      cleared = λ q w e z l. absurd (omega (arith, z, l, no_more q, there v q w e));
    } in
    changes_then s u v (footprint (suc n) s p) (times_held (span p 1 ∷ span r k ∷ [])) (times_held (span p 1 ∷ span r k ∷ [])) h.changes x (on_prepared n s u p r k ws h)

pub prepared_written : (n : ℕ) (s u : Segments) (p r : Place) (i k : ℕ) (vs ws : List ℕ) → i + length vs ≤ k → Prepared n s u p r k ws → Prepared n s (with_words u (after r i) vs) p r k (spliced i vs ws)
prepared_written n s u p r i k vs ws l h =
    let x : Rewrites u (with_words u (after r i) vs) r k = wider u (with_words u (after r i) vs) r i (length vs) k l (splice_rewrites u (after r i) vs) in
    record {
      null_there = x.others p 0 (omega (arith, h.apart p, both p r k p, held_self p)) h.null_there;
      words_there = splice_words u r i k vs ws l h.words_there;
      changes = rewritten n s u (with_words u (after r i) vs) p r k ws h x.grows x.no_more (λ q w a b e. x.others q w b e);
      apart = h.apart;
    }

-- ---- the pointer is written

pub near_new : (n : ℕ) (s u : Segments) (p r : Place) (offset k : ℕ) (x : New) → Prepared n s u p r k (new_words x) → begins (after p 1) offset ≡ Ok r → offset < 2 ^ 30 → 0 < new_pointer offset x → Fits x → Replaces (suc n) s (pointed u p (new_pointer offset x)) p (new_tree x)
unfolding tree_at
near_new n s u p r offset k x h start lo some fits =
    let w = new_pointer offset x in
    let v = pointed u p (new_pointer offset x) in
    let y : Rewrites u (pointed u p (new_pointer offset x)) p 1 = splice_rewrites u p (new_pointer offset x ∷ []) in
    let says = new_names offset x lo fits in
    let word : word_at (pointed u p (new_pointer offset x)) p ≡ Some (new_pointer offset x) = written_word u p 0 (new_pointer offset x) h.null_there in
    let found = near_found (pointed u p (new_pointer offset x)) p r (new_pointer offset x) offset (λ q. new_object q x) says word some start in
    let pads = near_pads (pointed u p (new_pointer offset x)) p (new_pointer offset x) offset (λ q. new_object q x) says word in
    let words : words_at (pointed u p (new_pointer offset x)) r k ≡ Some (new_words x) = (rewrites_keep u (pointed u p (new_pointer offset x)) p 1 (span r k ∷ []) y (λ q. omega (arith, h.apart q, both p r k q, held_is r k [] q))).0 (new_words x) h.words_there in
    let new = is_new n (pointed u p (new_pointer offset x)) r k x fits words in
    let whole : (q : Place) → footprint (suc n) (pointed u p (new_pointer offset x)) p q ≡ times_held (span p 1 ∷ span r k ∷ []) q = λ q. (
    let a = slot_is n (pointed u p (new_pointer offset x)) p (record { pads = 0; object = new_object r x }) q found in
    let b : times_held (span p 1 ∷ pads_at (pointed u p (new_pointer offset x)) p) q ≡ times_held (span p 1 ∷ []) q = ap (λ (xs : List Span). times_held (span p 1 ∷ xs) q) pads in
    omega (arith, a, b, held_is p 1 [] q, new.takes q, both p r k q)
    ) in
    let change = rewritten n s u (pointed u p (new_pointer offset x)) p r k (new_words x) h y.grows y.no_more (λ q z a b e. y.others q z a e) in
    record {
      means = rw found new.means;
      changes = changes_alike s (pointed u p (new_pointer offset x)) (footprint (suc n) s p) (times_held (span p 1 ∷ span r k ∷ [])) (footprint (suc n) s p) (footprint (suc n) (pointed u p (new_pointer offset x)) p) change (λ q. refl) whole;
    }

pub far_new : (n : ℕ) (s u : Segments) (p r : Place) (k w : ℕ) (x : New) → Prepared n s u p r (1 + k) (w ∷ new_words x) → IsNamed r → Fits x → Replaces (suc n) s (pointed_far u p r (new_pointer 0 x)) p (new_tree x)
unfolding tree_at
far_new n s u p r k w x h named fits =
    let v = pointed u r (new_pointer 0 x) in
    let z = pointed_far u p r (new_pointer 0 x) in
    let a : Rewrites u (pointed u r (new_pointer 0 x)) r 1 = splice_rewrites u r (new_pointer 0 x ∷ []) in
    let b : Rewrites (pointed u r (new_pointer 0 x)) (pointed_far u p r (new_pointer 0 x)) p 1 = splice_rewrites (pointed u r (new_pointer 0 x)) p (far_pointer r ∷ []) in
    let split : (q : Place) → held r (1 + k) q ≡ held r 1 q + held (after r 1) k q = λ q. held_split r 1 k q in
    let apart : (q : Place) → held p 1 q + held r 1 q + held (after r 1) k q ≤ 1 = λ q. omega (arith, h.apart q, both p r (1 + k) q, split q) in
    let says = new_names 0 x (omega arith) fits in
    let pad_was : word_at u r ≡ Some w = word_was u r w (words_front u r 1 k (w ∷ new_words x) h.words_there) in
    let pad_word : word_at (pointed u r (new_pointer 0 x)) r ≡ Some (new_pointer 0 x) = written_word u r w (new_pointer 0 x) pad_was in
    let pad_now : word_at (pointed_far u p r (new_pointer 0 x)) r ≡ Some (new_pointer 0 x) = b.others r (new_pointer 0 x) (omega (arith, apart r, held_self r)) pad_word in
    let slot_was : word_at (pointed u r (new_pointer 0 x)) p ≡ Some 0 = a.others p 0 (omega (arith, apart p, held_self p)) h.null_there in
    let word : word_at (pointed_far u p r (new_pointer 0 x)) p ≡ Some (far_pointer r) = written_word (pointed u r (new_pointer 0 x)) p 0 (far_pointer r) slot_was in
    let found = far_found (pointed_far u p r (new_pointer 0 x)) p r (new_pointer 0 x) (λ q. new_object q x) says named word pad_now in
    let pads = far_pads (pointed_far u p r (new_pointer 0 x)) p r named word in
    let tail : words_at u (after r 1) k ≡ Some (new_words x) = words_back u r 1 k (w ∷ new_words x) h.words_there in
    let tail1 : words_at (pointed u r (new_pointer 0 x)) (after r 1) k ≡ Some (new_words x) = (rewrites_keep u (pointed u r (new_pointer 0 x)) r 1 (span (after r 1) k ∷ []) a (λ q. omega (arith, apart q, held_is (after r 1) k [] q))).0 (new_words x) tail in
    let words : words_at (pointed_far u p r (new_pointer 0 x)) (after r 1) k ≡ Some (new_words x) = (rewrites_keep (pointed u r (new_pointer 0 x)) (pointed_far u p r (new_pointer 0 x)) p 1 (span (after r 1) k ∷ []) b (λ q. omega (arith, apart q, held_is (after r 1) k [] q))).0 (new_words x) tail1 in
    let new = is_new n (pointed_far u p r (new_pointer 0 x)) (after r 1) k x fits words in
    let whole : (q : Place) → footprint (suc n) (pointed_far u p r (new_pointer 0 x)) p q ≡ times_held (span p 1 ∷ span r (1 + k) ∷ []) q = λ q. (
    let c = slot_is n (pointed_far u p r (new_pointer 0 x)) p (record { pads = 1; object = new_object (after r 1) x }) q found in
    let d : times_held (span p 1 ∷ pads_at (pointed_far u p r (new_pointer 0 x)) p) q ≡ times_held (span p 1 ∷ span r 1 ∷ []) q = ap (λ (xs : List Span). times_held (span p 1 ∷ xs) q) pads in
    omega (arith, c, d, held_is p 1 (span r 1 ∷ []) q, held_is r 1 [] q, new.takes q, both p r (1 + k) q, split q)
    ) in
    let change = rewritten n s u (pointed_far u p r (new_pointer 0 x)) p r (1 + k) (w ∷ new_words x) h (grows_then u (pointed u r (new_pointer 0 x)) (pointed_far u p r (new_pointer 0 x)) a.grows b.grows) (λ q. a.no_more q ∙ b.no_more q) (λ q y e f g. b.others q y e (a.others q y (omega (arith, f, split q)) g)) in
    record {
      means = rw found new.means;
      changes = changes_alike s (pointed_far u p r (new_pointer 0 x)) (footprint (suc n) s p) (times_held (span p 1 ∷ span r (1 + k) ∷ [])) (footprint (suc n) s p) (footprint (suc n) (pointed_far u p r (new_pointer 0 x)) p) change (λ q. refl) whole;
    }

-- ---- where the object begins

pub starts_near : (p r : Place) (offset : ℕ) → IsOffsetTo p r offset → begins (after p 1) offset ≡ Ok r
starts_near p r offset h = begins_behind (after p 1) offset h.short ∙ ap (λ (q : Place). let o : Result Place Kind = Ok q in o) (ap (λ (k : ℕ). place p.segment k) h.gap ∙ ap (λ (i : ℕ). place i r.position) (sym h.same))

pub starts_here : (p : Place) → begins (after p 1) (2 ^ 30 - 1) ≡ Ok p
starts_here p = begins_here p.segment p.position

word_written : (s : Segments) (p : Place) (v w : ℕ) → word_at s p ≡ Some v → word_at (pointed s p w) p ≡ Some w
word_written s p v w e = written_word s p v w e

pub near_leads : (s : Segments) (p r : Place) (offset v : ℕ) (x : New) → word_at s p ≡ Some v → begins (after p 1) offset ≡ Ok r → offset < 2 ^ 30 → 0 < new_pointer offset x → Fits x → found_at (pointed s p (new_pointer offset x)) p ≡ Ok (record { pads = 0; object = new_object r x })
near_leads s p r offset v x e start lo some fits = near_found (pointed s p (new_pointer offset x)) p r (new_pointer offset x) offset (λ q. new_object q x) (new_names offset x lo fits) (written_word s p v (new_pointer offset x) e) some start

apart_places : (r p : Place) → r ≢ p → held r 1 p ≡ 0
apart_places r p ne = held_not r 1 p (λ h. ne (same_place (held_segment r 1 p h) (omega (arith, held_low r 1 p h, held_high r 1 p h))))
  where
    same_place : r.segment ≡ p.segment → r.position ≡ p.position → r ≡ p
    same_place e f = ap (λ (i : ℕ). place i r.position) e ∙ ap (λ (k : ℕ). place p.segment k) f

pub far_leads : (s : Segments) (p r : Place) (v w : ℕ) (x : New) → word_at s p ≡ Some v → word_at s r ≡ Some w → p ≢ r → IsNamed r → Fits x → found_at (pointed_far s p r (new_pointer 0 x)) p ≡ Ok (record { pads = 1; object = new_object (after r 1) x })
far_leads s p r v w x e f ne named fits =
    let a : Rewrites s (pointed s r (new_pointer 0 x)) r 1 = splice_rewrites s r (new_pointer 0 x ∷ []) in
    let b : Rewrites (pointed s r (new_pointer 0 x)) (pointed_far s p r (new_pointer 0 x)) p 1 = splice_rewrites (pointed s r (new_pointer 0 x)) p (far_pointer r ∷ []) in
    let pad_word : word_at (pointed s r (new_pointer 0 x)) r ≡ Some (new_pointer 0 x) = written_word s r w (new_pointer 0 x) f in
    let pad_now : word_at (pointed_far s p r (new_pointer 0 x)) r ≡ Some (new_pointer 0 x) = b.others r (new_pointer 0 x) (apart_places p r ne) pad_word in
    let slot_was : word_at (pointed s r (new_pointer 0 x)) p ≡ Some v = a.others p v (apart_places r p (λ (h : r ≡ p). ne (sym h))) e in
    let word : word_at (pointed_far s p r (new_pointer 0 x)) p ≡ Some (far_pointer r) = written_word (pointed s r (new_pointer 0 x)) p v (far_pointer r) slot_was in
    far_found (pointed_far s p r (new_pointer 0 x)) p r (new_pointer 0 x) (λ q. new_object q x) (new_names 0 x (omega arith) fits) named word pad_now

pub first_of_more : (k : ℕ) → replicate {A = ℕ} (1 + k) 0 ≡ 0 ∷ replicate {A = ℕ} k 0
first_of_more k = let e : 1 + k ≡ suc k = omega arith in ap (λ (m : ℕ). replicate {A = ℕ} m 0) e

-- ---- from before the words were allocated

pub init_near : (n : ℕ) (s u : Segments) (p : Place) (t : Tree) (offset k : ℕ) (x : New) → p.segment < length s → new_words x ≡ replicate k 0 → Owns (suc n) s p t → Replaces (suc n) (with_zeros s p.segment k) u p null → p.position + 1 + offset ≡ segment_end s p.segment → offset < 2 ^ 29 → 0 < new_pointer offset x → Fits x → Replaces (suc n) s (pointed u p (new_pointer offset x)) p (new_tree x)
init_near n s u p t offset k x l words o h gap short some fits =
    let r = place p.segment (segment_end s p.segment) in
    let y = subst (λ (ws : List ℕ). Prepared n s u p (place p.segment (segment_end s p.segment)) k ws) (sym words) (prepared_new n s u p t p.segment k (omega (arith, l)) o h) in
    near_new n s u p (place p.segment (segment_end s p.segment)) offset k x y (starts_near p (place p.segment (segment_end s p.segment)) offset (record { same = refl; gap = gap; short = short })) (omega (arith, short)) some fits

pub init_far : (n : ℕ) (s u : Segments) (p : Place) (t : Tree) (i k : ℕ) (x : New) → i ≤ length s → new_words x ≡ replicate k 0 → Owns (suc n) s p t → Replaces (suc n) (with_zeros s i (1 + k)) u p null → IsNamed (place i (segment_end s i)) → Fits x → Replaces (suc n) s (pointed_far u p (place i (segment_end s i)) (new_pointer 0 x)) p (new_tree x)
init_far n s u p t i k x l words o h named fits =
    let zeros : replicate (1 + k) 0 ≡ 0 ∷ new_words x = first_of_more k ∙ ap (λ (ws : List ℕ). 0 ∷ ws) (sym words) in
    let y = subst (λ (ws : List ℕ). Prepared n s u p (place i (segment_end s i)) (1 + k) ws) zeros (prepared_new n s u p t i (1 + k) l o h) in
    far_new n s u p (place i (segment_end s i)) k 0 x y named fits

-- ---- words written before the pointer

pub pad_first : (n : ℕ) (s u : Segments) (p r : Place) (k : ℕ) → Prepared n s u p r (1 + k) (replicate (1 + k) 0) → Prepared n s u p r (1 + k) (0 ∷ replicate k 0)
pad_first n s u p r k h = subst (λ (ws : List ℕ). Prepared n s u p r (1 + k) ws) (first_of_more k) h

pub whole_written : (n : ℕ) (s u : Segments) (p r : Place) (k : ℕ) (vs ws : List ℕ) → length vs ≡ k → Prepared n s u p r k ws → Prepared n s (with_words u r vs) p r k vs
whole_written n s u p r k vs ws l h =
    let x = prepared_written n s u p r 0 k vs ws (omega (arith, l)) h in
    let here : Prepared n s (with_words u r vs) p r k (spliced 0 vs ws) = subst (λ (q : Place). Prepared n s (with_words u q vs) p r k (spliced 0 vs ws)) (after_none r) x in
    subst (λ (xs : List ℕ). Prepared n s (with_words u r vs) p r k xs) (spliced_whole vs ws (l ∙ sym (words_length u r k ws h.words_there))) here

pub behind_first : (w : ℕ) (vs ws : List ℕ) → length vs ≡ length ws → spliced 1 vs (w ∷ ws) ≡ w ∷ vs
unfolding spliced
behind_first w vs ws l = ap (λ (xs : List ℕ). w ∷ xs) (spliced_whole vs ws l)

pub rest_written : (n : ℕ) (s u : Segments) (p r : Place) (k w : ℕ) (vs ws : List ℕ) → length vs ≡ k → Prepared n s u p r (1 + k) (w ∷ ws) → Prepared n s (with_words u (after r 1) vs) p r (1 + k) (w ∷ vs)
rest_written n s u p r k w vs ws l h =
    let long : length (w ∷ ws) ≡ 1 + k = words_length u r (1 + k) (w ∷ ws) h.words_there in
    subst (λ (xs : List ℕ). Prepared n s (with_words u (after r 1) vs) p r (1 + k) xs) (behind_first w vs ws (omega (arith, l, long))) (prepared_written n s u p r 1 (1 + k) vs (w ∷ ws) (omega (arith, l)) h)

pub tag_in_front : (tag : ℕ) (v : ℕ) (xs : List ℕ) → spliced 0 (tag ∷ []) (v ∷ xs) ≡ tag ∷ xs
unfolding spliced
tag_in_front tag v [] = refl
tag_in_front tag v (x ∷ xs) = refl

tag_behind_pad : (tag w v : ℕ) (xs : List ℕ) → spliced 1 (tag ∷ []) (w ∷ (v ∷ xs)) ≡ w ∷ (tag ∷ xs)
unfolding spliced
tag_behind_pad tag w v [] = refl
tag_behind_pad tag w v (x ∷ xs) = refl

pub tag_written : (n : ℕ) (s u : Segments) (p r : Place) (m tag : ℕ) → Prepared n s u p r (1 + m) (replicate (1 + m) 0) → Prepared n s (pointed u r tag) p r (1 + m) (tag ∷ replicate m 0)
tag_written n s u p r m tag h =
    let x = prepared_written n s u p r 0 (1 + m) (tag ∷ []) (0 ∷ replicate m 0) (omega arith) (pad_first n s u p r m h) in
    let here : Prepared n s (pointed u r tag) p r (1 + m) (spliced 0 (tag ∷ []) (0 ∷ replicate m 0)) = subst (λ (q : Place). Prepared n s (with_words u q (tag ∷ [])) p r (1 + m) (spliced 0 (tag ∷ []) (0 ∷ replicate m 0))) (after_none r) x in
    subst (λ (xs : List ℕ). Prepared n s (pointed u r tag) p r (1 + m) xs) (tag_in_front tag 0 (replicate m 0)) here

pub tag_written_far : (n : ℕ) (s u : Segments) (p r : Place) (m tag : ℕ) → Prepared n s u p r (1 + (1 + m)) (replicate (1 + (1 + m)) 0) → Prepared n s (pointed u (after r 1) tag) p r (1 + (1 + m)) (0 ∷ (tag ∷ replicate m 0))
tag_written_far n s u p r m tag h =
    let two : 0 ∷ replicate (1 + m) 0 ≡ 0 ∷ (0 ∷ replicate m 0) = ap (λ (xs : List ℕ). 0 ∷ xs) (first_of_more m) in
    let y = subst (λ (ws : List ℕ). Prepared n s u p r (1 + (1 + m)) ws) two (pad_first n s u p r (1 + m) h) in
    let x = prepared_written n s u p r 1 (1 + (1 + m)) (tag ∷ []) (0 ∷ (0 ∷ replicate m 0)) (omega arith) y in
    subst (λ (xs : List ℕ). Prepared n s (pointed u (after r 1) tag) p r (1 + (1 + m)) xs) (tag_behind_pad tag 0 0 (replicate m 0)) x

-- ---- a pointer at offset -1

pub some_pointer : (x : New) → 0 < new_pointer (2 ^ 30 - 1) x
some_pointer (new_struct d k) = omega arith
some_pointer (new_list size count) = omega arith
some_pointer (filled_list size count ws) = omega arith
some_pointer (new_pointers count) = omega arith
some_pointer (new_structs count d k) = omega arith
