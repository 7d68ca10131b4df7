-- Objects that no pointer names yet.
use Rattle.std.proofs.Common.{◌≡◌, ℕ, zero, suc, ◌+◌, List, Some, refl, subst, sym, ◌∙◌, arith, ◌*◌, ◌≤◌, ◌<◌, ap, [], ◌∷◌, length, replicate}
use Rattle.std.proofs.lemmas.List.{length-replicate, take-replicate}
use Rattle.std.specs.List.{AllByRecursion}
use Rattle.capnp_model.specs.Coverage.{Span, times_held, Keeps, span, pads_at, covered_object}
use Rattle.capnp_model.specs.Encoding.{struct_pointer}
use Rattle.capnp_model.specs.Pointers.{Object, nothing}
use Rattle.capnp_model.specs.Segments.{Segments, Place, after, words_at, place, word_at}
use Rattle.capnp_model.specs.Traversal.{tree_of, tree_at}
use Rattle.capnp_model.specs.Trees.{Tree, null}
use Rattle.capnp_model.proofs.lemmas.Chaining.{some_is}
use Rattle.capnp_model.proofs.lemmas.SoundRules.{apart}
use Rattle.capnp_model_writes.specs.Changes.{Changes, ReplacesObject, Replaces, Clears, absent}
use Rattle.capnp_model_writes.specs.Detached.{all_taken, Detached, AreZero, Reaches}
use Rattle.capnp_model_writes.specs.Footprints.{behind, object_footprint, OwnsObject, footprint, Owns}
use Rattle.capnp_model_writes.specs.NewObjects.{Fits, New, new_structs, new_pointer, new_object, new_words, new_tree, pointed}
use Rattle.capnp_model_writes.specs.Writes.{with_words, spliced, with_zeros, segment_end}
use Rattle.capnp_model_writes.proofs.lemmas.Algebra.{On, changes_lift, changes_then, changes_nothing, changes_alike, beside_kept, still_apart}
use Rattle.capnp_model_writes.proofs.lemmas.Growing.{zeros_extend, zero_held}
use Rattle.capnp_model_writes.proofs.lemmas.Kept.{value_same, object_same}
use Rattle.capnp_model_writes.proofs.lemmas.Levels.{grown_value, value_beside_change}
use Rattle.capnp_model_writes.proofs.lemmas.Lift.{value_on, slot_is, object_on}
use Rattle.capnp_model_writes.proofs.lemmas.NewKinds.{is_new}
use Rattle.capnp_model_writes.proofs.lemmas.Nulls.{null_word}
use Rattle.capnp_model_writes.proofs.lemmas.Pointing.{new_names, near_found, near_pads}
use Rattle.capnp_model_writes.proofs.lemmas.Prepared.{first_of_more, tag_in_front}
use Rattle.capnp_model_writes.proofs.lemmas.Rows.{after_none}
use Rattle.capnp_model_writes.proofs.lemmas.Spans.{words_back, held, held_is, held_split, there, words_front, grows_same}
use Rattle.capnp_model_writes.proofs.lemmas.Splices.{Rewrites, splice_rewrites, splice_words, spliced_whole}
use Rattle.capnp_model_writes.proofs.lemmas.There.{words_there, spans_kept}
use Rattle.capnp_model_writes.proofs.lemmas.Writing.{wider, rewrites_keep, changes_inside, written_word}
use Rattle.capnp_model_writes.proofs.lemmas.Zeros.{null_footprint, drop_zeros}

-- zero words, one by one
pub zeros_at : (u : Segments) (xs : List Span) (q : Place) → AllByRecursion (AreZero u) xs → 0 < times_held xs q → word_at u q ≡ Some 0
zeros_at u [] q z l = absurd (omega (arith, l))
zeros_at u (x ∷ xs) q z l = by (held x.start x.words q) refl (λ m. zeros_at u xs q z.1 m)
  where
    by : (a : ℕ) → a ≡ held x.start x.words q → ((0 < times_held xs q) → word_at u q ≡ Some 0) → word_at u q ≡ Some 0
    by zero e later = later (omega (arith, l, e, held_is x.start x.words xs q))
    by (suc a) e later =
        let y = words_there u (x ∷ []) q ((replicate x.words 0, z.0), tt) (omega (arith, e, held_is x.start x.words [] q)) in
        y.1 ∙ ap (λ (v : ℕ). Some v) (zero_held u x.start x.words q y.0 z.0 y.1 (omega (arith, e)))

pub zeros_kept : (u w : Segments) (xs : List Span) → AllByRecursion (Keeps u w) xs → AllByRecursion (AreZero u) xs → AllByRecursion (AreZero w) xs
zeros_kept u w [] k z = tt
zeros_kept u w (x ∷ xs) k z = (k.0 (replicate x.words 0) z.0, zeros_kept u w xs k.1 z.1)

-- a word is of the first, of the second or of the third
data Of (a b c : ℕ) : Type 0 where
  of_first : 0 < a → Of a b c
  of_second : 0 < b → Of a b c
  of_third : 0 < c → Of a b c

which_of : (a b c : ℕ) → 0 < a + (b + c) → Of a b c
which_of (suc a) b c l = of_first (omega arith)
which_of zero (suc b) c l = of_second (omega arith)
which_of zero zero c l = of_third (omega (arith, l))

pub all_on : (n : ℕ) (s u : Segments) (p : Place) (t v : Tree) (spare : List Span) (o : Object) → Detached n s u p t spare o v → On u (all_taken n u p spare o)
all_on n s u p t v spare o h q l =
    elim (which_of (footprint (suc n) u p q) (times_held spare q) (object_footprint n u o q) l) [
      | of_first a ↦ value_on (suc n) u p t h.value q a
      | of_second b ↦ (0, zeros_at u spare q h.zeros b)
      | of_third c ↦ object_on n u o v h.object q c
    ]

nothing_taken : (n : ℕ) (s : Segments) (q : Place) → object_footprint n s nothing q ≡ 0
nothing_taken n s q = refl

pub detached_start : (n : ℕ) (s : Segments) (p : Place) (t : Tree) → Owns (suc n) s p t → Detached n s s p t [] nothing null
detached_start n s p t o =
    record {
      value = o.means;
      object = refl;
      zeros = tt;
      changes = changes_alike s s (footprint (suc n) s p) (footprint (suc n) s p) (footprint (suc n) s p) (all_taken n s p [] nothing) (changes_nothing s (footprint (suc n) s p)) (λ q. refl) (λ q. omega arith);
      apart = λ q. omega (arith, o.apart q);
    }

-- one part of what stands there changes
pub part_changed : (n : ℕ) (s u w : Segments) (p : Place) (t v t' v' : Tree) (spare spare' : List Span) (o o' : Object) → Detached n s u p t spare o v → Changes u w (all_taken n u p spare o) (all_taken n w p spare' o')
    → tree_at (suc n) w p ≡ Some t' → tree_of w (tree_at n w) o' ≡ Some v' → AllByRecursion (AreZero w) spare' → Detached n s w p t' spare' o' v'
part_changed n s u w p t v t' v' spare spare' o o' h c e f z =
    let on = all_on n s u p t v spare o h in
    record {
      value = e;
      object = f;
      zeros = z;
      changes = changes_then s u w (footprint (suc n) s p) (all_taken n u p spare o) (all_taken n w p spare' o') h.changes c on;
      apart = still_apart u w (all_taken n u p spare o) (all_taken n w p spare' o') c on h.apart;
    }

-- the object beside a change stays
pub object_beside : (n : ℕ) (s u : Segments) (o : Object) (v : Tree) (c d : Place → ℕ) → Changes s u c d → ((q : Place) → object_footprint n s o q + c q ≤ 1) → tree_of s (tree_at n s) o ≡ Some v → (tree_of u (tree_at n u) o ≡ Some v) × (covered_object u (behind n u) o ≡ covered_object s (behind n s) o)
object_beside n s u o v c d h apart e =
    object_same s u (tree_at n s) (tree_at n u) (behind n s) (behind n u) (λ q x a g. value_same n n s u q x (omega arith) a g) o v (beside_kept s u c d (covered_object s (behind n s) o) h apart) e

pub detached_value : (n : ℕ) (s u w : Segments) (p : Place) (t t' v : Tree) (spare : List Span) (o : Object) → Detached n s u p t spare o v → Replaces (suc n) u w p t' → Detached n s w p t' spare o v
detached_value n s u w p t t' v spare o h r =
    let x = object_beside n u w o v (footprint (suc n) u p) (footprint (suc n) w p) r.changes (λ q. omega (arith, h.apart q)) h.object in
    let same : (q : Place) → object_footprint n w o q ≡ object_footprint n u o q = λ q. ap (λ (xs : List Span). times_held xs q) x.1 in
    part_changed n s u w p t v t' v spare spare o o h
    (changes_lift u w (footprint (suc n) u p) (footprint (suc n) w p) (all_taken n u p spare o) (all_taken n w p spare o) r.changes (λ q. omega (arith, same q)) (λ q. omega arith))
    r.means x.0 (zeros_kept u w spare (beside_kept u w (footprint (suc n) u p) (footprint (suc n) w p) spare r.changes (λ q. omega (arith, h.apart q))) h.zeros)

pub detached_object : (n : ℕ) (s u w : Segments) (p : Place) (t v v' : Tree) (spare : List Span) (o : Object) → Detached n s u p t spare o v → ReplacesObject n u w o v' → Detached n s w p t spare o v'
detached_object n s u w p t v v' spare o h r =
    let x = value_beside_change (suc n) u w (object_footprint n u o) (object_footprint n w o) p t r.changes (λ q. omega (arith, h.apart q)) h.value in
    let same : (q : Place) → footprint (suc n) w p q ≡ footprint (suc n) u p q = λ q. ap (λ (xs : List Span). times_held (span p 1 ∷ xs) q) x.1 in
    part_changed n s u w p t v t v' spare spare o o h
    (changes_lift u w (object_footprint n u o) (object_footprint n w o) (all_taken n u p spare o) (all_taken n w p spare o) r.changes (λ q. omega (arith, same q)) (λ q. omega arith))
    x.0 r.means (zeros_kept u w spare (beside_kept u w (object_footprint n u o) (object_footprint n w o) spare r.changes (λ q. omega (arith, h.apart q))) h.zeros)

-- the parts, each owned
pub detached_owns : (n : ℕ) (s u : Segments) (p : Place) (t v : Tree) (spare : List Span) (o : Object) → Detached n s u p t spare o v → Owns (suc n) u p t × OwnsObject n u o v
detached_owns n s u p t v spare o h = (record { means = h.value; apart = λ q. omega (arith, h.apart q) }, record { means = h.object; apart = λ q. omega (arith, h.apart q) })

-- zero words more
pub detached_more : (n : ℕ) (s u : Segments) (p : Place) (t v : Tree) (spare : List Span) (o : Object) (i k : ℕ) → i ≤ length u → Detached n s u p t spare o v → Detached n s (with_zeros u i k) p t (span (place i (segment_end u i)) k ∷ spare) o v
detached_more n s u p t v spare o i k l h =
    let r = place i (segment_end u i) in
    let w = with_zeros u i k in
    let x = zeros_extend u i k l in
    let own = detached_owns n s u p t v spare o h in
    let a = grown_value (suc n) u (with_zeros u i k) p (place i (segment_end u i)) k t own.0 x in
    let b = object_same u (with_zeros u i k) (tree_at n u) (tree_at n (with_zeros u i k)) (behind n u) (behind n (with_zeros u i k)) (λ q z c g. value_same n n u (with_zeros u i k) q z (omega arith) c g) o v (spans_kept u (with_zeros u i k) (covered_object u (behind n u) o) x.grows (λ q z c e. x.kept q z e)) h.object in
    let same : (q : Place) → footprint (suc n) (with_zeros u i k) p q ≡ footprint (suc n) u p q = λ q. ap (λ (xs : List Span). times_held (span p 1 ∷ xs) q) a.1 in
    let same' : (q : Place) → object_footprint n (with_zeros u i k) o q ≡ object_footprint n u o q = λ q. ap (λ (xs : List Span). times_held xs q) b.1 in
    let all : (q : Place) → all_taken n (with_zeros u i k) p (span (place i (segment_end u i)) k ∷ spare) o q ≡ all_taken n u p spare o q + held (place i (segment_end u i)) k q = λ q. omega (arith, same q, same' q, held_is (place i (segment_end u i)) k spare q) in
    let c : Changes u (with_zeros u i k) (all_taken n u p spare o) (all_taken n (with_zeros u i k) p (span (place i (segment_end u i)) k ∷ spare) o) = record {
      grows = x.grows;
      kept = λ q z e f. x.kept q z e;
      within = λ q. omega (arith, all q, x.only q);
      cleared = λ q z e f g. absurd (omega (arith, all q, f, g, x.only q, there (with_zeros u i k) q z e));
    } in
    part_changed n s u (with_zeros u i k) p t v t v spare (span (place i (segment_end u i)) k ∷ spare) o o h c a.0 b.0 (x.zeros, zeros_kept u (with_zeros u i k) spare (spans_kept u (with_zeros u i k) spare x.grows (λ q z g e. x.kept q z e)) h.zeros)

-- spare words are let go, as they are zero
pub not_spare : (s u : Segments) (c d e : Place → ℕ) → Changes s u c d → ((q : Place) → e q ≤ d q) → ((q : Place) → 0 < d q → e q ≡ 0 → word_at u q ≡ Some 0) → Changes s u c e
not_spare s u c d e h le z =
    record {
      grows = h.grows;
      kept = h.kept;
      within = λ q. omega (arith, h.within q, le q);
      cleared = λ q w f g l. by q w (d q) refl f g l;
    }
  where
    by : (q : Place) (w a : ℕ) → a ≡ d q → word_at u q ≡ Some w → e q ≡ 0 → 0 < c q + absent s q → w ≡ 0
    by q w zero ea f g l = h.cleared q w f (sym ea) l
    by q w (suc a) ea f g l = some_is _ _ (sym f ∙ z q (omega (arith, ea)) g)

pub detached_fewer : (n : ℕ) (s u : Segments) (p : Place) (t v : Tree) (spare : List Span) (x : Span) (o : Object) → Detached n s u p t (x ∷ spare) o v → Detached n s u p t spare o v
detached_fewer n s u p t v spare x o h =
    let part : (q : Place) → times_held (x ∷ spare) q ≡ held x.start x.words q + times_held spare q = λ q. held_is x.start x.words spare q in
    record {
      value = h.value;
      object = h.object;
      zeros = h.zeros.1;
      changes = not_spare s u (footprint (suc n) s p) (all_taken n u p (x ∷ spare) o) (all_taken n u p spare o) h.changes (λ q. omega (arith, part q)) (λ q l z. zeros_at u (x ∷ spare) q h.zeros (omega (arith, l, z)));
      apart = λ q. omega (arith, h.apart q, part q);
    }

-- the object is let go once its words are zero
pub detached_dropped : (n : ℕ) (s u w : Segments) (p : Place) (t v : Tree) (spare : List Span) (o : Object) → Detached n s u p t spare o v → Clears u w (object_footprint n u o) → Detached n s w p t spare nothing null
detached_dropped n s u w p t v spare o h c =
    let x = value_beside_change (suc n) u w (object_footprint n u o) (λ q. 0) p t c (λ q. omega (arith, h.apart q)) h.value in
    let same : (q : Place) → footprint (suc n) w p q ≡ footprint (suc n) u p q = λ q. ap (λ (xs : List Span). times_held (span p 1 ∷ xs) q) x.1 in
    part_changed n s u w p t v t null spare spare o nothing h
    (changes_lift u w (object_footprint n u o) (λ q. 0) (all_taken n u p spare o) (all_taken n w p spare nothing) c (λ q. omega (arith, same q)) (λ q. omega arith))
    x.0 refl (zeros_kept u w spare (beside_kept u w (object_footprint n u o) (λ q. 0) spare c (λ q. omega (arith, h.apart q))) h.zeros)

pub detached_end : (n : ℕ) (s u : Segments) (p : Place) (t : Tree) (spare : List Span) → Detached n s u p t spare nothing null → Replaces (suc n) s u p t
detached_end n s u p t spare h =
    record {
      means = h.value;
      changes = not_spare s u (footprint (suc n) s p) (all_taken n u p spare nothing) (footprint (suc n) u p) h.changes (λ q. omega arith) (λ q l z. zeros_at u spare q h.zeros (omega (arith, l, z)));
    }

-- ---- spare words become an object

pub detached_split : (n : ℕ) (s u : Segments) (p : Place) (t v : Tree) (r : Place) (a b : ℕ) (spare : List Span) (o : Object) → Detached n s u p t (span r (a + b) ∷ spare) o v → Detached n s u p t (span (after r a) b ∷ (span r a ∷ spare)) o v
detached_split n s u p t v r a b spare o h =
    let same : (q : Place) → times_held (span (after r a) b ∷ (span r a ∷ spare)) q ≡ times_held (span r (a + b) ∷ spare) q = λ q. omega (arith, held_is (after r a) b (span r a ∷ spare) q, held_is r a spare q, held_is r (a + b) spare q, held_split r a b q) in
    let front : a ≤ a + b = omega arith in
    let z = h.zeros.0 in
    record {
      value = h.value;
      object = h.object;
      zeros = (words_back u r a b _ z ∙ ap (λ (xs : List ℕ). Some xs) (drop_zeros a b), (words_front u r a b _ z ∙ ap (λ (xs : List ℕ). Some xs) (take-replicate a (a + b) 0 front), h.zeros.1));
      changes = changes_alike s u (footprint (suc n) s p) (all_taken n u p (span r (a + b) ∷ spare) o) (footprint (suc n) s p) (all_taken n u p (span (after r a) b ∷ (span r a ∷ spare)) o) h.changes (λ q. refl) (λ q. omega (arith, same q));
      apart = λ q. omega (arith, h.apart q, same q);
    }

object_made : (n : ℕ) (s u w : Segments) (p : Place) (t : Tree) (r : Place) (k : ℕ) (x : New) (spare : List Span) → Detached n s u p t (span r k ∷ spare) nothing null → Rewrites u w r k → words_at w r k ≡ Some (new_words x) → Fits x → Detached n s w p t spare (new_object r x) (new_tree x)
object_made n s u w p t r k x spare h y e fits =
    let part : (q : Place) → times_held (span r k ∷ spare) q ≡ held r k q + times_held spare q = λ q. held_is r k spare q in
    let new = is_new n w r k x fits e in
    let c : Changes u w (held r k) (held r k) = changes_inside u w r k (held r k) (held r k) y (λ q. refl) (λ q. omega arith) in
    let a = value_beside_change (suc n) u w (held r k) (held r k) p t c (λ q. omega (arith, h.apart q, part q)) h.value in
    let same : (q : Place) → footprint (suc n) w p q ≡ footprint (suc n) u p q = λ q. ap (λ (xs : List Span). times_held (span p 1 ∷ xs) q) a.1 in
    part_changed n s u w p t null t (new_tree x) (span r k ∷ spare) spare nothing (new_object r x) h
    (changes_lift u w (held r k) (held r k) (all_taken n u p (span r k ∷ spare) nothing) (all_taken n w p spare (new_object r x)) c (λ q. omega (arith, same q, part q, new.takes q)) (λ q. omega (arith, part q)))
    a.0 new.means (zeros_kept u w spare (beside_kept u w (held r k) (held r k) spare c (λ q. omega (arith, h.apart q, part q))) h.zeros.1)

pub detached_zeros : (n : ℕ) (s u : Segments) (p : Place) (t : Tree) (r : Place) (k : ℕ) (x : New) (spare : List Span) → Detached n s u p t (span r k ∷ spare) nothing null → new_words x ≡ replicate k 0 → Fits x → Detached n s u p t spare (new_object r x) (new_tree x)
detached_zeros n s u p t r k x spare h e fits =
    object_made n s u u p t r k x spare h (record { grows = grows_same u; no_more = λ q. refl; others = λ q w z f. f }) (h.zeros.0 ∙ ap (λ (ws : List ℕ). Some ws) (sym e)) fits

pub detached_written : (n : ℕ) (s u : Segments) (p : Place) (t : Tree) (r : Place) (k : ℕ) (x : New) (spare : List Span) → Detached n s u p t (span r k ∷ spare) nothing null → length (new_words x) ≡ k → Fits x → Detached n s (with_words u r (new_words x)) p t spare (new_object r x) (new_tree x)
detached_written n s u p t r k x spare h e fits =
    let y : Rewrites u (with_words u r (new_words x)) r k = subst (λ (m : ℕ). Rewrites u (with_words u r (new_words x)) r m) e (splice_rewrites u r (new_words x)) in
    let now : words_at (with_words u (after r 0) (new_words x)) r k ≡ Some (spliced 0 (new_words x) (replicate k 0)) = splice_words u r 0 k (new_words x) (replicate k 0) (omega (arith, e)) h.zeros.0 in
    let whole : spliced 0 (new_words x) (replicate k 0) ≡ new_words x = spliced_whole (new_words x) (replicate k 0) (e ∙ sym (length-replicate {A = ℕ} k 0)) in
    object_made n s u (with_words u r (new_words x)) p t r k x spare h y (ap (λ (q : Place). words_at (with_words u q (new_words x)) r k) (sym (after_none r)) ∙ now ∙ ap (λ (ws : List ℕ). Some ws) whole) fits

pub detached_tagged : (n : ℕ) (s u : Segments) (p : Place) (t : Tree) (r : Place) (count d k : ℕ) (spare : List Span) → Detached n s u p t (span r (1 + count * (d + k)) ∷ spare) nothing null → Fits (new_structs count d k) → Detached n s (pointed u r (struct_pointer count d k)) p t spare (new_object r (new_structs count d k)) (new_tree (new_structs count d k))
detached_tagged n s u p t r count d k spare h fits =
    let m = count * (d + k) in
    let tag = struct_pointer count d k in
    let w = pointed u r (struct_pointer count d k) in
    let fit : 0 + 1 ≤ 1 + count * (d + k) = omega arith in
    let y0 : Rewrites u (with_words u (after r 0) (struct_pointer count d k ∷ [])) r (1 + count * (d + k)) = wider u (with_words u (after r 0) (struct_pointer count d k ∷ [])) r 0 1 (1 + count * (d + k)) fit (splice_rewrites u (after r 0) (struct_pointer count d k ∷ [])) in
    let y : Rewrites u (pointed u r (struct_pointer count d k)) r (1 + count * (d + k)) = subst (λ (q : Place). Rewrites u (with_words u q (struct_pointer count d k ∷ [])) r (1 + count * (d + k))) (after_none r) y0 in
    let zeros : words_at u r (1 + count * (d + k)) ≡ Some (0 ∷ replicate (count * (d + k)) 0) = h.zeros.0 ∙ ap (λ (ws : List ℕ). Some ws) (first_of_more (count * (d + k))) in
    let now : words_at (with_words u (after r 0) (struct_pointer count d k ∷ [])) r (1 + count * (d + k)) ≡ Some (spliced 0 (struct_pointer count d k ∷ []) (0 ∷ replicate (count * (d + k)) 0)) = splice_words u r 0 (1 + count * (d + k)) (struct_pointer count d k ∷ []) (0 ∷ replicate (count * (d + k)) 0) fit zeros in
    object_made n s u (pointed u r (struct_pointer count d k)) p t r (1 + count * (d + k)) (new_structs count d k) spare h y (ap (λ (q : Place). words_at (with_words u q (struct_pointer count d k ∷ [])) r (1 + count * (d + k))) (sym (after_none r)) ∙ now ∙ ap (λ (ws : List ℕ). Some ws) (tag_in_front (struct_pointer count d k) 0 (replicate (count * (d + k)) 0))) fits

-- ---- the pointer is written, the value was cleared

pub detached_near : (n : ℕ) (s u : Segments) (p : Place) (v : Tree) (r : Place) (offset : ℕ) (x : New) (spare : List Span) → Detached n s u p null spare (new_object r x) v → Reaches p r offset → 0 < new_pointer offset x → Fits x → Replaces (suc n) s (pointed u p (new_pointer offset x)) p v
unfolding tree_at
detached_near n s u p v r offset x spare h at some fits =
    let w = pointed u p (new_pointer offset x) in
    let o = new_object r x in
    let word_was : word_at u p ≡ Some 0 = null_word (suc n) u p h.value in
    let y : Rewrites u (pointed u p (new_pointer offset x)) p 1 = splice_rewrites u p (new_pointer offset x ∷ []) in
    let says = new_names offset x at.fits fits in
    let word : word_at (pointed u p (new_pointer offset x)) p ≡ Some (new_pointer offset x) = written_word u p 0 (new_pointer offset x) word_was in
    let found = near_found (pointed u p (new_pointer offset x)) p r (new_pointer offset x) offset (λ q. new_object q x) says word some at.starts in
    let pads = near_pads (pointed u p (new_pointer offset x)) p (new_pointer offset x) offset (λ q. new_object q x) says word in
    let slot : (q : Place) → footprint (suc n) u p q ≡ held p 1 q = λ q. null_footprint (suc n) u p q word_was in
    let c : Changes u (pointed u p (new_pointer offset x)) (held p 1) (held p 1) = changes_inside u (pointed u p (new_pointer offset x)) p 1 (held p 1) (held p 1) y (λ q. refl) (λ q. omega arith) in
    let a = object_beside n u (pointed u p (new_pointer offset x)) (new_object r x) v (held p 1) (held p 1) c (λ q. omega (arith, h.apart q, slot q)) h.object in
    let same : (q : Place) → object_footprint n (pointed u p (new_pointer offset x)) (new_object r x) q ≡ object_footprint n u (new_object r x) q = λ q. ap (λ (xs : List Span). times_held xs q) a.1 in
    let whole : (q : Place) → footprint (suc n) (pointed u p (new_pointer offset x)) p q ≡ held p 1 q + object_footprint n u (new_object r x) q = λ q. (
    let b = slot_is n (pointed u p (new_pointer offset x)) p (record { pads = 0; object = new_object r x }) q found in
    let d : times_held (span p 1 ∷ pads_at (pointed u p (new_pointer offset x)) p) q ≡ times_held (span p 1 ∷ []) q = ap (λ (xs : List Span). times_held (span p 1 ∷ xs) q) pads in
    omega (arith, b, d, held_is p 1 [] q, same q)
    ) in
    let lifted : Changes u (pointed u p (new_pointer offset x)) (all_taken n u p spare (new_object r x)) (λ q. footprint (suc n) (pointed u p (new_pointer offset x)) p q + times_held spare q) = changes_lift u (pointed u p (new_pointer offset x)) (held p 1) (held p 1) (all_taken n u p spare (new_object r x)) (λ q. footprint (suc n) (pointed u p (new_pointer offset x)) p q + times_held spare q) c (λ q. omega (arith, whole q, slot q)) (λ q. omega (arith, slot q)) in
    let all = changes_then s u (pointed u p (new_pointer offset x)) (footprint (suc n) s p) (all_taken n u p spare (new_object r x)) (λ q. footprint (suc n) (pointed u p (new_pointer offset x)) p q + times_held spare q) h.changes lifted (all_on n s u p null v spare (new_object r x) h) in
    let spare_now = zeros_kept u (pointed u p (new_pointer offset x)) spare (rewrites_keep u (pointed u p (new_pointer offset x)) p 1 spare y (λ q. omega (arith, h.apart q, slot q))) h.zeros in
    record {
      means = rw found a.0;
      changes = not_spare s (pointed u p (new_pointer offset x)) (footprint (suc n) s p) (λ q. footprint (suc n) (pointed u p (new_pointer offset x)) p q + times_held spare q) (footprint (suc n) (pointed u p (new_pointer offset x)) p) all (λ q. omega arith) (λ q l z. zeros_at (pointed u p (new_pointer offset x)) spare q spare_now (omega (arith, l, z)));
    }
