-- Values that move without the spare words, and an empty struct that moves.
use Rattle.std.proofs.Common.{◌≡◌, ℕ, zero, suc, ◌+◌, ◌-◌, ◌^◌, List, [], ◌∷◌, Some, Ok, refl, ap, sym, ◌∙◌, subst, arith, ◌≤◌, ◌<◌}
use Rattle.std.specs.List.{AllByRecursion}
use Rattle.capnp_model.specs.Coverage.{Span, span, times_held, pads_at}
use Rattle.capnp_model.specs.Encoding.{struct_pointer}
use Rattle.capnp_model.specs.Pointers.{Object, a_struct, Found, found_at}
use Rattle.capnp_model.specs.Segments.{Segments, Place, word_at, words_at}
use Rattle.capnp_model.specs.Traversal.{tree_of, tree_at, leaf_of}
use Rattle.capnp_model.specs.Trees.{Tree, structure, none}
use Rattle.capnp_model.proofs.lemmas.Chaining.{bind_some, bind_found, some_is, ok_is}
use Rattle.capnp_model.proofs.lemmas.Locality.{word_is}
use Rattle.capnp_model_writes.specs.Changes.{absent}
use Rattle.capnp_model_writes.specs.Detached.{all_taken, Detached, AreZero, Moves, IsMovable}
use Rattle.capnp_model_writes.specs.Footprints.{object_footprint, footprint}
use Rattle.capnp_model_writes.specs.NewObjects.{new_struct, new_object, pointed}
use Rattle.capnp_model_writes.specs.Writes.{zeroed}
use Rattle.capnp_model_writes.proofs.lemmas.Algebra.{changes_alike}
use Rattle.capnp_model_writes.proofs.lemmas.Detached.{zeros_at}
use Rattle.capnp_model_writes.proofs.lemmas.Lift.{slot_is, object_of_pointer}
use Rattle.capnp_model_writes.proofs.lemmas.Moving.{slots_apart, without_pads, two_grow, two_more, two_others, two_null, two_now}
use Rattle.capnp_model_writes.proofs.lemmas.Pointing.{new_names, near_found, near_pads}
use Rattle.capnp_model_writes.proofs.lemmas.Prepared.{starts_here}
use Rattle.capnp_model_writes.proofs.lemmas.Spans.{held, held_is, there, words_front}
use Rattle.capnp_model_writes.proofs.lemmas.Zeros.{held_none, null_footprint, null_read}

-- ---- spare words

pub detached_swapped : (n : ℕ) (s u : Segments) (p : Place) (t v : Tree) (x y : Span) (spare : List Span) (o : Object) → Detached n s u p t (x ∷ (y ∷ spare)) o v → Detached n s u p t (y ∷ (x ∷ spare)) o v
detached_swapped n s u p t v x y spare o h =
    let same : (q : Place) → times_held (y ∷ (x ∷ spare)) q ≡ times_held (x ∷ (y ∷ spare)) q = λ q. omega (arith, held_is x.start x.words (y ∷ spare) q, held_is y.start y.words spare q, held_is y.start y.words (x ∷ spare) q, held_is x.start x.words spare q) in
    let z = h.zeros in
    record {
      value = h.value;
      object = h.object;
      zeros = (z.1.0, (z.0, z.1.1));
      changes = changes_alike s u (footprint (suc n) s p) (all_taken n u p (x ∷ (y ∷ spare)) o) (footprint (suc n) s p) (all_taken n u p (y ∷ (x ∷ spare)) o) h.changes (λ q. refl) (λ q. omega (arith, same q));
      apart = λ q. omega (arith, h.apart q, same q);
    }

pub moves_unused : (n : ℕ) (s u : Segments) (a b : Place) (spare : List Span) (t : Tree) → AllByRecursion (AreZero s) spare → ((q : Place) → footprint n s a q + (footprint n s b q + times_held spare q) ≤ 1) → Moves n s u a b [] t → Moves n s u a b spare t
moves_unused n s u a b spare t z apart m =
    record {
      from = m.from;
      to = m.to;
      changes = record {
        grows = m.changes.grows;
        kept = λ q w e l. m.changes.kept q w e (omega (arith, l));
        within = λ q. omega (arith, m.changes.within q);
        cleared = λ q w e l g. by q w (times_held spare q) refl e l g;
      };
    }
  where
    by : (q : Place) (w c : ℕ) → c ≡ times_held spare q → word_at u q ≡ Some w → footprint n u a q + footprint n u b q ≡ 0 → 0 < footprint n s a q + (footprint n s b q + times_held spare q) + absent s q → w ≡ 0
    by q w zero same e l g = m.changes.cleared q w e l (omega (arith, g, same))
    by q w (suc c) same e l g =
        let was : word_at s q ≡ Some 0 = zeros_at s spare q z (omega (arith, same)) in
        some_is _ _ (sym e ∙ m.changes.kept q 0 was (omega (arith, apart q, same)))

-- ---- the empty struct lies at its pointer

no_words : (s : Segments) (p : Place) (w : ℕ) → word_at s p ≡ Some w → words_at s p 0 ≡ Some []
no_words s p w e = words_front s p 0 1 (w ∷ []) (one s p w e)
  where
    one : (s : Segments) (p : Place) (w : ℕ) → word_at s p ≡ Some w → words_at s p (0 + 1) ≡ Some (w ∷ [])
    one s p w e = word_is s p w e

empty_read : (n : ℕ) (s : Segments) (p : Place) (w : ℕ) → word_at s p ≡ Some w → tree_of s (tree_at n s) (a_struct p 0 0) ≡ Some (structure 0 0 none)
empty_read n s p w e = let z = no_words s p w e in rw z refl

empty_tree : (n : ℕ) (s : Segments) (r : Place) (t : Tree) → tree_of s (tree_at n s) (a_struct r 0 0) ≡ Some t → t ≡ structure 0 0 none
empty_tree n s r t e = let x = bind_some (words_at s r (0 + 0)) _ t e in sym (some_is _ _ x.2)

empty_takes : (n : ℕ) (s : Segments) (r q : Place) → object_footprint n s (a_struct r 0 0) q ≡ 0
empty_takes n s r q = omega (arith, held_is r (0 + 0) [] q, held_none r q)

pub empty_moved : (n : ℕ) (s : Segments) (a b r : Place) (w : ℕ) (t : Tree) → IsMovable n s a b [] w (record { pads = 0; object = a_struct r 0 0 }) t → Moves n s (pointed (zeroed s a 1) b (struct_pointer (2 ^ 30 - 1) 0 0)) a b [] t
unfolding tree_at
empty_moved zero s a b r w t m =
    let x = bind_found (found_at s a) _ t m.owned.means in
    let is : x.0 ≡ record { pads = 0; object = a_struct r 0 0 } = ok_is _ _ (sym x.1 ∙ m.found) in
    let leaf : leaf_of (a_struct r 0 0) ≡ Some t = subst (λ (y : Found). leaf_of y.object ≡ Some t) is x.2 in
    absurd cc
empty_moved (suc n) s a b r w t m =
    let v : ℕ = struct_pointer (2 ^ 30 - 1) 0 0 in
    let e = m.null_there in
    let two : (q : Place) → held a 1 q + held b 1 q ≤ 1 = λ q. omega (arith, slots_apart (suc n) s a b [] m.apart q) in
    let u : Segments = pointed (zeroed s a 1) b (struct_pointer (2 ^ 30 - 1) 0 0) in
    let word : word_at (pointed (zeroed s a 1) b (struct_pointer (2 ^ 30 - 1) 0 0)) b ≡ Some (struct_pointer (2 ^ 30 - 1) 0 0) = two_now (suc n) s a b (struct_pointer (2 ^ 30 - 1) 0 0) e w m.there two in
    let gone : word_at (pointed (zeroed s a 1) b (struct_pointer (2 ^ 30 - 1) 0 0)) a ≡ Some 0 = two_null (suc n) s a b (struct_pointer (2 ^ 30 - 1) 0 0) e w m.there two in
    let names = new_names (2 ^ 30 - 1) (new_struct 0 0) (omega arith) (omega arith, omega arith) in
    let found : found_at (pointed (zeroed s a 1) b (struct_pointer (2 ^ 30 - 1) 0 0)) b ≡ Ok (record { pads = 0; object = a_struct b 0 0 }) = near_found (pointed (zeroed s a 1) b (struct_pointer (2 ^ 30 - 1) 0 0)) b b (struct_pointer (2 ^ 30 - 1) 0 0) (2 ^ 30 - 1) (λ q. new_object q (new_struct 0 0)) names word (omega arith) (starts_here b) in
    let pads : pads_at (pointed (zeroed s a 1) b (struct_pointer (2 ^ 30 - 1) 0 0)) b ≡ [] = near_pads (pointed (zeroed s a 1) b (struct_pointer (2 ^ 30 - 1) 0 0)) b (struct_pointer (2 ^ 30 - 1) 0 0) (2 ^ 30 - 1) (λ q. new_object q (new_struct 0 0)) names word in
    let own = object_of_pointer n s a (record { pads = 0; object = a_struct r 0 0 }) t m.found m.owned in
    let is : t ≡ structure 0 0 none = empty_tree n s r t own.means in
    let fa : (q : Place) → footprint (suc n) s a q ≡ held a 1 q = λ q. omega (arith, slot_is n s a (record { pads = 0; object = a_struct r 0 0 }) q m.found, held_is a 1 (pads_at s a) q, empty_takes n s r q, without_pads s a (record { pads = 0; object = a_struct r 0 0 }) w q m.found m.there refl) in
    let fa' : (q : Place) → footprint (suc n) u a q ≡ held a 1 q = λ q. null_footprint (suc n) u a q gone in
    let fb : (q : Place) → footprint (suc n) s b q ≡ held b 1 q = λ q. null_footprint (suc n) s b q e in
    let fb' : (q : Place) → footprint (suc n) u b q ≡ held b 1 q = λ q. (let p : times_held (span b 1 ∷ pads_at u b) q ≡ times_held (span b 1 ∷ []) q = ap (λ (xs : List Span). times_held (span b 1 ∷ xs) q) pads in omega (arith, slot_is n u b (record { pads = 0; object = a_struct b 0 0 }) q found, p, held_is b 1 [] q, empty_takes n u b q)) in
    let more = two_more (suc n) s a b (struct_pointer (2 ^ 30 - 1) 0 0) e w m.there two in
    record {
      from = null_read (suc n) u a gone;
      to = rw found (empty_read n u b (struct_pointer (2 ^ 30 - 1) 0 0) word ∙ ap (λ (y : Tree). Some y) (sym is));
      changes = record {
        grows = two_grow (suc n) s a b (struct_pointer (2 ^ 30 - 1) 0 0) e w m.there two;
        kept = λ q x g z. two_others (suc n) s a b (struct_pointer (2 ^ 30 - 1) 0 0) e w m.there two q x (omega (arith, z, fa q)) (omega (arith, z, fb q)) g;
        within = λ q. omega (arith, fa q, fa' q, fb q, fb' q);
        cleared = λ q x g z l. absurd (omega (arith, z, l, fa q, fa' q, fb' q, fb q, more q, there u q x g));
      };
    }
