-- A child of a value's object moves to the object that stands beside it.
use Rattle.std.proofs.Common.{◌≡◌, ℕ, suc, ◌+◌, List, Some, refl, arith, ◌≤◌, ◌<◌, Ok, ◌∷◌, ◌++◌}
use Rattle.capnp_model.specs.Coverage.{Span, times_held, span, pads_at}
use Rattle.capnp_model.specs.Pointers.{Object, a_struct, a_list, found_at, Found}
use Rattle.capnp_model.specs.Segments.{Segments, Place, after}
use Rattle.capnp_model.specs.Traversal.{tree_at}
use Rattle.capnp_model.specs.Trees.{Tree, Trees, null, structure, pointer_list, with_child}
use Rattle.capnp_model.proofs.lemmas.Locality.{all_right}
use Rattle.capnp_model.proofs.lemmas.SoundRules.{apart}
use Rattle.capnp_model_writes.specs.Changes.{Changes}
use Rattle.capnp_model_writes.specs.Detached.{all_taken, Detached, AreZero, Moves}
use Rattle.capnp_model_writes.specs.Footprints.{object_footprint, OwnsObject, footprint}
use Rattle.capnp_model_writes.specs.Rows.{Lifts}
use Rattle.capnp_model_writes.proofs.lemmas.Algebra.{changes_lift, changes_alike, beside_kept}
use Rattle.capnp_model_writes.proofs.lemmas.Detached.{zeros_kept, part_changed, detached_owns}
use Rattle.capnp_model_writes.proofs.lemmas.Lift.{slot_is, object_of_pointer, struct_is, pointer_of_object_with, struct_of_child_with, pointers_are, list_of_child_with}
use Rattle.capnp_model_writes.proofs.lemmas.Rows.{child_le}
use Rattle.capnp_model_writes.proofs.lemmas.Spans.{times_held_append}

pub child_moved : (n : ℕ) (s u w : Segments) (p : Place) (t v t' v' c : Tree) (xs spare : List Span) (o : Object) (f : Found) (a b : Place) → Detached n s u p t (xs ++ spare) o v → found_at u p ≡ Ok f
    → ((q : Place) → footprint n u a q ≤ object_footprint n u f.object q) → ((q : Place) → footprint n u b q ≤ object_footprint n u o q) → Moves n u w a b xs c → Lifts n u w a f.object t' → Lifts n u w b o v' → Detached n s w p t' spare o v' × (found_at w p ≡ Ok f)
child_moved n s u w p t v t' v' c xs spare o f a b h e la lb m lift_a lift_b =
    let own = detached_owns n s u p t v (xs ++ spare) o h in
    let slot : (q : Place) → footprint (suc n) u p q ≡ times_held (span p 1 ∷ pads_at u p) q + object_footprint n u f.object q = λ q. slot_is n u p f q e in
    let parts : (q : Place) → times_held (xs ++ spare) q ≡ times_held xs q + times_held spare q = λ q. times_held_append xs spare q in
    let one = lift_a (λ q. footprint n u b q + times_held xs q) (λ q. footprint n w b q) (λ q. omega (arith, h.apart q, slot q, parts q, lb q)) m.changes in
    let two = pointer_of_object_with n u w p f t t' (λ q. footprint n u b q + times_held xs q) (λ q. footprint n w b q) e own.0 (λ q. omega (arith, h.apart q, parts q, lb q)) one.0 one.1 in
    let turned : Changes u w (λ q. footprint n u b q + (footprint (suc n) u p q + times_held xs q)) (λ q. footprint n w b q + footprint (suc n) w p q) =
    changes_alike u w (λ q. footprint (suc n) u p q + (footprint n u b q + times_held xs q)) (λ q. footprint (suc n) w p q + footprint n w b q) (λ q. footprint n u b q + (footprint (suc n) u p q + times_held xs q)) (λ q. footprint n w b q + footprint (suc n) w p q) two.2 (λ q. omega arith) (λ q. omega arith) in
    let three = lift_b (λ q. footprint (suc n) u p q + times_held xs q) (λ q. footprint (suc n) w p q) (λ q. omega (arith, h.apart q, parts q)) turned in
    let all : Changes u w (all_taken n u p (xs ++ spare) o) (all_taken n w p spare o) = changes_lift u w (λ q. object_footprint n u o q + (footprint (suc n) u p q + times_held xs q)) (λ q. object_footprint n w o q + footprint (suc n) w p q) (all_taken n u p (xs ++ spare) o) (all_taken n w p spare o) three.1 (λ q. omega (arith, parts q)) (λ q. omega (arith, parts q)) in
    let spare_kept = beside_kept u w (λ q. object_footprint n u o q + (footprint (suc n) u p q + times_held xs q)) (λ q. object_footprint n w o q + footprint (suc n) w p q) spare three.1 (λ q. omega (arith, h.apart q, parts q)) in
    (part_changed n s u w p t v t' v' (xs ++ spare) spare o o h all two.0 three.0 (zeros_kept u w spare spare_kept (all_right (AreZero u) xs spare h.zeros)), two.1)

-- ---- the kinds of objects

pub struct_lifts : (n : ℕ) (u w : Segments) (p : Place) (d k i words section : ℕ) (kids : Trees) (c : Tree) → i < k → OwnsObject n u (a_struct p d k) (structure words section kids) → tree_at n w (after (after p d) i) ≡ Some c → Lifts n u w (after (after p d) i) (a_struct p d k) (structure words section (with_child kids i c))
struct_lifts n u w p d k i words section kids c l o means e f apart h = struct_of_child_with n u w p d k i words section kids c e f l o apart means h

pub list_lifts : (n : ℕ) (u w : Segments) (p : Place) (k i : ℕ) (kids : Trees) (c : Tree) → i < k → OwnsObject n u (a_list p 6 k) (pointer_list kids) → tree_at n w (after p i) ≡ Some c → Lifts n u w (after p i) (a_list p 6 k) (pointer_list (with_child kids i c))
list_lifts n u w p k i kids c l o means e f apart h = list_of_child_with n u w p k i kids c e f l o apart means h

pub child_in_struct : (n : ℕ) (u : Segments) (p : Place) (d k i : ℕ) (q : Place) → i < k → footprint n u (after (after p d) i) q ≤ object_footprint n u (a_struct p d k) q
child_in_struct n u p d k i q l = omega (arith, struct_is n u p d k q, child_le n u (after p d) (after (after p d) i) k i refl l q)

pub child_in_list : (n : ℕ) (u : Segments) (p : Place) (k i : ℕ) (q : Place) → i < k → footprint n u (after p i) q ≤ object_footprint n u (a_list p 6 k) q
child_in_list n u p k i q l = omega (arith, pointers_are n u p k q, child_le n u p (after p i) k i refl l q)

-- ---- from struct to struct

pub struct_child_moved : (n : ℕ) (s u w : Segments) (p a b : Place) (pads d k i d' k' j words section words' section' : ℕ) (kids kids' : Trees) (c : Tree) (xs spare : List Span) → i < k → j < k' → found_at u p ≡ Ok (record { pads = pads; object = a_struct a d k })
    → Detached n s u p (structure words section kids) (xs ++ spare) (a_struct b d' k') (structure words' section' kids') → Moves n u w (after (after a d) i) (after (after b d') j) xs c
    → Detached n s w p (structure words section (with_child kids i null)) spare (a_struct b d' k') (structure words' section' (with_child kids' j c))
struct_child_moved n s u w p a b pads d k i d' k' j words section words' section' kids kids' c xs spare li lj e h m =
    let own = detached_owns n s u p (structure words section kids) (structure words' section' kids') (xs ++ spare) (a_struct b d' k') h in
    let inner = object_of_pointer n u p (record { pads = pads; object = a_struct a d k }) (structure words section kids) e own.0 in
    (child_moved n s u w p (structure words section kids) (structure words' section' kids') (structure words section (with_child kids i null)) (structure words' section' (with_child kids' j c)) c xs spare (a_struct b d' k') (record { pads = pads; object = a_struct a d k }) (after (after a d) i) (after (after b d') j) h e
    (λ q. child_in_struct n u a d k i q li) (λ q. child_in_struct n u b d' k' j q lj) m (struct_lifts n u w a d k i words section kids null li inner m.from) (struct_lifts n u w b d' k' j words' section' kids' c lj own.1 m.to)).0

-- what a move needs to know of the two slots
pub struct_slots_apart : (n : ℕ) (s u : Segments) (p a b : Place) (pads d k i d' k' j : ℕ) (t v : Tree) (xs spare : List Span) → i < k → j < k' → found_at u p ≡ Ok (record { pads = pads; object = a_struct a d k }) → Detached n s u p t (xs ++ spare) (a_struct b d' k') v
    → (q : Place) → footprint n u (after (after a d) i) q + (footprint n u (after (after b d') j) q + times_held xs q) ≤ 1
struct_slots_apart n s u p a b pads d k i d' k' j t v xs spare li lj e h q =
    omega (arith, h.apart q, slot_is n u p (record { pads = pads; object = a_struct a d k }) q e, child_in_struct n u a d k i q li, child_in_struct n u b d' k' j q lj, times_held_append xs spare q)
