-- A change of a part of a value is a change of the value.
use Rattle.std.proofs.Common.{◌≡◌, ℕ, suc, ◌+◌, List, drop, Some, refl, subst, sym, ◌∙◌, arith, ◌≤◌, ◌<◌, ap, Ok, [], ◌∷◌, ◌++◌, length, take, Result}
use Rattle.std.proofs.lemmas.List.{take_at}
use Rattle.std.specs.Option.{ok_or}
use Rattle.capnp_model.specs.Coverage.{Span, times_held, span, pads_at, from_each, covered_object, covered_found}
use Rattle.capnp_model.specs.Kinds.{OutOfBounds, Kind}
use Rattle.capnp_model.specs.Pointers.{Object, a_struct, a_list, found_at, Found}
use Rattle.capnp_model.specs.Sections.{section_of}
use Rattle.capnp_model.specs.Segments.{Segments, Place, after, words_at, word_at}
use Rattle.capnp_model.specs.Traversal.{each, tree_of, tree_at}
use Rattle.capnp_model.specs.Trees.{Tree, Trees, structure, pointer_list, with_child, child}
use Rattle.capnp_model.proofs.lemmas.Chaining.{bind_some, bind_found, some_is, ok_is, bind_ok, ok_or_some}
use Rattle.capnp_model.proofs.lemmas.Locality.{found_kept}
use Rattle.capnp_model.proofs.lemmas.SoundRules.{apart}
use Rattle.capnp_model.proofs.lemmas.ReadFits.{words_length}
use Rattle.capnp_model_writes.specs.Changes.{Changes, ReplacesObject, Replaces}
use Rattle.capnp_model_writes.specs.Footprints.{behind, object_footprint, OwnsObject, footprint, Owns}
use Rattle.capnp_model_writes.proofs.lemmas.Algebra.{On, changes_lift, changes_then, changes_alike, beside_kept, still_apart}
use Rattle.capnp_model_writes.proofs.lemmas.Kept.{pads_kept}
use Rattle.capnp_model_writes.proofs.lemmas.Rows.{words_grown, row, child_le, child_read, row_replaced}
use Rattle.capnp_model_writes.proofs.lemmas.Spans.{words_back, held, held_is, held_split, words_front, words_join, times_held_append}
use Rattle.capnp_model_writes.proofs.lemmas.There.{words_there, behind_full, object_full, value_full}

-- ---- what belongs to a value is there

pub value_on : (n : ℕ) (s : Segments) (p : Place) (t : Tree) → tree_at n s p ≡ Some t → On s (footprint n s p)
value_on n s p t e q l = words_there s (span p 1 ∷ behind n s p) q (value_full n s p t e) l

pub object_on : (n : ℕ) (s : Segments) (o : Object) (t : Tree) → tree_of s (tree_at n s) o ≡ Some t → On s (object_footprint n s o)
object_on n s o t e q l = words_there s (covered_object s (behind n s) o) q (object_full s (tree_at n s) (behind n s) (λ p u f. behind_full n s p u f) o t e) l

pub replaced_owned : (n : ℕ) (s u : Segments) (p : Place) (t v : Tree) → Owns n s p t → Replaces n s u p v → Owns n u p v
replaced_owned n s u p t v o r = record { means = r.means; apart = still_apart s u (footprint n s p) (footprint n u p) r.changes (value_on n s p t o.means) o.apart }

pub object_replaced_owned : (n : ℕ) (s u : Segments) (b : Object) (t v : Tree) → OwnsObject n s b t → ReplacesObject n s u b v → OwnsObject n u b v
object_replaced_owned n s u b t v o r = record { means = r.means; apart = still_apart s u (object_footprint n s b) (object_footprint n u b) r.changes (object_on n s b t o.means) o.apart }

pub replaced_then : (n : ℕ) (s u v : Segments) (p : Place) (t w : Tree) → Replaces n s u p t → Replaces n u v p w → Replaces n s v p w
replaced_then n s u v p t w h k = record { means = k.means; changes = changes_then s u v (footprint n s p) (footprint n u p) (footprint n v p) h.changes k.changes (value_on n u p t h.means) }

pub object_replaced_then : (n : ℕ) (s u v : Segments) (o : Object) (t w : Tree) → ReplacesObject n s u o t → ReplacesObject n u v o w → ReplacesObject n s v o w
object_replaced_then n s u v o t w h k = record { means = k.means; changes = changes_then s u v (object_footprint n s o) (object_footprint n u o) (object_footprint n v o) h.changes k.changes (object_on n u o t h.means) }

-- ---- pointers and their objects

pub slot_is : (n : ℕ) (s : Segments) (p : Place) (f : Found) (q : Place) → found_at s p ≡ Ok f → footprint (suc n) s p q ≡ times_held (span p 1 ∷ pads_at s p) q + object_footprint n s f.object q
unfolding behind
slot_is n s p f q e =
    let a = times_held_append (span p 1 ∷ pads_at s p) (covered_found (covered_object s (behind n s)) (found_at s p)) q in
    let b : times_held (covered_found (covered_object s (behind n s)) (found_at s p)) q ≡ times_held (covered_object s (behind n s) f.object) q = ap (λ (r : Result Found Kind). times_held (covered_found (covered_object s (behind n s)) r) q) e in
    omega (arith, a, b)

pub object_of_pointer : (n : ℕ) (s : Segments) (p : Place) (f : Found) (t : Tree) → found_at s p ≡ Ok f → Owns (suc n) s p t → OwnsObject n s f.object t
unfolding tree_at
object_of_pointer n s p f t e o =
    let x = bind_found (found_at s p) _ t o.means in
    let is : x.0 ≡ f = ok_is _ _ (sym x.1 ∙ e) in
    record {
      means = subst (λ (y : Found). tree_of s (tree_at n s) y.object ≡ Some t) is x.2;
      apart = λ q. omega (arith, o.apart q, slot_is n s p f q e);
    }

-- a part changes, and other words with it
pub alone : (s u : Segments) (c d : Place → ℕ) → Changes s u c d → Changes s u (λ q. c q + 0) (λ q. d q + 0)
alone s u c d h = changes_alike s u c d (λ q. c q + 0) (λ q. d q + 0) h (λ q. omega arith) (λ q. omega arith)

pub not_with : (s u : Segments) (c d : Place → ℕ) → Changes s u (λ q. c q + 0) (λ q. d q + 0) → Changes s u c d
not_with s u c d h = changes_alike s u (λ q. c q + 0) (λ q. d q + 0) c d h (λ q. omega arith) (λ q. omega arith)

pub pointer_of_object_with : (n : ℕ) (s u : Segments) (p : Place) (f : Found) (t v : Tree) (c d : Place → ℕ) → found_at s p ≡ Ok f → Owns (suc n) s p t → ((q : Place) → footprint (suc n) s p q + c q ≤ 1) → tree_of u (tree_at n u) f.object ≡ Some v → Changes s u (λ q. object_footprint n s f.object q + c q) (λ q. object_footprint n u f.object q + d q) → (tree_at (suc n) u p ≡ Some v) × (found_at u p ≡ Ok f) × Changes s u (λ q. footprint (suc n) s p q + c q) (λ q. footprint (suc n) u p q + d q)
unfolding tree_at
pointer_of_object_with n s u p f t v c d e o apart means h =
    let kept = beside_kept s u (λ q. object_footprint n s f.object q + c q) (λ q. object_footprint n u f.object q + d q) (span p 1 ∷ pads_at s p) h (λ q. omega (arith, apart q, slot_is n s p f q e)) in
    let here : found_at u p ≡ Ok f = found_kept s u p f kept.0 kept.1 e in
    let x = bind_ok (ok_or (word_at s p) OutOfBounds) _ f e in
    let pads : pads_at u p ≡ pads_at s p = pads_kept s u p x.0 kept.0 (ok_or_some _ _ _ x.1) in (
      rw here means,
      here,
      changes_lift s u (λ q. object_footprint n s f.object q + c q) (λ q. object_footprint n u f.object q + d q) (λ q. footprint (suc n) s p q + c q) (λ q. footprint (suc n) u p q + d q) h
          (λ q. (let same : times_held (span p 1 ∷ pads_at u p) q ≡ times_held (span p 1 ∷ pads_at s p) q = ap (λ (xs : List Span). times_held (span p 1 ∷ xs) q) pads in omega (arith, slot_is n s p f q e, slot_is n u p f q here, same)))
          (λ q. omega (arith, slot_is n s p f q e)),
    )

pub pointer_of_object : (n : ℕ) (s u : Segments) (p : Place) (f : Found) (t v : Tree) → found_at s p ≡ Ok f → Owns (suc n) s p t → ReplacesObject n s u f.object v → Replaces (suc n) s u p v
pointer_of_object n s u p f t v e o r =
    let x = pointer_of_object_with n s u p f t v (λ q. 0) (λ q. 0) e o (λ q. omega (arith, o.apart q)) r.means (alone s u (object_footprint n s f.object) (object_footprint n u f.object) r.changes) in
    record { means = x.0; changes = not_with s u (footprint (suc n) s p) (footprint (suc n) u p) x.2 }

-- ---- children of structs

pub struct_is : (n : ℕ) (s : Segments) (p : Place) (d k : ℕ) (q : Place) → object_footprint n s (a_struct p d k) q ≡ held p d q + row n s (after p d) k q
struct_is n s p d k q = omega (arith, held_is p (d + k) (from_each (behind n s) (after p d) k) q, held_split p d k q)

-- the parts of a struct
pub record StructParts (n : ℕ) (s : Segments) (p : Place) (d k section : ℕ) (kids : Trees) : Type 0 where
  pub words : List ℕ
  pub there : words_at s p (d + k) ≡ Some words
  pub section_is : section_of (take d words) ≡ section
  pub kids_are : each (tree_at n s) (after p d) k ≡ Some kids

pub struct_parts : (n : ℕ) (s : Segments) (p : Place) (d k w section : ℕ) (kids : Trees) → tree_of s (tree_at n s) (a_struct p d k) ≡ Some (structure w section kids) → (d ≡ w) × StructParts n s p d k section kids
struct_parts n s p d k w section kids e =
    let x = bind_some (words_at s p (d + k)) _ (structure w section kids) e in
    let y = bind_some (each (tree_at n s) (after p d) k) _ (structure w section kids) x.2 in
    let is : structure d (section_of (take d x.0)) y.0 ≡ structure w section kids = some_is _ _ y.2 in
    let same : y.0 ≡ kids = cc in
    (cc, record { words = x.0; there = x.1; section_is = cc; kids_are = y.1 ∙ ap (λ (ts : Trees). Some ts) same })

pub struct_of_parts : (n : ℕ) (s : Segments) (p : Place) (d k section : ℕ) (kids : Trees) → StructParts n s p d k section kids → tree_of s (tree_at n s) (a_struct p d k) ≡ Some (structure d section kids)
struct_of_parts n s p d k section kids x = rw (x.there, x.kids_are) (ap (λ (m : ℕ). Some (structure d m kids)) x.section_is)

pub child_of_struct : (n : ℕ) (s : Segments) (p : Place) (d k i w section : ℕ) (kids : Trees) → i < k → OwnsObject n s (a_struct p d k) (structure w section kids) → Owns n s (after (after p d) i) (child kids i)
child_of_struct n s p d k i w section kids l o =
    let x = struct_parts n s p d k w section kids o.means in
    record {
      means = child_read (tree_at n s) (after p d) (after (after p d) i) k i kids refl l x.1.kids_are;
      apart = λ q. omega (arith, o.apart q, struct_is n s p d k q, child_le n s (after p d) (after (after p d) i) k i refl l q);
    }

pub struct_of_child_with : (n : ℕ) (s u : Segments) (p : Place) (d k i w section : ℕ) (kids : Trees) (t : Tree) (e f : Place → ℕ) → i < k → OwnsObject n s (a_struct p d k) (structure w section kids) → ((q : Place) → object_footprint n s (a_struct p d k) q + e q ≤ 1) → tree_at n u (after (after p d) i) ≡ Some t
    → Changes s u (λ q. footprint n s (after (after p d) i) q + e q) (λ q. footprint n u (after (after p d) i) q + f q)
    → (tree_of u (tree_at n u) (a_struct p d k) ≡ Some (structure w section (with_child kids i t))) × Changes s u (λ q. object_footprint n s (a_struct p d k) q + e q) (λ q. object_footprint n u (a_struct p d k) q + f q)
struct_of_child_with n s u p d k i w section kids t e f l o apart means h =
    let x = struct_parts n s p d k w section kids o.means in
    let a = x.1 in
    let slot : Place = after (after p d) i in
    let c : Place → ℕ = λ q. footprint n s (after (after p d) i) q + e q in
    let c' : Place → ℕ = λ q. footprint n u (after (after p d) i) q + f q in
    let le = child_le n s (after p d) (after (after p d) i) k i refl l in
    let new = row_replaced n s u (after (after p d) i) t (λ q. footprint n s (after (after p d) i) q + e q) (λ q. footprint n u (after (after p d) i) q + f q) e h (λ q. refl) means (after p d) k i (drop d a.words) kids refl l (words_back s p d k a.words a.there) (λ q. omega (arith, apart q, struct_is n s p d k q)) a.kids_are in
    let front : words_at u p d ≡ Some (take d a.words) = (beside_kept s u (λ q. footprint n s (after (after p d) i) q + e q) (λ q. footprint n u (after (after p d) i) q + f q) (span p d ∷ []) h (λ q. omega (arith, apart q, struct_is n s p d k q, le q, held_is p d [] q))).0 _ (words_front s p d k a.words a.there) in
    let back = words_grown s u (after p d) k _ h.grows (words_back s p d k a.words a.there) in
    let long : length (take d a.words) ≡ d = words_length u p d _ front in
    let parts : StructParts n u p d k section (with_child kids i t) = record {
      words = take d a.words ++ back.0;
      there = words_join u p d k _ _ front back.1;
      section_is = ap section_of (take_at (take d a.words) back.0 d long) ∙ a.section_is;
      kids_are = new.0;
    } in (
      struct_of_parts n u p d k section (with_child kids i t) parts ∙ ap (λ (m : ℕ). Some (structure m section (with_child kids i t))) x.0,
      changes_lift s u (λ q. footprint n s (after (after p d) i) q + e q) (λ q. footprint n u (after (after p d) i) q + f q) (λ q. object_footprint n s (a_struct p d k) q + e q) (λ q. object_footprint n u (a_struct p d k) q + f q) h
          (λ q. omega (arith, struct_is n s p d k q, struct_is n u p d k q, new.1 q))
          (λ q. omega (arith, struct_is n s p d k q, le q)),
    )

pub struct_of_child : (n : ℕ) (s u : Segments) (p : Place) (d k i w section : ℕ) (kids : Trees) (t : Tree) → i < k → OwnsObject n s (a_struct p d k) (structure w section kids) → Replaces n s u (after (after p d) i) t → ReplacesObject n s u (a_struct p d k) (structure w section (with_child kids i t))
struct_of_child n s u p d k i w section kids t l o r =
    let x = struct_of_child_with n s u p d k i w section kids t (λ q. 0) (λ q. 0) l o (λ q. omega (arith, o.apart q)) r.means (alone s u (footprint n s (after (after p d) i)) (footprint n u (after (after p d) i)) r.changes) in
    record { means = x.0; changes = not_with s u (object_footprint n s (a_struct p d k)) (object_footprint n u (a_struct p d k)) x.1 }

-- ---- children of lists

pub pointers_are : (n : ℕ) (s : Segments) (p : Place) (k : ℕ) (q : Place) → object_footprint n s (a_list p 6 k) q ≡ row n s p k q
pointers_are n s p k q = held_is p k (from_each (behind n s) p k) q

pub record ListParts (n : ℕ) (s : Segments) (p : Place) (k : ℕ) (kids : Trees) : Type 0 where
  pub words : List ℕ
  pub there : words_at s p k ≡ Some words
  pub kids_are : each (tree_at n s) p k ≡ Some kids

pub list_parts : (n : ℕ) (s : Segments) (p : Place) (k : ℕ) (kids : Trees) → tree_of s (tree_at n s) (a_list p 6 k) ≡ Some (pointer_list kids) → ListParts n s p k kids
list_parts n s p k kids e =
    let x = bind_some (words_at s p k) _ (pointer_list kids) e in
    let y = bind_some (each (tree_at n s) p k) _ (pointer_list kids) x.2 in
    let is : pointer_list y.0 ≡ pointer_list kids = some_is _ _ y.2 in
    let same : y.0 ≡ kids = cc in
    record { words = x.0; there = x.1; kids_are = y.1 ∙ ap (λ (ts : Trees). Some ts) same }

pub child_of_list : (n : ℕ) (s : Segments) (p : Place) (k i : ℕ) (kids : Trees) → i < k → OwnsObject n s (a_list p 6 k) (pointer_list kids) → Owns n s (after p i) (child kids i)
child_of_list n s p k i kids l o =
    let x = list_parts n s p k kids o.means in
    record {
      means = child_read (tree_at n s) p (after p i) k i kids refl l x.kids_are;
      apart = λ q. omega (arith, o.apart q, pointers_are n s p k q, child_le n s p (after p i) k i refl l q);
    }

pub list_of_child_with : (n : ℕ) (s u : Segments) (p : Place) (k i : ℕ) (kids : Trees) (t : Tree) (e f : Place → ℕ) → i < k → OwnsObject n s (a_list p 6 k) (pointer_list kids) → ((q : Place) → object_footprint n s (a_list p 6 k) q + e q ≤ 1) → tree_at n u (after p i) ≡ Some t
    → Changes s u (λ q. footprint n s (after p i) q + e q) (λ q. footprint n u (after p i) q + f q)
    → (tree_of u (tree_at n u) (a_list p 6 k) ≡ Some (pointer_list (with_child kids i t))) × Changes s u (λ q. object_footprint n s (a_list p 6 k) q + e q) (λ q. object_footprint n u (a_list p 6 k) q + f q)
list_of_child_with n s u p k i kids t e f l o apart means h =
    let a = list_parts n s p k kids o.means in
    let le = child_le n s p (after p i) k i refl l in
    let new = row_replaced n s u (after p i) t (λ q. footprint n s (after p i) q + e q) (λ q. footprint n u (after p i) q + f q) e h (λ q. refl) means p k i a.words kids refl l a.there (λ q. omega (arith, apart q, pointers_are n s p k q)) a.kids_are in
    let there = words_grown s u p k a.words h.grows a.there in
    let is : words_at u p k ≡ Some there.0 = there.1 in
    let kids' : each (tree_at n u) p k ≡ Some (with_child kids i t) = new.0 in (
      rw (is, kids') refl,
      changes_lift s u (λ q. footprint n s (after p i) q + e q) (λ q. footprint n u (after p i) q + f q) (λ q. object_footprint n s (a_list p 6 k) q + e q) (λ q. object_footprint n u (a_list p 6 k) q + f q) h
          (λ q. omega (arith, pointers_are n s p k q, pointers_are n u p k q, new.1 q))
          (λ q. omega (arith, pointers_are n s p k q, le q)),
    )

pub list_of_child : (n : ℕ) (s u : Segments) (p : Place) (k i : ℕ) (kids : Trees) (t : Tree) → i < k → OwnsObject n s (a_list p 6 k) (pointer_list kids) → Replaces n s u (after p i) t → ReplacesObject n s u (a_list p 6 k) (pointer_list (with_child kids i t))
list_of_child n s u p k i kids t l o r =
    let x = list_of_child_with n s u p k i kids t (λ q. 0) (λ q. 0) l o (λ q. omega (arith, o.apart q)) r.means (alone s u (footprint n s (after p i)) (footprint n u (after p i)) r.changes) in
    record { means = x.0; changes = not_with s u (object_footprint n s (a_list p 6 k)) (object_footprint n u (a_list p 6 k)) x.1 }
