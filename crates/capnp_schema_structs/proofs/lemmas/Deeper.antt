-- Edits that put a new object behind a pointer, where a level of pointers may be new.
use Rattle.std.proofs.Common.{◌≡◌, ℕ, suc, ◌<◌, ◌≤◌, List, [], ◌∷◌, Option, Some, None, refl, sym, ap, subst, arith}
use Rattle.std.specs.List.{AllByRecursion}
use Rattle.capnp_model.specs.Segments.{Segments, Place, after}
use Rattle.capnp_model.specs.Pointers.{Object}
use Rattle.capnp_model.specs.Trees.{Tree, structure, child}
use Rattle.capnp_model.specs.Traversal.{tree_of, tree_at}
use Rattle.capnp_model.specs.Coverage.{Span, covered_object, times_held, Keeps}
use Rattle.capnp_model.specs.Edits.{Cell, Edit, put_child, mark}
use Rattle.capnp_model_writes.specs.Footprints.{behind, object_footprint, Owns, OwnsObject}
use Rattle.capnp_model_writes.proofs.lemmas.Algebra.{changes_alike}
use Rattle.capnp_model_writes.specs.Changes.{Replaces, ReplacesObject}
use Rattle.capnp_model_writes.proofs.lemmas.Kept.{value_same, object_same}
use Rattle.capnp_model_writes.proofs.lemmas.Lift.{child_of_struct, struct_of_child, object_replaced_owned, object_replaced_then}
use Rattle.capnp_wire_objects.specs.Places.{place_view}
use Rattle.capnp_copy_arenas.specs.Structs.{object_of_struct}
use Rattle.capnp_copy_arenas.specs.Values.{Becomes}
use Rattle.capnp_copy_arenas.specs.declared.fields.StructPlace.{StructPlace}
use Rattle.capnp_schema_structs.specs.Edits.{Edits}
use Rattle.capnp_schema_structs.specs.Puts.{Deepens}

-- ---- objects with more levels

all_same : (s : Segments) (xs : List Span) → AllByRecursion (Keeps s s) xs
all_same s [] = tt
all_same s (x ∷ xs) = (λ ws e. e, all_same s xs)

object_more : (n m : ℕ) (s : Segments) (o : Object) (t : Tree) → n ≤ m → tree_of s (tree_at n s) o ≡ Some t → (tree_of s (tree_at m s) o ≡ Some t) × (covered_object s (behind m s) o ≡ covered_object s (behind n s) o)
object_more n m s o t l e = object_same s s (tree_at n s) (tree_at m s) (behind n s) (behind m s) (λ p v a f. value_same n m s s p v l a f) o t (all_same s (covered_object s (behind n s) o)) e

pub object_owned_more : (n m : ℕ) (s : Segments) (o : Object) (t : Tree) → n ≤ m → OwnsObject n s o t → OwnsObject m s o t
object_owned_more n m s o t l h =
    let x = object_more n m s o t l h.means in
    record {
      means = x.0;
      apart = λ q. (let same : times_held (covered_object s (behind m s) o) q ≡ times_held (covered_object s (behind n s) o) q = ap (λ (xs : List Span). times_held xs q) x.1 in omega (arith, h.apart q, same));
    }

-- ---- a child that becomes another, and edits after it

module _ (s u : Segments) (p : StructPlace) where
  pub puts_child : (i : ℕ) (t : Tree) (r : Place) → i < p.pointers → r ≡ after (after (place_view p.start) p.data_words) i → Becomes s u r t → Deepens s u p (put_child i t)
  puts_child i t r l e h n section kids o =
      let owned = child_of_struct n s (place_view p.start) p.data_words p.pointers i p.data_words section kids l o in
      let new = subst (λ q. Replaces (suc n) s u q t) e (h n (child kids i) (subst (λ q. Owns n s q (child kids i)) (sym e) owned)) in
      let more = object_owned_more n (suc n) s (object_of_struct p) (structure p.data_words section kids) (omega arith) o in
      struct_of_child (suc n) s u (place_view p.start) p.data_words p.pointers i p.data_words section kids t l more new

pub deepens_then : (s u v : Segments) (p : StructPlace) (f g : Edit) → Deepens s u p f → Edits u v p g → Deepens s v p (λ c. g (f c))
deepens_then s u v p f g a b n section kids o =
    let c = f (record { section = section; kids = kids }) in
    let d = g c in
    let first = a n section kids o in
    let more = object_owned_more n (suc n) s (object_of_struct p) (structure p.data_words section kids) (omega arith) o in
    let owned = object_replaced_owned (suc n) s u (object_of_struct p) (structure p.data_words section kids) (structure p.data_words c.section c.kids) more first in
    object_replaced_then (suc n) s u v (object_of_struct p) (structure p.data_words c.section c.kids) (structure p.data_words d.section d.kids) first (b (suc n) c.section c.kids owned)

pub deepens_same : (s u : Segments) (p : StructPlace) (f g : Edit) → ((c : Cell) → f c ≡ g c) → Deepens s u p f → Deepens s u p g
deepens_same s u p f g e h n section kids o =
    subst (λ (c : Cell). ReplacesObject (suc n) s u (object_of_struct p) (structure p.data_words c.section c.kids)) (e (record { section = section; kids = kids })) (h n section kids o)

-- the union may be marked afterwards
pub mark_last : (union member : Option ℕ) (i : ℕ) (t : Tree) (c : Cell) → mark union member (put_child i t c) ≡ put_child i t (mark union member c)
mark_last None None i t c = refl
mark_last None (Some m) i t c = refl
mark_last (Some at) None i t c = refl
mark_last (Some at) (Some m) i t c = refl

-- an edit that stands at each level
pub object_replaced_more : (n m : ℕ) (s u : Segments) (o : Object) (t v : Tree) → n ≤ m → OwnsObject n s o t → ReplacesObject n s u o v → ReplacesObject m s u o v
object_replaced_more n m s u o t v l h r =
    let x = object_more n m s o t l h.means in
    let y = object_more n m u o v l r.means in
    record {
      means = y.0;
      changes = changes_alike s u (object_footprint n s o) (object_footprint n u o) (object_footprint m s o) (object_footprint m u o) r.changes (λ q. ap (λ (xs : List Span). times_held xs q) x.1) (λ q. ap (λ (xs : List Span). times_held xs q) y.1);
    }

pub edits_deepen : (s u : Segments) (p : StructPlace) (f : Edit) → Edits s u p f → Deepens s u p f
edits_deepen s u p f h n section kids o =
    let c = f (record { section = section; kids = kids }) in
    object_replaced_more n (suc n) s u (object_of_struct p) (structure p.data_words section kids) (structure p.data_words c.section c.kids) (omega arith) o (h n section kids o)
