-- Edits under which levels of pointers may be new, and writes that are done as far as one is refused.
use Rattle.std.proofs.Common.{◌≡◌, ℕ, suc, ◌+◌, ◌<◌, List, [], ◌∷◌, ◌++◌, Result, Ok, Err, refl, sym, ap, ◌∙◌, subst, arith}
use Rattle.std.specs.Prelude.{⊤}
use Rattle.std.specs.List.{AllByRecursion}
use Rattle.std.proofs.lemmas.List.{append_assoc}
use Rattle.capnp_model.specs.Segments.{Segments, Place, after}
use Rattle.capnp_model.specs.Pointers.{Object}
use Rattle.capnp_model.specs.Trees.{Tree, Trees, structure, child}
use Rattle.capnp_model.specs.Traversal.{tree_at}
use Rattle.capnp_model.specs.Coverage.{Span, covered_object, times_held, Keeps}
use Rattle.capnp_model.specs.Edits.{Cell, Edit, put_child, after_writes}
use Rattle.capnp_units.specs.declared.errors.Error.{Error}
use Rattle.capnp_model_writes.specs.Footprints.{behind, object_footprint, Owns, OwnsObject}
use Rattle.capnp_model_writes.specs.Changes.{Replaces, ReplacesObject}
use Rattle.capnp_model_writes.proofs.lemmas.Algebra.{beside_kept, changes_lift}
use Rattle.capnp_model_writes.proofs.lemmas.Kept.{value_same, object_same}
use Rattle.capnp_model_writes.proofs.lemmas.Lift.{child_of_struct, struct_of_child, object_replaced_owned, object_replaced_then}
use Rattle.capnp_wire_objects.specs.Places.{place_view}
use Rattle.capnp_copy_arenas.specs.Structs.{object_of_struct}
use Rattle.capnp_copy_arenas.specs.Values.{Becomes}
use Rattle.capnp_copy_arenas.specs.declared.fields.StructPlace.{StructPlace}
use Rattle.capnp_copy_values.specs.Copies.{GrowsByZeros}
use Rattle.capnp_schema_structs.specs.Edits.{Edits}
use Rattle.capnp_schema_structs.specs.GroupSets.{EditsAny, PutsAny, WritesAsFar}
use Rattle.capnp_schema_structs.proofs.lemmas.Deeper.{object_owned_more, object_replaced_more}
use Rattle.capnp_schema_structs.proofs.lemmas.Writes.{edits_none}

abbrev pub cell : ℕ → Trees → Cell
cell section kids = record { section = section; kids = kids }

-- an object stands where only zeros are new
object_stands : (n : ℕ) (s u : Segments) (o : Object) (t : Tree) → OwnsObject n s o t → GrowsByZeros s u → ReplacesObject n s u o t
object_stands n s u o t own c =
    let kept : AllByRecursion (Keeps s u) (covered_object s (behind n s) o) = beside_kept s u (λ q. 0) (λ q. 0) (covered_object s (behind n s) o) c (λ q. omega (arith, own.apart q)) in
    let a = object_same s u (tree_at n s) (tree_at n u) (behind n s) (behind n u) (λ p v x f. value_same n n s u p v (omega arith) x f) o t kept own.means in
    let same : (q : Place) → object_footprint n u o q ≡ object_footprint n s o q = λ q. ap (λ (xs : List Span). times_held xs q) a.1 in
    record {
      means = a.0;
      changes = changes_lift s u (λ q. 0) (λ q. 0) (object_footprint n s o) (object_footprint n u o) c (λ q. omega (arith, same q)) (λ q. omega arith);
    }

-- ---- edits

module _ (s u : Segments) (p : StructPlace) where
  pub any_of : (f : Edit) → Edits s u p f → EditsAny s u p f
  any_of f h n section kids o =
      let e : n ≡ n + 0 = omega arith in
      let d : Cell = f (cell section kids) in
      (0, subst (λ k. ReplacesObject k s u (object_of_struct p) (structure p.data_words d.section d.kids)) e (h n section kids o))

  pub any_same : (f g : Edit) → ((c : Cell) → f c ≡ g c) → EditsAny s u p f → EditsAny s u p g
  any_same f g e h n section kids o =
      let w = h n section kids o in
      (w.0, subst (λ (c : Cell). ReplacesObject (n + w.0) s u (object_of_struct p) (structure p.data_words c.section c.kids)) (e (cell section kids)) w.1)

  pub any_child : (i : ℕ) (t : Tree) (r : Place) → i < p.pointers → r ≡ after (after (place_view p.start) p.data_words) i → PutsAny s u r t → EditsAny s u p (put_child i t)
  any_child i t r l e h n section kids o =
      let owned = child_of_struct n s (place_view p.start) p.data_words p.pointers i p.data_words section kids l o in
      let w = h n (child kids i) (subst (λ q. Owns n s q (child kids i)) (sym e) owned) in
      let here = subst (λ q. Replaces (n + w.0) s u q t) e w.1 in
      let more = object_owned_more n (n + w.0) s (object_of_struct p) (structure p.data_words section kids) (omega arith) o in
      (w.0, struct_of_child (n + w.0) s u (place_view p.start) p.data_words p.pointers i p.data_words section kids t l more here)

  pub any_stands : GrowsByZeros s u → EditsAny s u p (λ c. c)
  any_stands h = any_of (λ c. c) (λ n section kids o. object_stands n s u (object_of_struct p) (structure p.data_words section kids) o h)

pub any_then : (s u v : Segments) (p : StructPlace) (f g : Edit) → EditsAny s u p f → EditsAny u v p g → EditsAny s v p (λ c. g (f c))
any_then s u v p f g a b n section kids o =
    let old : Tree = structure p.data_words section kids in
    let c : Cell = f (cell section kids) in
    let d : Cell = g c in
    let mid : Tree = structure p.data_words c.section c.kids in
    let new : Tree = structure p.data_words d.section d.kids in
    let x = a n section kids o in
    let more = object_owned_more n (n + x.0) s (object_of_struct p) old (omega arith) o in
    let owned : OwnsObject (n + x.0) u (object_of_struct p) mid = object_replaced_owned (n + x.0) s u (object_of_struct p) old mid more x.1 in
    let y = b (n + x.0) c.section c.kids owned in
    let sum : n + x.0 + y.0 ≡ n + (x.0 + y.0) = omega arith in
    let first : ReplacesObject (n + x.0 + y.0) s u (object_of_struct p) mid = object_replaced_more (n + x.0) (n + x.0 + y.0) s u (object_of_struct p) old mid (omega arith) more x.1 in
    let whole : ReplacesObject (n + x.0 + y.0) s v (object_of_struct p) new = object_replaced_then (n + x.0 + y.0) s u v (object_of_struct p) mid new first y.1 in
    (x.0 + y.0, subst (λ k. ReplacesObject k s v (object_of_struct p) new) sum whole)

-- ---- values behind pointers

pub puts_becomes : (s u : Segments) (p : Place) (v : Tree) → Becomes s u p v → PutsAny s u p v
puts_becomes s u p v h n t own =
    let one : suc n ≡ n + 1 = omega arith in
    (1, subst (λ k. Replaces k s u p v) one (h n t own))

-- ---- writes

pub after_append : (xs ys : List Edit) (c : Cell) → after_writes (xs ++ ys) c ≡ after_writes ys (after_writes xs c)
after_append [] ys c = refl
after_append (x ∷ xs) ys c = after_append xs ys (x c)

-- nothing is written
pub far_none : (s : Segments) (p : StructPlace) (x : ⊤) → WritesAsFar s s p [] (Ok x)
far_none s p x = any_of s s p (λ c. c) (edits_none s p)

-- a write that is refused, or anything else before the first
pub far_refused : (s u : Segments) (p : StructPlace) (fs : List Edit) (e : Error) → GrowsByZeros s u → WritesAsFar s u p fs (Err e)
far_refused s u p fs e h = ([], fs, refl, any_stands s u p h)

pub far_same : (r : Result ⊤ Error) (s u : Segments) (p : StructPlace) (fs gs : List Edit) → fs ≡ gs → WritesAsFar s u p fs r → WritesAsFar s u p gs r
far_same r s u p fs gs e h = subst (λ xs. WritesAsFar s u p xs r) e h

-- more writes, after those that are done
pub far_then : (r : Result ⊤ Error) (s u v : Segments) (p : StructPlace) (fs gs : List Edit) → EditsAny s u p (after_writes fs) → WritesAsFar u v p gs r → WritesAsFar s v p (fs ++ gs) r
far_then (Ok x) s u v p fs gs h k = any_same s v p (λ c. after_writes gs (after_writes fs c)) (after_writes (fs ++ gs)) (λ c. sym (after_append fs gs c)) (any_then s u v p (after_writes fs) (after_writes gs) h k)
far_then (Err e) s u v p fs gs h k =
    (fs ++ k.0, k.1, ap (λ (xs : List Edit). fs ++ xs) k.2 ∙ sym (append_assoc fs k.0 k.1), any_same s v p (λ c. after_writes k.0 (after_writes fs c)) (after_writes (fs ++ k.0)) (λ c. sym (after_append fs k.0 c)) (any_then s u v p (after_writes fs) (after_writes k.0) h k.3))

-- more writes, to which it doesn't come
pub far_more : (e : Error) (s u : Segments) (p : StructPlace) (fs gs : List Edit) → WritesAsFar s u p fs (Err e) → WritesAsFar s u p (fs ++ gs) (Err e)
far_more e s u p fs gs k = (k.0, k.1 ++ gs, ap (λ (xs : List Edit). xs ++ gs) k.2 ∙ append_assoc k.0 k.1 gs, k.3)

-- a refusal that is handed on
pub far_err : (r : Result ⊤ Error) (s u : Segments) (p : StructPlace) (fs : List Edit) (e' e : Error) → r ≡ Err e' → e' ≡ e → WritesAsFar s u p fs (Err e) → WritesAsFar s u p fs r
far_err r s u p fs e' e is same h = subst (λ x. WritesAsFar s u p fs x) (sym is) (subst (λ y. WritesAsFar s u p fs (Err y)) (sym same) h)
