-- Children that become null one after the other.
use Rattle.std.proofs.Common.{◌≡◌, ℕ, zero, suc, ◌+◌, ◌*◌, ◌<◌, ◌≤◌, List, Option, Some, refl, ap, sym, ◌∙◌, subst, arith}
use Rattle.capnp_model.specs.Segments.{Segments, Place, after, words_at}
use Rattle.capnp_model.specs.Pointers.{a_struct}
use Rattle.capnp_model.specs.Trees.{Tree, null, structure, Trees, none, ◌▸◌, tree_count, with_child, resized}
use Rattle.capnp_model.specs.Traversal.{tree_at}
use Rattle.capnp_model_writes.specs.Footprints.{object_footprint, OwnsObject}
use Rattle.capnp_model_writes.specs.Changes.{ReplacesObject}
use Rattle.capnp_model_writes.proofs.lemmas.Algebra.{changes_nothing}
use Rattle.capnp_model_writes.proofs.lemmas.Lift.{struct_parts, object_replaced_owned, object_replaced_then, child_of_struct, struct_of_child}
use Rattle.capnp_model_writes.proofs.lemmas.Turns.{struct_counted}
use Rattle.capnp_copy_arenas.specs.Clearing.{ClearsValue, ClearsKids}

-- the first of them are null
pub nulled : ℕ → Trees → Trees
nulled zero ts = ts
nulled (suc i) none = none
nulled (suc i) (t ▸ ts) = null ▸ nulled i ts

nulled_next : (i : ℕ) (ts : Trees) → i < tree_count ts → with_child (nulled i ts) i null ≡ nulled (suc i) ts
unfolding nulled
nulled_next i none l = absurd (omega (arith, l))
nulled_next zero (t ▸ ts) l = refl
nulled_next (suc i) (t ▸ ts) l = ap (λ (us : Trees). null ▸ us) (nulled_next i ts (omega (arith, l)))

nulled_all : (k : ℕ) (ts : Trees) → tree_count ts ≡ k → nulled k ts ≡ resized k none
unfolding nulled
nulled_all zero none e = refl
nulled_all zero (t ▸ ts) e = absurd (omega (arith, e))
nulled_all (suc k) none e = absurd (omega (arith, e))
nulled_all (suc k) (t ▸ ts) e = ap (λ (us : Trees). null ▸ us) (nulled_all k ts (omega (arith, e)))

-- the first i of a struct's children have become null
pub KidsSoFar : Segments → Segments → Place → ℕ → ℕ → ℕ → Type 0
KidsSoFar s u p d k i = (n w section : ℕ) (kids : Trees) → OwnsObject n s (a_struct p d k) (structure w section kids) → ReplacesObject n s u (a_struct p d k) (structure w section (nulled i kids))

pub kids_none : (s : Segments) (p : Place) (d k : ℕ) → KidsSoFar s s p d k 0
unfolding KidsSoFar nulled
kids_none s p d k = λ n w section kids o. record { means = o.means; changes = changes_nothing s (object_footprint n s (a_struct p d k)) }

pub kids_next : (s u v : Segments) (p : Place) (d k i : ℕ) → i < k → KidsSoFar s u p d k i → ClearsValue u v (after (after p d) i) → KidsSoFar s v p d k (suc i)
unfolding KidsSoFar
kids_next s u v p d k i l h c = λ n w section kids o. (
    let now = h n w section kids o in
    let mine = object_replaced_owned n s u (a_struct p d k) _ _ o now in
    let one = c n _ (child_of_struct n u p d k i w section (nulled i kids) l mine) in
    let next = struct_of_child n u v p d k i w section (nulled i kids) null l mine one in
    let few = struct_counted n s p d k w section kids o in
    let same : structure w section (with_child (nulled i kids) i null) ≡ structure w section (nulled (suc i) kids) = ap (structure w section) (nulled_next i kids (omega (arith, few, l))) in
    object_replaced_then n s u v (a_struct p d k) _ _ now (subst (λ (t : Tree). ReplacesObject n u v (a_struct p d k) t) same next)
    )

pub kids_all : (s u : Segments) (p : Place) (d k : ℕ) → KidsSoFar s u p d k k → ClearsKids s u p d k
unfolding KidsSoFar
kids_all s u p d k h = λ n w section kids o.
    subst (λ (ts : Trees). ReplacesObject n s u (a_struct p d k) (structure w section ts)) (nulled_all k kids (struct_counted n s p d k w section kids o)) (h n w section kids o)

pub kids_without : (s : Segments) (p : Place) (d k : ℕ) → k ≡ 0 → ClearsKids s s p d k
kids_without s p d k e = kids_all s s p d k (subst (λ (i : ℕ). KidsSoFar s s p d k i) (sym e) (kids_none s p d k))

-- no struct is where its words aren't
pub kids_absent : (s : Segments) (p : Place) (d k : ℕ) → ((ws : List ℕ) → words_at s p (d + k) ≡ Some ws → ⊥) → ClearsKids s s p d k
kids_absent s p d k h = λ n w section kids o. (let x = (struct_parts n s p d k w section kids o.means).1 in absurd (h x.words x.there))
