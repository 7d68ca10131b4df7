-- Zero words that become an object, and go again.
use Rattle.std.proofs.Common.{◌≡◌, ℕ, suc, ◌+◌, List, [], ◌∷◌, Some, refl, ap, sym, arith}
use Rattle.capnp_model.specs.Segments.{Segments, Place, words_at}
use Rattle.capnp_model.specs.Pointers.{Object, nothing}
use Rattle.capnp_model.specs.Trees.{Tree, null}
use Rattle.capnp_model.specs.Traversal.{tree_of, tree_at}
use Rattle.capnp_model.specs.Coverage.{Span, span, times_held}
use Rattle.capnp_model_writes.specs.Footprints.{footprint, object_footprint, Owns, OwnsObject}
use Rattle.capnp_model_writes.specs.Changes.{Changes, Replaces, ReplacesObject}
use Rattle.capnp_model_writes.specs.Detached.{all_taken, Detached}
use Rattle.capnp_model_writes.proofs.lemmas.Algebra.{On, changes_lift, changes_then, changes_alike, beside_kept, still_apart}
use Rattle.capnp_model_writes.proofs.lemmas.Detached.{part_changed, zeros_kept}
use Rattle.capnp_model_writes.proofs.lemmas.Levels.{value_beside_change}
use Rattle.capnp_model_writes.proofs.lemmas.Lift.{object_on}
use Rattle.capnp_model_writes.proofs.lemmas.Spans.{held, held_is, held_le}
use Rattle.capnp_model_writes.proofs.lemmas.There.{words_there}
use Rattle.capnp_copy_arenas.specs.Clearing.{ClearsObject}
use Rattle.capnp_copy_values.specs.Copies.{GrowsByZeros, Fills}
use Rattle.capnp_copy_values.proofs.Allocated.{NewWords}

-- what is filled, by its words
fills_by : (n : ℕ) (s u : Segments) (r : Place) (k : ℕ) (o : Object) (v : Tree) → Fills n s u (span r k) o v → Changes s u (held r k) (object_footprint n u o)
fills_by n s u r k o v f = changes_alike s u (times_held (span r k ∷ [])) (object_footprint n u o) (held r k) (object_footprint n u o) f.changes (λ q. omega (arith, held_is r k [] q)) (λ q. refl)

pub fills_of : (n : ℕ) (s u : Segments) (r : Place) (k : ℕ) (o : Object) (v : Tree) → tree_of u (tree_at n u) o ≡ Some v → Changes s u (held r k) (object_footprint n u o) → Fills n s u (span r k) o v
fills_of n s u r k o v e c = record { means = e; changes = changes_alike s u (held r k) (object_footprint n u o) (times_held (span r k ∷ [])) (object_footprint n u o) c (λ q. omega (arith, held_is r k [] q)) (λ q. refl) }

-- an object that took these words first is replaced
pub fills_replaced : (n : ℕ) (s u : Segments) (r : Place) (k : ℕ) (o : Object) (v : Tree) → ((q : Place) → object_footprint n s o q ≡ held r k q) → ReplacesObject n s u o v → Fills n s u (span r k) o v
fills_replaced n s u r k o v takes c = fills_of n s u r k o v c.means (changes_alike s u (object_footprint n s o) (object_footprint n u o) (held r k) (object_footprint n u o) c.changes (λ q. sym (takes q)) (λ q. refl))

-- its words are of no other
pub held_owned : (n : ℕ) (s : Segments) (r : Place) (k : ℕ) (o : Object) (v : Tree) → tree_of s (tree_at n s) o ≡ Some v → ((q : Place) → object_footprint n s o q ≡ held r k q) → OwnsObject n s o v
held_owned n s r k o v e takes = record { means = e; apart = λ q. omega (arith, takes q, held_le r k q) }

held_on : (s : Segments) (r : Place) (k : ℕ) (ws : List ℕ) → words_at s r k ≡ Some ws → On s (held r k)
held_on s r k ws e q l = words_there s (span r k ∷ []) q ((ws, e), tt) (omega (arith, l, held_is r k [] q))

pub fills_owned : (n : ℕ) (s u : Segments) (r : Place) (k : ℕ) (o : Object) (v : Tree) (ws : List ℕ) → words_at s r k ≡ Some ws → Fills n s u (span r k) o v → OwnsObject n u o v
fills_owned n s u r k o v ws e f = record { means = f.means; apart = still_apart s u (held r k) (object_footprint n u o) (fills_by n s u r k o v f) (held_on s r k ws e) (held_le r k) }

-- spare words that were filled
pub filled_detached : (n : ℕ) (s m u : Segments) (p : Place) (t : Tree) (r : Place) (k : ℕ) (spare : List Span) (o : Object) (v : Tree) → Detached n s m p t (span r k ∷ spare) nothing null → Fills n m u (span r k) o v → Detached n s u p t spare o v
filled_detached n s m u p t r k spare o v h f =
    let part : (q : Place) → times_held (span r k ∷ spare) q ≡ held r k q + times_held spare q = λ q. held_is r k spare q in
    let c = fills_by n m u r k o v f in
    let a = value_beside_change (suc n) m u (held r k) (object_footprint n u o) p t c (λ q. omega (arith, h.apart q, part q)) h.value in
    let same : (q : Place) → footprint (suc n) u p q ≡ footprint (suc n) m p q = λ q. ap (λ (xs : List Span). times_held (span p 1 ∷ xs) q) a.1 in
    part_changed n s m u p t null t v (span r k ∷ spare) spare nothing o h
    (changes_lift m u (held r k) (object_footprint n u o) (all_taken n m p (span r k ∷ spare) nothing) (all_taken n u p spare o) c (λ q. omega (arith, same q, part q)) (λ q. omega (arith, part q)))
    a.0 f.means (zeros_kept m u spare (beside_kept m u (held r k) (object_footprint n u o) spare c (λ q. omega (arith, h.apart q, part q))) h.zeros.1)

-- what was made of new words is zero again
pub given_up : (n : ℕ) (s m u y : Segments) (r : Place) (k : ℕ) (o : Object) (v : Tree) → NewWords s m r k → Fills n m u (span r k) o v → ClearsObject u y o → GrowsByZeros s y
given_up n s m u y r k o v new f clears =
    let own = fills_owned n m u r k o v _ new.zeros f in
    let gone = clears n v own in
    let all : Changes m y (held r k) (λ q. 0) = changes_then m u y (held r k) (object_footprint n u o) (λ q. 0) (fills_by n m u r k o v f) gone (object_on n u o v f.means) in
    let first : Changes s m (λ q. 0) (held r k) = record {
      grows = new.grows.grows;
      kept = new.grows.kept;
      within = λ q. omega (arith, new.new q);
      cleared = λ q w e z l. new.grows.cleared q w e refl (omega (arith, l));
    } in
    changes_then s m y (λ q. 0) (held r k) (λ q. 0) first all (held_on m r k _ new.zeros)

-- a value stands where only zeros are new
pub value_stands : (n : ℕ) (s u : Segments) (p : Place) (t : Tree) → Owns n s p t → GrowsByZeros s u → Replaces n s u p t
value_stands n s u p t o c =
    let a = value_beside_change n s u (λ q. 0) (λ q. 0) p t c (λ q. omega (arith, o.apart q)) o.means in
    let same : (q : Place) → footprint n u p q ≡ footprint n s p q = λ q. ap (λ (xs : List Span). times_held (span p 1 ∷ xs) q) a.1 in
    record {
      means = a.0;
      changes = changes_lift s u (λ q. 0) (λ q. 0) (footprint n s p) (footprint n u p) c (λ q. omega (arith, same q)) (λ q. omega arith);
    }
