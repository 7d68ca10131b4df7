-- What belongs to a value is the same at each nesting limit that the value keeps.
use Rattle.std.proofs.Common.{◌≡◌, ℕ, ◌+◌, List, Some, arith, ◌≤◌, ◌<◌, ap, [], ◌∷◌}
use Rattle.std.specs.List.{AllByRecursion}
use Rattle.capnp_model.specs.Coverage.{Span, times_held, Keeps, span}
use Rattle.capnp_model.specs.Segments.{Segments, Place, word_at}
use Rattle.capnp_model.specs.Traversal.{tree_at}
use Rattle.capnp_model.specs.Trees.{Tree}
use Rattle.capnp_model.proofs.lemmas.SoundRules.{apart}
use Rattle.capnp_model_writes.specs.Changes.{Changes, Replaces}
use Rattle.capnp_model_writes.specs.Footprints.{behind, footprint, Owns}
use Rattle.capnp_model_writes.proofs.lemmas.Algebra.{changes_nothing, changes_alike, beside_kept}
use Rattle.capnp_model_writes.proofs.lemmas.Growing.{zero_held, Extends}
use Rattle.capnp_model_writes.proofs.lemmas.Kept.{value_same}
use Rattle.capnp_model_writes.proofs.lemmas.Spans.{held, there}
use Rattle.capnp_model_writes.proofs.lemmas.There.{spans_kept}

all_same : (s : Segments) (xs : List Span) → AllByRecursion (Keeps s s) xs
all_same s [] = tt
all_same s (x ∷ xs) = (λ ws e. e, all_same s xs)

pub behind_more : (n m : ℕ) (s : Segments) (p : Place) (t : Tree) → n ≤ m → tree_at n s p ≡ Some t → behind m s p ≡ behind n s p
behind_more n m s p t l e = (value_same n m s s p t l (all_same s (span p 1 ∷ behind n s p)) e).1

pub footprint_more : (n m : ℕ) (s : Segments) (p : Place) (t : Tree) (q : Place) → n ≤ m → tree_at n s p ≡ Some t → footprint m s p q ≡ footprint n s p q
footprint_more n m s p t q l e = ap (λ (xs : List Span). times_held (span p 1 ∷ xs) q) (behind_more n m s p t l e)

pub owned_more : (n m : ℕ) (s : Segments) (p : Place) (t : Tree) → n ≤ m → Owns n s p t → Owns m s p t
owned_more n m s p t l o =
    record {
      means = (value_same n m s s p t l (all_same s (span p 1 ∷ behind n s p)) o.means).0;
      apart = λ q. omega (arith, o.apart q, footprint_more n m s p t q l o.means);
    }

pub replaced_more : (n m : ℕ) (s u : Segments) (p : Place) (t v : Tree) → n ≤ m → Owns n s p t → Replaces n s u p v → Replaces m s u p v
replaced_more n m s u p t v l o r =
    record {
      means = (value_same n m u u p v l (all_same u (span p 1 ∷ behind n u p)) r.means).0;
      changes = changes_alike s u (footprint n s p) (footprint n u p) (footprint m s p) (footprint m u p) r.changes (λ q. footprint_more n m s p t q l o.means) (λ q. footprint_more n m u p v q l r.means);
    }

pub replaced_by_itself : (n : ℕ) (s : Segments) (p : Place) (t : Tree) → Owns n s p t → Replaces n s s p t
replaced_by_itself n s p t o = record { means = o.means; changes = changes_nothing s (footprint n s p) }

-- a value that takes no word of what changed
pub value_beside_change : (n : ℕ) (s u : Segments) (c d : Place → ℕ) (p : Place) (t : Tree) → Changes s u c d → ((q : Place) → footprint n s p q + c q ≤ 1) → tree_at n s p ≡ Some t → (tree_at n u p ≡ Some t) × (behind n u p ≡ behind n s p)
value_beside_change n s u c d p t h apart e = value_same n n s u p t (omega arith) (beside_kept s u c d (span p 1 ∷ behind n s p) h apart) e

-- new zero words change no value, and may be counted with it
pub grown_value : (n : ℕ) (s u : Segments) (p q : Place) (k : ℕ) (t : Tree) → Owns n s p t → Extends s u q k → (tree_at n u p ≡ Some t) × (behind n u p ≡ behind n s p)
grown_value n s u p q k t o x = value_same n n s u p t (omega arith) (spans_kept s u (span p 1 ∷ behind n s p) x.grows (λ r w l e. x.kept r w e)) o.means

pub grown_owned : (n : ℕ) (s u : Segments) (p q : Place) (k : ℕ) (t : Tree) → Owns n s p t → Extends s u q k → Replaces n s u p t
grown_owned n s u p q k t o x =
    let v = grown_value n s u p q k t o x in
    let same : (r : Place) → footprint n u p r ≡ footprint n s p r = λ r. ap (λ (xs : List Span). times_held (span p 1 ∷ xs) r) v.1 in
    record {
      means = v.0;
      changes = record {
        grows = x.grows;
        kept = λ r w e z. x.kept r w e;
        within = λ r. omega (arith, same r);
        cleared = λ r w e z l. zero_by r w e (omega (arith, same r, z, l, x.only r, there u r w e));
      };
    }
  where
    zero_by : (r : Place) (w : ℕ) → word_at u r ≡ Some w → 0 < held q k r → w ≡ 0
    zero_by r w e l = zero_held u q k r w x.zeros e l
