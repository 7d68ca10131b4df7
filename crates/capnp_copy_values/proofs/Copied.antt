-- A value's canonical words, and their plain copy.
use Rattle.std.specs.Bool.{⊤}
use Rattle.std.proofs.Common.{◌≡◌, ◌⊎◌, ℕ, ◌+◌, ◌≤◌, List, [], ◌∷◌, ◌++◌, length, Some, Result, Ok, Err, refl, ap, sym, ◌∙◌, subst, inl, inr}
use Rattle.std.proofs.lemmas.List.{append-nil}
use Rattle.capnp_model.specs.Segments.{Segments, Place, root}
use Rattle.capnp_model.specs.Trees.{Tree}
use Rattle.capnp_model.specs.Trimming.{trim}
use Rattle.capnp_model.specs.Traversal.{tree_at}
use Rattle.capnp_model.specs.Visits.{Visit, visits, visits_cost}
use Rattle.capnp_model.proofs.lemmas.Chaining.{some_is}
use Rattle.capnp_units.specs.declared.errors.Error.{Error}
use Rattle.capnp_units.specs.declared.limiter.ReadLimiter.{ReadLimiter}
use Rattle.capnp_units.specs.Limits.{IsFree}
use Rattle.capnp_wire_objects.specs.Walks.{Walked, Stopped}
use Rattle.capnp_model_writes.proofs.lemmas.Algebra.{changes_nothing}
use Rattle.capnp_wire_canonical.specs.Reaches.{reach}
use Rattle.capnp_wire_canonical.specs.Copies.{copy_state, copy_visits, Halted, Unwritten, Written, Filled, room_of}
use Rattle.capnp_wire_canonical.specs.Objects.{canonical_copy}
use Rattle.capnp_model.specs.Sizes.{object_words}
use Rattle.capnp_units.specs.declared.kinds.ErrorKind.TheVariants.{SizeOverflow}
use Rattle.capnp_copy_arenas.specs.States.{ArenaState}
use Rattle.capnp_copy_values.specs.Copies.{BecomesCopy, CopiesValue, FollowsFew, Unplaced, IsStoppedOr, copy_source, limited_words}
use Rattle.capnp_copy_values.specs.Fits.{HasRoomIn, TakesIn, HasLongList, FitsWhereRoom, limited_arena, wanted}
use Rattle.capnp_copy_values.specs.Canonical.{IsReadForCopy, IsTooShort, canonical_message, CopiesCanonical, CanonicalTold, HasNoRoomForCanonical, lent_copy}
use Rattle.capnp_wire_objects.proofs.lemmas.Walks.{free_left, unstopped}

-- ---- what is written

-- What is written of a value, with the words in use and the cost.
abbrev pub Wrote : ℕ → Segments → Place → List (List ℕ) → ReadLimiter → ℕ → List (List ℕ) → ReadLimiter → Type 0
Wrote n from q lent old end into new = Written (canonical_copy (reach n from) q) (copy_state lent old) end (copy_state into new)

-- ---- how many pointers are followed

module _ (path : List Visit) (begun : (before rest : List Visit) (paid : ℕ) → path ≡ before ++ rest → visits_cost before ≡ Some paid → length before ≤ paid + 1) where
  pub walked_few : (old new : ReadLimiter) → Walked path old new → FollowsFew old new
  walked_few old new x = record { granted = x.cost; followed = length path; spends = x.spends; follows = x.follows; few = begun path [] x.cost (sym (append-nil path)) x.cost_is }

  pub stopped_few : ((before : List Visit) (last : Visit) (behind : List Visit) (paid : ℕ) → path ≡ before ++ last ∷ behind → visits_cost before ≡ Some paid → length before + 1 ≤ paid + 1) → (lent : List (List ℕ)) (old : ReadLimiter) (e : Error) (into : List (List ℕ)) (new : ReadLimiter) → Halted path 1 (copy_state lent old) e (copy_state into new) → FollowsFew old new
  stopped_few stopped lent old e into new h = by h.why
    where
      by : Stopped path old e new ⊎ Filled path (room_of lent) 1 old e new → FollowsFew old new
      by (inl x) = record { granted = x.paid; followed = length x.before + 1; spends = x.spends; follows = x.follows; few = stopped x.before x.last x.behind x.paid x.path_is x.cost_is }
      by (inr x) = let w = x.walked in record { granted = w.cost; followed = length x.before; spends = w.spends; follows = w.follows; few = begun x.before x.rest w.cost x.path_is w.cost_is }

-- ---- the copy

pub halted : (n : ℕ) (from : Segments) (q : Place) (lent : List (List ℕ)) (s : Segments) (p : Place) (old : ReadLimiter) (e : Error) (into : List (List ℕ)) (new : ReadLimiter) (r : Result ⊤ Error) (d : Error) → r ≡ Err d → d ≡ e → Unwritten (canonical_copy (reach n from) q) (copy_state lent old) e (copy_state into new) → CopiesCanonical (lent_copy (copy_source n from q) lent) p (limited_words s old) r (limited_words s new)
halted n from q lent s p old e into new r d is same h =
    subst (λ (y : Result ⊤ Error). CopiesCanonical (lent_copy (copy_source n from q) lent) p (limited_words s old) y (limited_words s new)) (sym (is ∙ ap (λ (y : Error). Err y) same)) (record { left = changes_nothing s (λ q. 0); why = inl (refl, by h.halted.why) })
  where
    by : Stopped (copy_visits n from q) old e new ⊎ Filled (copy_visits n from q) (room_of lent) 1 old e new → Stopped (copy_visits n from q) old e new ⊎ IsTooShort (lent_copy (copy_source n from q) lent) old e new
    by (inl stop) = inl stop
    by (inr few) = inr (few, h.full few.why)

pub copied : (n : ℕ) (from : Segments) (q : Place) (lent : List (List ℕ)) (s u : Segments) (p : Place) (old new start stop : ReadLimiter) (r : Result ⊤ Error) (t : Tree) (cost : ℕ) → IsReadForCopy (copy_source n from q) t old new → tree_at n (canonical_message t) root ≡ Some (trim t) → visits_cost (visits n (canonical_message t) root) ≡ Some cost → IsFree start
    → CopiesValue (copy_source n (canonical_message t) root) p (limited_words s start) r (limited_words u stop) → CopiesCanonical (lent_copy (copy_source n from q) lent) p (limited_words s old) r (limited_words u new)
copied n from q lent s u p old new start stop (Ok x) t cost read means costs free g =
    record {
      value = t;
      read = read;
      grows = g.grows;
      takes = record { start = start; end = stop; free = free; walked = g.walked; takes = g.takes };
      becomes = subst (BecomesCopy n s u p) (some_is _ _ (sym g.there_is ∙ means)) g.made;
    }
copied n from q lent s u p old new start stop (Err e) t cost read means costs free g = record { left = g.left; why = inr (by g.why) }
  where
    by : Stopped (visits n (canonical_message t) root) start e stop ⊎ Unplaced (canonical_message t) (visits n (canonical_message t) root) u start e stop → HasNoRoomForCanonical (copy_source n from q) (limited_words s old) e (limited_words u new)
    by (inl x) = absurd (unstopped (visits n (canonical_message t) root) cost start stop e costs (free_left start free) x)
    by (inr x) = record { value = t; read = read; start = start; end = stop; free = free; unplaced = x; takes = g.takes }

-- ---- what it takes, and why it is refused

pub halted_told : (n : ℕ) (from : Segments) (q : Place) (lent : List (List ℕ)) (s u : ArenaState) (i : ℕ) (told : Error → Type 0) (old : ReadLimiter) (e : Error) (into : List (List ℕ)) (new : ReadLimiter) (r : Result ⊤ Error) (d : Error) → r ≡ Err d → d ≡ e → Unwritten (canonical_copy (reach n from) q) (copy_state lent old) e (copy_state into new) → CanonicalTold (lent_copy (copy_source n from q) lent) i told (limited_arena s old) r (limited_arena u new)
halted_told n from q lent s u i told old e into new r d is same h =
    subst (λ (y : Result ⊤ Error). CanonicalTold (lent_copy (copy_source n from q) lent) i told (limited_arena s old) y (limited_arena u new)) (sym (is ∙ ap (λ (y : Error). Err y) same)) (inl (by h.halted.why))
  where
    by : Stopped (copy_visits n from q) old e new ⊎ Filled (copy_visits n from q) (room_of lent) 1 old e new → Stopped (copy_visits n from q) old e new ⊎ IsTooShort (lent_copy (copy_source n from q) lent) old e new
    by (inl stop) = inl stop
    by (inr few) = inr (few, h.full few.why)

pub copied_told : (n : ℕ) (from : Segments) (q : Place) (lent : List (List ℕ)) (s u : ArenaState) (i : ℕ) (told : Error → Type 0) (old new start stop : ReadLimiter) (r : Result ⊤ Error) (t : Tree) (cost : ℕ) → tree_at n from q ≡ Some t → tree_at n (canonical_message t) root ≡ Some (trim t) → visits_cost (visits n (canonical_message t) root) ≡ Some cost → IsFree start
    → FitsWhereRoom (tree_at n (canonical_message t) root) (visits n (canonical_message t) root) (wanted object_words (HasLongList (canonical_message t)) i) (limited_arena s start) r (limited_arena u stop) → IsStoppedOr (visits n (canonical_message t) root) start stop told r → CanonicalTold (lent_copy (copy_source n from q) lent) i told (limited_arena s old) r (limited_arena u new)
copied_told n from q lent s u i told old new start stop (Ok x) t cost there means costs free fits why = λ v is h. (
    let same : t ≡ v = some_is _ _ (sym there ∙ is) in
    subst (λ (y : Tree). TakesIn s u i (object_words (trim y))) same (fits (trim t) means (subst (λ (y : Tree). HasRoomIn s i (object_words (trim y))) (sym same) h))
    )
copied_told n from q lent s u i told old new start stop (Err e) t cost there means costs free fits why = inr (
  by why,
  λ v is h. (
      let same : t ≡ v = some_is _ _ (sym there ∙ is) in
      subst (λ (y : Tree). (e.kind ≡ SizeOverflow) × HasLongList (canonical_message y)) same (long (fits (trim t) means (subst (λ (y : Tree). HasRoomIn s i (object_words (trim y))) (sym same) h)))
      ),
)
  where
    by : Stopped (visits n (canonical_message t) root) start e stop ⊎ told e → told e
    by (inl x) = absurd (unstopped (visits n (canonical_message t) root) cost start stop e costs (free_left start free) x)
    by (inr y) = y

    long : Stopped (visits n (canonical_message t) root) start e stop ⊎ ((e.kind ≡ SizeOverflow) × HasLongList (canonical_message t)) → (e.kind ≡ SizeOverflow) × HasLongList (canonical_message t)
    long (inl x) = absurd (unstopped (visits n (canonical_message t) root) cost start stop e costs (free_left start free) x)
    long (inr y) = y
