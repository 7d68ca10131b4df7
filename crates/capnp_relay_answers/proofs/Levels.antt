-- Copies with fewer levels and with more agree up to what is too deep, and a copy and a walk up to a capability.
use Rattle.std.proofs.Common.{◌≡◌, ℕ, zero, suc, ◌+◌, ◌≤◌, Bool, false, List, [], ◌∷◌, ◌++◌, ◌⊎◌, inl, inr, Some, Result, Ok, Err, refl, ap, sym, ◌∙◌, subst, arith}
use Rattle.std.specs.Option.{ok_or}
use Rattle.std.proofs.lemmas.List.{append_assoc}
use Rattle.capnp_model.specs.Kinds.{Kind, OutOfBounds, NestingLimitExceeded, CapabilityInCanonical}
use Rattle.capnp_model.specs.Segments.{Segments, Place, after, words_at}
use Rattle.capnp_model.specs.Pointers.{Object, nothing, a_struct, a_list, a_capability, found_at}
use Rattle.capnp_model.specs.Trees.{Tree, depth, has_capability}
use Rattle.capnp_model.specs.Traversal.{ListKind, of_bits, of_pointers, of_structs, list_kind, list_words, tag_in, tree_at}
use Rattle.capnp_model.specs.Coverage.{from_each, from_elements}
use Rattle.capnp_model.specs.Visits.{Visit, visits_of, list_visits, object_visits, leaf_visits, visits, visits_cost}
use Rattle.capnp_model.proofs.lemmas.Chaining.{bind_some}
use Rattle.capnp_units.specs.declared.errors.Error.{Error}
use Rattle.capnp_units.specs.declared.limiter.ReadLimiter.{ReadLimiter}
use Rattle.capnp_units.specs.Errors.{kind_of}
use Rattle.capnp_units.specs.Limits.{left_of}
use Rattle.capnp_units.specs.declared.kinds.ErrorKind.{ErrorKind}
use Rattle.capnp_units.specs.declared.kinds.ErrorKind.TheVariants as error
use Rattle.capnp_wire_objects.specs.Walks.{Walked, Stopped, CannotPass}
use Rattle.capnp_wire_canonical.specs.Copies.{copy_state, unless_capability, copy_visits, Written}
use Rattle.capnp_wire_canonical.proofs.lemmas.Limited.{WalkLaws, no_cost}

-- Some visits go on to a fault of this kind, where others go on as they do.
record Parts (kind : Kind) (vs ws : List Visit) : Type 0 where
  pub front : List Visit
  pub rest : List Visit
  pub more : List Visit
  pub one_is : vs ≡ front ++ Err kind ∷ rest
  pub other_is : ws ≡ front ++ more

-- Visits are the same up to a fault of this kind in the first.
abbrev Agree : Kind → List Visit → List Visit → Type 0
Agree kind vs ws = (vs ≡ ws) ⊎ Parts kind vs ws

module _ (kind : Kind) where
  parts_here : (rest ws : List Visit) → Agree kind (Err kind ∷ rest) ws
  parts_here rest ws = inr (record { front = []; rest = rest; more = ws; one_is = refl; other_is = refl })

  parts_later : (a b d : List Visit) → Agree kind b d → Agree kind (a ++ b) (a ++ d)
  parts_later a b d (inl same) = inl (ap (λ (vs : List Visit). a ++ vs) same)
  parts_later a b d (inr x) =
      inr (record {
        front = a ++ x.front;
        rest = x.rest;
        more = x.more;
        one_is = ap (λ (vs : List Visit). a ++ vs) x.one_is ∙ sym (append_assoc a x.front (Err kind ∷ x.rest));
        other_is = ap (λ (vs : List Visit). a ++ vs) x.other_is ∙ sym (append_assoc a x.front x.more);
      })

  both_agree : (a b c d : List Visit) → Agree kind a c → Agree kind b d → Agree kind (a ++ b) (c ++ d)
  both_agree a b c d (inl same) y = subst (λ (vs : List Visit). Agree kind (a ++ b) (vs ++ d)) same (parts_later a b d y)
  both_agree a b c d (inr x) y =
      inr (record {
        front = x.front;
        rest = x.rest ++ b;
        more = x.more ++ d;
        one_is = ap (λ (vs : List Visit). vs ++ b) x.one_is ∙ append_assoc x.front (Err kind ∷ x.rest) b;
        other_is = ap (λ (vs : List Visit). vs ++ d) x.other_is ∙ append_assoc x.front x.more d;
      })

  first_agree : (v : Visit) (vs ws : List Visit) → Agree kind vs ws → Agree kind (v ∷ vs) (v ∷ ws)
  first_agree v vs ws h = parts_later (v ∷ []) vs ws h

  step_agrees : {A : Type 0} (f g : A → List Visit) (r : Result A Kind) → ((x : A) → Agree kind (f x) (g x)) → Agree kind (visits_of f r) (visits_of g r)
  step_agrees f g (Ok x) h = h x
  step_agrees f g (Err k) h = inl refl

  module _ (v w : Place → List Visit) (h : (p : Place) → Agree kind (v p) (w p)) where
    each_agree : (k : ℕ) (p : Place) → Agree kind (from_each v p k) (from_each w p k)
    each_agree zero p = inl refl
    each_agree (suc k) p = both_agree (v p) (from_each v (after p 1) k) (w p) (from_each w (after p 1) k) (h p) (each_agree k (after p 1))

    elements_agree : (n : ℕ) (p : Place) (d k : ℕ) → Agree kind (from_elements v p d k n) (from_elements w p d k n)
    elements_agree zero p d k = inl refl
    elements_agree (suc n) p d k = both_agree (from_each v (after p d) k) (from_elements v (after p (d + k)) d k n) (from_each w (after p d) k) (from_elements w (after p (d + k)) d k n) (each_agree k (after p d)) (elements_agree n (after p (d + k)) d k)

    list_agrees : (pads : ℕ) (p : Place) (of : ListKind) (size n : ℕ) (ws : List ℕ) → Agree kind (list_visits v pads p of size n ws) (list_visits w pads p of size n ws)
    list_agrees pads p of_bits size n ws = inl refl
    list_agrees pads p of_pointers size n ws = first_agree _ _ _ (each_agree n p)
    list_agrees pads p of_structs size n ws = step_agrees _ _ (tag_in ws) (λ t. first_agree _ _ _ (elements_agree t.count (after p 1) t.data_words t.pointers))

    object_agrees : (s : Segments) (pads : ℕ) (o : Object) → Agree kind (object_visits s v pads o) (object_visits s w pads o)
    object_agrees s pads nothing = inl refl
    object_agrees s pads (a_capability i) = inl refl
    object_agrees s pads (a_struct p d k) = step_agrees _ _ (ok_or (words_at s p (d + k)) OutOfBounds) (λ ws. first_agree _ _ _ (each_agree k (after p d)))
    object_agrees s pads (a_list p size n) = step_agrees _ _ (ok_or (words_at s p (list_words (list_kind size) size n)) OutOfBounds) (λ ws. list_agrees pads p (list_kind size) size n ws)

  -- a visit of another kind, where those before it were paid, is in front of the fault
  held : (before : List Visit) (last : Visit) (behind front rest : List Visit) (paid : ℕ) → before ++ last ∷ behind ≡ front ++ Err kind ∷ rest → visits_cost before ≡ Some paid → (last ≡ Err kind → ⊥) → (more : List Visit) × (front ≡ before ++ last ∷ more)
  held [] last behind [] rest paid e cost other = absurd (other cc)
  held [] last behind (v ∷ front) rest paid e cost other = (front, cc)
  held (Err k ∷ before) last behind front rest paid e cost other = absurd cc
  held (Ok c ∷ before) last behind [] rest paid e cost other = absurd cc
  held (Ok c ∷ before) last behind (v ∷ front) rest paid e cost other =
      let x = bind_some (visits_cost before) _ paid cost in
      let tail : before ++ last ∷ behind ≡ front ++ Err kind ∷ rest = cc in
      let y = held before last behind front rest x.0 tail x.1 other in
      (y.0, let first : v ≡ Ok c = cc in ap (λ (u : Visit). u ∷ front) first ∙ ap (λ (vs : List Visit). Ok c ∷ vs) y.1)

  -- where the first are paid, both are the same
  paid_alike : (vs ws : List Visit) (cost : ℕ) → Agree kind vs ws → visits_cost vs ≡ Some cost → vs ≡ ws
  paid_alike vs ws cost (inl same) paid = same
  paid_alike vs ws cost (inr x) paid = absurd (no_cost x.front x.rest kind cost (sym (ap visits_cost x.one_is) ∙ paid))

  -- a walk that another fault stops is stopped by it on the other way too
  stopped_alike : (vs ws : List Visit) (l m : ReadLimiter) (e : Error) → Agree kind vs ws → Stopped vs l e m → (kind_of e.kind ≡ kind → ⊥) → Stopped ws l e m
  stopped_alike vs ws l m e (inl same) stop other = subst (λ (path : List Visit). Stopped path l e m) same stop
  stopped_alike vs ws l m e (inr x) stop other =
      let y = held stop.before stop.last stop.behind x.front x.rest stop.paid (sym stop.path_is ∙ x.one_is) stop.cost_is (no_last stop.last stop.why) in
      record {
        before = stop.before;
        last = stop.last;
        behind = y.0 ++ x.more;
        path_is = x.other_is ∙ ap (λ (path : List Visit). path ++ x.more) y.1 ∙ append_assoc stop.before (stop.last ∷ y.0) x.more;
        paid = stop.paid;
        cost_is = stop.cost_is;
        spends = stop.spends;
        follows = stop.follows;
        why = stop.why;
      }
    where
      no_last : (v : Visit) → CannotPass (left_of l) stop.paid v e.kind → v ≡ Err kind → ⊥
      no_last (Ok n) why is = cc
      no_last (Err k) why is = other (let same : k ≡ kind = cc in why ∙ same)

-- ---- fewer levels and more

data_agree : (w : Place → List Visit) (s : Segments) (pads : ℕ) (o : Object) → Agree NestingLimitExceeded (unless_capability o (leaf_visits pads o)) (unless_capability o (object_visits s w pads o))
data_agree w s pads nothing = inl refl
data_agree w s pads (a_capability i) = inl refl
data_agree w s pads (a_struct p d k) = parts_here NestingLimitExceeded [] _
data_agree w s pads (a_list p size n) = parts_here NestingLimitExceeded [] _

unless_agree : (kind : Kind) (vs ws : List Visit) (o : Object) → Agree kind vs ws → Agree kind (unless_capability o vs) (unless_capability o ws)
unless_agree kind vs ws nothing h = h
unless_agree kind vs ws (a_capability i) h = inl refl
unless_agree kind vs ws (a_struct p d k) h = h
unless_agree kind vs ws (a_list p size n) h = h

-- a copy with fewer levels meets what one with more does, up to a value that is too deep
copies_agree : (n m : ℕ) (s : Segments) (p : Place) → n ≤ m → Agree NestingLimitExceeded (copy_visits n s p) (copy_visits m s p)
unfolding copy_visits
copies_agree zero zero s p less = inl refl
copies_agree zero (suc m) s p less = step_agrees NestingLimitExceeded _ _ (found_at s p) (λ f. data_agree (copy_visits m s) s f.pads f.object)
copies_agree (suc n) zero s p less = absurd (omega arith)
copies_agree (suc n) (suc m) s p less =
    let below : n ≤ m = omega arith in
    step_agrees NestingLimitExceeded _ _ (found_at s p) (λ f. unless_agree NestingLimitExceeded _ _ f.object (object_agrees NestingLimitExceeded (copy_visits n s) (copy_visits m s) (λ q. copies_agree n m s q below) s f.pads f.object))

only_nesting : (k : ErrorKind) → kind_of k ≡ NestingLimitExceeded → k ≡ error.NestingLimitExceeded
only_nesting error.OutOfBounds e = absurd cc
only_nesting error.MalformedFarPointer e = absurd cc
only_nesting error.WrongPointerKind e = absurd cc
only_nesting error.WrongElementSize e = absurd cc
only_nesting error.NestingLimitExceeded e = refl
only_nesting error.ReadLimitExceeded e = absurd cc
only_nesting error.CapabilityInCanonical e = absurd cc
only_nesting error.TextWithoutZeroByte e = absurd cc
only_nesting error.UnknownPointerType e = absurd cc
only_nesting error.SizeOverflow e = absurd cc
only_nesting error.OutOfMemory e = absurd cc
only_nesting error.InvalidNumberOfSegments e = absurd cc
only_nesting error.FailedToFillTheWholeBuffer e = absurd cc
only_nesting error.PrematureEndOfPackedInput e = absurd cc
only_nesting error.PackedInputDidNotEndCleanlyOnASegmentBoundary e = absurd cc
only_nesting error.MessageTooLarge e = absurd cc
only_nesting error.BufferNotLargeEnough e = absurd cc
only_nesting error.PrematureEndOfFile e = absurd cc
only_nesting error.MessageEndsPrematurely e = absurd cc
only_nesting error.Device e = absurd cc
only_nesting error.FieldNotFound e = absurd cc
only_nesting error.TypeMismatch e = absurd cc
only_nesting error.FieldAndDefaultMismatch e = absurd cc
only_nesting error.NotAStruct e = absurd cc
only_nesting error.GroupFieldButTypeIsNotStruct e = absurd cc
only_nesting error.InitIsOnlyValidForStructAndAnyPointerFields e = absurd cc
only_nesting error.InitnIsOnlyValidForListTextOrDataFields e = absurd cc
only_nesting error.ExpectedAListOrBlob e = absurd cc
only_nesting error.ListAnyPointerNotSupported e = absurd cc
only_nesting error.ListCapabilityNotSupported e = absurd cc
only_nesting error.CannotSetAnyPointerFieldToAPrimitiveValue e = absurd cc
only_nesting error.SettingDynamicCapabilitiesIsUnsupported e = absurd cc
only_nesting error.InactiveMember e = absurd cc
only_nesting error.IndexOutOfRange e = absurd cc
only_nesting error.WrongStep e = absurd cc
only_nesting error.UnreadablePointer e = absurd cc
only_nesting error.ClearNeedsAField e = absurd cc

-- a copy that is stopped by no want of levels is stopped so with more levels
pub stopped_with_more : (n m : ℕ) (s : Segments) (p : Place) (l k : ReadLimiter) (e : Error) → n ≤ m → (e.kind ≡ error.NestingLimitExceeded → ⊥) → Stopped (copy_visits n s p) l e k → Stopped (copy_visits m s p) l e k
stopped_with_more n m s p l k e less other stop = stopped_alike NestingLimitExceeded _ _ l k e (copies_agree n m s p less) stop (λ is. other (only_nesting e.kind is))

-- what is read keeps its levels, and is read with any that its depth keeps
pub record LevelLaws : Type 0 where
  pub deep : (n : ℕ) (s : Segments) (p : Place) (t : Tree) → tree_at n s p ≡ Some t → depth t ≤ n
  pub levels : (n m : ℕ) (s : Segments) (p : Place) (t : Tree) → tree_at n s p ≡ Some t → depth t ≤ m → tree_at m s p ≡ Some t

module _ (laws : LevelLaws) (n m : ℕ) (s : Segments) (p : Place) (less : n ≤ m) where
  pub read_with_more : (t : Tree) → tree_at n s p ≡ Some t → tree_at m s p ≡ Some t
  read_with_more t there = let low = laws.deep n s p t there in laws.levels n m s p t there (omega (arith, low, less))

  -- a copy that was made is made so with more levels
  pub written_with_more : (bad : Tree → Bool) (put : Tree → List ℕ → List ℕ) (most used : ℕ) (old new : List (List ℕ)) (l k : ReadLimiter) (end : ℕ) → Written (record { there = tree_at n s p; bad = bad; put = put; path = copy_visits n s p; used = used; most = most }) (copy_state old l) end (copy_state new k) → Written (record { there = tree_at m s p; bad = bad; put = put; path = copy_visits m s p; used = used; most = most }) (copy_state old l) end (copy_state new k)
  written_with_more bad put most used old new l k end w =
      let same = paid_alike NestingLimitExceeded _ _ w.cost (copies_agree n m s p less) w.cost_is in
      record {
        what = w.what;
        there_is = read_with_more w.what w.there_is;
        clean = w.clean;
        words = w.words;
        behind = w.behind;
        bound = w.bound;
        near = w.near;
        more = w.more;
        cost = w.cost;
        cost_is = sym (ap visits_cost same) ∙ w.cost_is;
        walked = subst (λ (path : List Visit). Walked path l k) same w.walked;
        few = w.few;
      }

  -- and a whole walk over a value without a capability is the same
  pub walked_with_more : WalkLaws → (t : Tree) → tree_at n s p ≡ Some t → has_capability t ≡ false → visits n s p ≡ visits m s p
  walked_with_more walks t there clean =
      let copy = walks.walks n s p t there clean in
      let same = paid_alike NestingLimitExceeded _ _ _ (copies_agree n m s p less) (ap visits_cost copy ∙ walks.cost n s p t there) in
      sym copy ∙ same ∙ walks.walks m s p t (read_with_more t there) clean

-- ---- a copy and a walk

clean_agree : (vs ws : List Visit) (o : Object) → Agree CapabilityInCanonical vs ws → Agree CapabilityInCanonical (unless_capability o vs) ws
clean_agree vs ws nothing h = h
clean_agree vs ws (a_capability i) h = parts_here CapabilityInCanonical [] ws
clean_agree vs ws (a_struct p d k) h = h
clean_agree vs ws (a_list p size n) h = h

-- a copy meets what a walk does, up to a capability
walk_agrees : (n : ℕ) (s : Segments) (p : Place) → Agree CapabilityInCanonical (copy_visits n s p) (visits n s p)
unfolding visits copy_visits
walk_agrees zero s p = step_agrees CapabilityInCanonical _ _ (found_at s p) (λ f. clean_agree _ _ f.object (inl refl))
walk_agrees (suc n) s p = step_agrees CapabilityInCanonical _ _ (found_at s p) (λ f. clean_agree _ _ f.object (object_agrees CapabilityInCanonical (copy_visits n s) (visits n s) (walk_agrees n s) s f.pads f.object))

pub stopped_on_walk : (n : ℕ) (s : Segments) (p : Place) (l k : ReadLimiter) (e : Error) → e.kind ≡ error.NestingLimitExceeded → Stopped (copy_visits n s p) l e k → Stopped (visits n s p) l e k
stopped_on_walk n s p l k e is stop = stopped_alike CapabilityInCanonical _ _ l k e (walk_agrees n s p) stop (λ bad. let no : NestingLimitExceeded ≡ CapabilityInCanonical = sym (ap kind_of is) ∙ bad in absurd cc)
