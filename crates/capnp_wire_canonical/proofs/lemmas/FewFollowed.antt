-- A copy meets what a walk meets, but for a fault at each capability; so it follows as few pointers.
use Rattle.std.proofs.Common.{◌≡◌, ℕ, zero, suc, ◌+◌, ◌≤◌, List, [], ◌∷◌, ◌++◌, length, Some, Result, Ok, Err, refl, ap, sym, ◌∙◌, subst, arith}
use Rattle.std.specs.Option.{ok_or}
use Rattle.std.proofs.lemmas.List.{length-append, append_assoc}
use Rattle.capnp_model.specs.Kinds.{Kind, OutOfBounds}
use Rattle.capnp_model.specs.Segments.{Segments, Place, after, words_at}
use Rattle.capnp_model.specs.Pointers.{Object, nothing, a_struct, a_list, a_capability, found_at}
use Rattle.capnp_model.specs.Traversal.{ListKind, of_bits, of_pointers, of_structs, list_kind, list_words, tag_in}
use Rattle.capnp_model.specs.Coverage.{from_each, from_elements}
use Rattle.capnp_model.specs.Visits.{Visit, visits_of, list_visits, object_visits, leaf_visits, visits, visits_cost}
use Rattle.capnp_model.proofs.lemmas.Chaining.{bind_some}
use Rattle.capnp_model.proofs.lemmas.Visits.{follows_few, cost_front}
use Rattle.capnp_model.proofs.lemmas.Lists.{last_of}
use Rattle.capnp_wire_canonical.specs.Copies.{unless_capability, copy_visits}

-- As many visits, and those that are paid are the same.
abbrev Met : List Visit → List Visit → Type 0
Met [] [] = Unit {0}
Met [] (w ∷ ws) = ⊥
Met (Ok c ∷ vs) [] = ⊥
Met (Ok c ∷ vs) (w ∷ ws) = (w ≡ Ok c) × Met vs ws
Met (Err kind ∷ vs) [] = ⊥
Met (Err kind ∷ vs) (w ∷ ws) = Met vs ws

met_same : (vs : List Visit) → Met vs vs
met_same [] = tt
met_same (Ok c ∷ vs) = (refl, met_same vs)
met_same (Err kind ∷ vs) = met_same vs

met_both : (a b c d : List Visit) → Met a c → Met b d → Met (a ++ b) (c ++ d)
met_both [] b [] d x y = y
met_both [] b (w ∷ c) d x y = absurd x
met_both (Ok v ∷ a) b [] d x y = absurd x
met_both (Ok v ∷ a) b (w ∷ c) d x y = (x.0, met_both a b c d x.1 y)
met_both (Err kind ∷ a) b [] d x y = absurd x
met_both (Err kind ∷ a) b (w ∷ c) d x y = met_both a b c d x y

met_step : {A : Type 0} (f g : A → List Visit) (r : Result A Kind) → ((x : A) → Met (f x) (g x)) → Met (visits_of f r) (visits_of g r)
met_step f g (Ok x) h = h x
met_step f g (Err kind) h = tt

module _ (v w : Place → List Visit) (h : (p : Place) → Met (v p) (w p)) where
  each_met : (k : ℕ) (p : Place) → Met (from_each v p k) (from_each w p k)
  each_met zero p = tt
  each_met (suc k) p = met_both (v p) (from_each v (after p 1) k) (w p) (from_each w (after p 1) k) (h p) (each_met k (after p 1))

  elements_met : (n : ℕ) (p : Place) (d k : ℕ) → Met (from_elements v p d k n) (from_elements w p d k n)
  elements_met zero p d k = tt
  elements_met (suc n) p d k = met_both (from_each v (after p d) k) (from_elements v (after p (d + k)) d k n) (from_each w (after p d) k) (from_elements w (after p (d + k)) d k n) (each_met k (after p d)) (elements_met n (after p (d + k)) d k)

  list_met : (pads : ℕ) (p : Place) (kind : ListKind) (size n : ℕ) (ws : List ℕ) → Met (list_visits v pads p kind size n ws) (list_visits w pads p kind size n ws)
  list_met pads p of_bits size n ws = (refl, tt)
  list_met pads p of_pointers size n ws = (refl, each_met n p)
  list_met pads p of_structs size n ws = met_step _ _ (tag_in ws) (λ t. (refl, elements_met t.count (after p 1) t.data_words t.pointers))

  object_met : (s : Segments) (pads : ℕ) (o : Object) → Met (unless_capability o (object_visits s v pads o)) (object_visits s w pads o)
  object_met s pads nothing = (refl, tt)
  object_met s pads (a_capability i) = tt
  object_met s pads (a_struct p d k) = met_step _ _ (ok_or (words_at s p (d + k)) OutOfBounds) (λ ws. (refl, each_met k (after p d)))
  object_met s pads (a_list p size n) = met_step _ _ (ok_or (words_at s p (list_words (list_kind size) size n)) OutOfBounds) (λ ws. list_met pads p (list_kind size) size n ws)

leaf_met : (pads : ℕ) (o : Object) → Met (unless_capability o (leaf_visits pads o)) (leaf_visits pads o)
leaf_met pads nothing = (refl, tt)
leaf_met pads (a_capability i) = tt
leaf_met pads (a_struct p d k) = tt
leaf_met pads (a_list p size n) = tt

visits_met : (n : ℕ) (s : Segments) (p : Place) → Met (copy_visits n s p) (visits n s p)
unfolding visits copy_visits
visits_met zero s p = met_step _ _ (found_at s p) (λ f. leaf_met f.pads f.object)
visits_met (suc n) s p = met_step _ _ (found_at s p) (λ f. object_met (copy_visits n s) (visits n s) (visits_met n s) s f.pads f.object)

-- ---- visits that were paid

-- a walk begins with the visits that a copy paid
walk_begins : (before : List Visit) (last : Visit) (behind ws : List Visit) (paid : ℕ) → Met (before ++ last ∷ behind) ws → visits_cost before ≡ Some paid → (other : Visit) × (more : List Visit) × (ws ≡ before ++ other ∷ more)
walk_begins [] (Ok c) behind [] paid m e = absurd m
walk_begins [] (Err kind) behind [] paid m e = absurd m
walk_begins [] last behind (w ∷ ws) paid m e = (w, ws, refl)
walk_begins (Err kind ∷ before) last behind ws paid m e = absurd cc
walk_begins (Ok c ∷ before) last behind [] paid m e = absurd m
walk_begins (Ok c ∷ before) last behind (w ∷ ws) paid m e =
    let x = bind_some (visits_cost before) _ paid e in
    let y = walk_begins before last behind ws x.0 m.1 x.1 in
    (y.0, y.1, ap (λ (v : Visit). v ∷ ws) m.0 ∙ ap (λ (vs : List Visit). Ok c ∷ vs) y.2)

pub stopped_few : (n : ℕ) (s : Segments) (p : Place) (before : List Visit) (last : Visit) (behind : List Visit) (paid : ℕ) → copy_visits n s p ≡ before ++ last ∷ behind → visits_cost before ≡ Some paid → length before ≤ paid
stopped_few n s p before last behind paid is cost =
    let x = walk_begins before last behind (visits n s p) paid (subst (λ (vs : List Visit). Met vs (visits n s p)) is (visits_met n s p)) cost in
    follows_few n s p before x.0 x.1 paid x.2 cost

pub begun_few : (n : ℕ) (s : Segments) (p : Place) (path rest : List Visit) (paid : ℕ) → copy_visits n s p ≡ path ++ rest → visits_cost path ≡ Some paid → length path ≤ paid + 1
begun_few n s p [] rest paid is cost = omega arith
begun_few n s p (v ∷ vs) rest paid is cost =
    let y = last_of v vs in
    let x = cost_front y.0 (y.1 ∷ []) paid (ap visits_cost (sym y.2) ∙ cost) in
    let few = stopped_few n s p y.0 y.1 rest x.0 (is ∙ ap (λ (ws : List Visit). ws ++ rest) y.2 ∙ append_assoc y.0 (y.1 ∷ []) rest) x.1 in
    let less = x.2 in
    let long : length (v ∷ vs) ≡ length y.0 + length (y.1 ∷ []) = ap length y.2 ∙ length-append y.0 (y.1 ∷ []) in
    omega (arith, few, less, long)
