-- What a walk meets at a pointer.
use Rattle.std.proofs.Common.{◌≡◌, ℕ, zero, suc, ◌+◌, ◌*◌, ◌%◌, ◌^◌, nat_lt, Bool, true, false, List, [], ◌∷◌, Option, Some, Result, Ok, Err, refl, ap, sym, ◌∙◌, arith}
use Rattle.std.specs.Option.{ok_or}
use Rattle.std.proofs.lemmas.Bool.Decides.{nat_tests}
use Rattle.capnp_model.specs.Kinds.{Kind, OutOfBounds, NestingLimitExceeded}
use Rattle.capnp_model.specs.Chains.{◌>>=◌, ◌and_then◌, guard}
use Rattle.capnp_model.specs.Sections.{section_of}
use Rattle.capnp_model.specs.Segments.{Segments, Place, words_at}
use Rattle.capnp_model.specs.Pointers as model
use Rattle.capnp_model.specs.Trees.{plain_list, size_bits}
use Rattle.capnp_model.specs.Traversal.{tag_in, ListKind, of_bits, of_pointers, of_structs, list_kind, list_words, list_tree, tree_of, tree_at, cost_at}
use Rattle.capnp_model.specs.Visits.{Visit, visits_of, list_visits, object_visits, leaf_visits, visits}
use Rattle.capnp_model.proofs.lemmas.Chaining.{bind_ok, ok_is, ok_or_some, guard_ok}
use Rattle.capnp_model.proofs.lemmas.ReadFits.{tree_at_fits}
use Rattle.capnp_wire_objects.specs.declared.object.Object.{Object}
use Rattle.capnp_wire_objects.specs.declared.object.Found.{Found}
use Rattle.capnp_wire_objects.specs.Objects.{whole_list, whole, object_at}
use Rattle.capnp_wire_objects.specs.Follow.{own_cost, suffice_for, object_within, levels_suffice}
use Rattle.capnp_wire_objects.specs.Inside.{tree_in, cost_in, met_in}
use Rattle.capnp_wire_objects.proofs.lemmas.Linking.{IsPlain, IsSized, tree_whole, cost_whole, visits_whole}

-- ---- a step that is refused

pub refused_step : {A B : Type 0} (r : Result A Kind) (f : A → Result B Kind) (h : A → List Visit) (k : Kind) → (r and_then f) ≡ Err k → ((x : A) → r ≡ Ok x → f x ≡ Err k → h x ≡ Err k ∷ []) → visits_of h r ≡ Err k ∷ []
refused_step (Ok x) f h k e g = g x refl e
refused_step (Err j) f h k e g = let is : j ≡ k = cc in ap (λ (x : Kind). Err x ∷ []) is

pub list_refused : (v : Place → List Visit) (pads : ℕ) (p : Place) (kind : ListKind) (size n : ℕ) (ws : List ℕ) (k : Kind) → whole_list p kind size n ws ≡ Err k → list_visits v pads p kind size n ws ≡ Err k ∷ []
list_refused v pads p of_bits size n ws k e = absurd cc
list_refused v pads p of_pointers size n ws k e = absurd cc
list_refused v pads p of_structs size n ws k e = refused_step (tag_in ws) _ _ k e (λ t is g. absurd cc)

whole_refused : (s : Segments) (v : Place → List Visit) (pads : ℕ) (m : model.Object) (k : Kind) → whole s m ≡ Err k → object_visits s v pads m ≡ Err k ∷ []
whole_refused s v pads model.nothing k e = absurd cc
whole_refused s v pads (model.a_capability i) k e = absurd cc
whole_refused s v pads (model.a_struct p d n) k e = refused_step (ok_or (words_at s p (d + n)) OutOfBounds) _ _ k e (λ ws is g. absurd cc)
whole_refused s v pads (model.a_list p size n) k e = refused_step (ok_or (words_at s p (list_words (list_kind size) size n)) OutOfBounds) _ _ k e (λ ws is g. list_refused v pads p (list_kind size) size n ws k g)

-- ---- levels

no_level : (pads : ℕ) (m : model.Object) → suffice_for 0 m ≡ false → leaf_visits pads m ≡ Err NestingLimitExceeded ∷ []
no_level pads model.nothing e = absurd cc
no_level pads (model.a_capability i) e = absurd cc
no_level pads (model.a_struct p d k) e = refl
no_level pads (model.a_list p size n) e = refl

some_level : (n : ℕ) (m : model.Object) → suffice_for (suc n) m ≡ false → ⊥
some_level n model.nothing e = cc
some_level n (model.a_capability i) e = cc
some_level n (model.a_struct p d k) e = grind (arith, nat_tests)
some_level n (model.a_list p size c) e = grind (arith, nat_tests)

-- what needs no level is whole, and has no words
leaf_whole : (s : Segments) (m : model.Object) (k : Kind) → suffice_for 0 m ≡ true → whole s m ≡ Err k → ⊥
leaf_whole s model.nothing k h e = cc
leaf_whole s (model.a_capability i) k h e = cc
leaf_whole s (model.a_struct p d n) k h e = grind (arith, nat_tests)
leaf_whole s (model.a_list p size n) k h e = grind (arith, nat_tests)

leaf_is : (s : Segments) (pads : ℕ) (m : model.Object) (o : Object) → suffice_for 0 m ≡ true → whole s m ≡ Ok o → leaf_visits pads m ≡ Ok (pads + own_cost o) ∷ []
leaf_is s pads model.nothing o h e = let none : pads ≡ pads + 0 = omega arith in ap (λ (c : ℕ). Ok c ∷ []) none ∙ ap (λ (x : Object). Ok (pads + own_cost x) ∷ []) (ok_is _ _ e)
leaf_is s pads (model.a_capability i) o h e = let none : pads ≡ pads + 0 = omega arith in ap (λ (c : ℕ). Ok c ∷ []) none ∙ ap (λ (x : Object). Ok (pads + own_cost x) ∷ []) (ok_is _ _ e)
leaf_is s pads (model.a_struct p d n) o h e = absurd (grind (arith, nat_tests))
leaf_is s pads (model.a_list p size n) o h e = absurd (grind (arith, nat_tests))

list_within : (p : Place) (kind : ListKind) (size c : ℕ) (ws : List ℕ) (n : ℕ) (o : Object) → nat_lt 0 n ≡ true → whole_list p kind size c ws ≡ Ok o → levels_suffice n o ≡ true
list_within p of_bits size c ws n o h e = ap (levels_suffice n) (sym (ok_is _ _ e)) ∙ h
list_within p of_pointers size c ws n o h e = ap (levels_suffice n) (sym (ok_is _ _ e)) ∙ h
list_within p of_structs size c ws n o h e = let a = bind_ok (tag_in ws) _ o e in ap (levels_suffice n) (sym (ok_is _ _ a.2)) ∙ h

pub still_within : (s : Segments) (m : model.Object) (n : ℕ) (o : Object) → suffice_for n m ≡ true → whole s m ≡ Ok o → levels_suffice n o ≡ true
still_within s model.nothing n o h e = ap (levels_suffice n) (sym (ok_is _ _ e))
still_within s (model.a_capability i) n o h e = ap (levels_suffice n) (sym (ok_is _ _ e))
still_within s (model.a_struct p d k) n o h e = let a = bind_ok (ok_or (words_at s p (d + k)) OutOfBounds) _ o e in ap (levels_suffice n) (sym (ok_is _ _ a.2)) ∙ h
still_within s (model.a_list p size c) n o h e = let a = bind_ok (ok_or (words_at s p (list_words (list_kind size) size c)) OutOfBounds) _ o e in list_within p (list_kind size) size c a.0 n o h a.2

-- ---- at a place

module _ (s : Segments) (p : Place) where
  pub exact_object : (g : model.Found) (o : Object) → model.found_at s p ≡ Ok g → whole s g.object ≡ Ok o → object_at s p ≡ Ok (record { pads = g.pads; object = o })
  unfolding object_at
  exact_object g o e w = rw (e, w) refl

  pub object_found : (f : Found) → object_at s p ≡ Ok f → (g : model.Found) × (model.found_at s p ≡ Ok g) × (whole s g.object ≡ Ok f.object) × (g.pads ≡ f.pads)
  unfolding object_at
  object_found f e =
      let a = bind_ok (model.found_at s p) _ f e in
      let b = bind_ok (whole s a.0.object) _ f a.2 in
      let is = ok_is _ _ b.2 in
      (a.0, a.1, b.1 ∙ ap (λ (x : Found). Ok x.object) is, ap (λ (x : Found). x.pads) is)

  -- the object's own fault
  own_fault : (r : Result Object Kind) (pads : ℕ) (k : Kind) → ◌≡◌ {A = Result Found Kind} (r and_then λ o. Ok (record { pads = pads; object = o })) (Err k) → r ≡ Err k
  own_fault (Ok o) pads k h = absurd cc
  own_fault (Err j) pads k h = cc

  pub object_unfound : (n : ℕ) (k : Kind) → object_at s p ≡ Err k → visits (suc n) s p ≡ Err k ∷ []
  unfolding object_at visits
  object_unfound n k e = refused_step (model.found_at s p) _ _ k e (λ g is h. whole_refused s (visits n s) g.pads g.object k (own_fault (whole s g.object) g.pads k h))

  -- the object, where its levels suffice
  abbrev then_whole : Bool → model.Found → Result Found Kind
  then_whole b g = guard b NestingLimitExceeded and_then λ _. whole s g.object and_then λ o. Ok (record { pads = g.pads; object = o })

  -- what `object_within` refuses is where the walk ends
  pub within_unfound : (n : ℕ) (k : Kind) → object_within n s p ≡ Err k → visits n s p ≡ Err k ∷ []
  unfolding object_within visits
  within_unfound zero k e = refused_step (model.found_at s p) _ _ k e (λ g is h. by g (suffice_for 0 g.object) refl h)
    where
      by : (g : model.Found) (b : Bool) → suffice_for 0 g.object ≡ b → then_whole b g ≡ Err k → leaf_visits g.pads g.object ≡ Err k ∷ []
      by g true f h = absurd (leaf_whole s g.object k f (own_fault (whole s g.object) g.pads k h))
      by g false f h = let is : NestingLimitExceeded ≡ k = cc in no_level g.pads g.object f ∙ ap (λ (x : Kind). Err x ∷ []) is
  within_unfound (suc n) k e = refused_step (model.found_at s p) _ _ k e (λ g is h. by g (suffice_for (suc n) g.object) refl h)
    where
      by : (g : model.Found) (b : Bool) → suffice_for (suc n) g.object ≡ b → then_whole b g ≡ Err k → object_visits s (visits n s) g.pads g.object ≡ Err k ∷ []
      by g true f h = whole_refused s (visits n s) g.pads g.object k (own_fault (whole s g.object) g.pads k h)
      by g false f h = absurd (some_level n g.object f)

  pub within_missing : (n : ℕ) (k : Kind) → model.found_at s p ≡ Err k → object_within n s p ≡ Err k
  unfolding object_within
  within_missing n k e = rw e refl

  pub within_found : (n : ℕ) (f : Found) → object_within n s p ≡ Ok f → (g : model.Found) × (model.found_at s p ≡ Ok g) × (suffice_for n g.object ≡ true) × (whole s g.object ≡ Ok f.object) × (g.pads ≡ f.pads)
  unfolding object_within
  within_found n f e =
      let a = bind_ok (model.found_at s p) _ f e in
      let l = guard_ok (suffice_for n a.0.object) NestingLimitExceeded _ f a.2 in
      let b = bind_ok (whole s a.0.object) _ f l.1 in
      let is = ok_is _ _ b.2 in
      (a.0, a.1, l.0, b.1 ∙ ap (λ (x : Found). Ok x.object) is, ap (λ (x : Found). x.pads) is)

  module _ (g : model.Found) (e : model.found_at s p ≡ Ok g) where
    pub level_refused : (n : ℕ) → suffice_for n g.object ≡ false → object_within n s p ≡ Err NestingLimitExceeded
    unfolding object_within
    level_refused n h = rw (e, h) refl

    pub whole_is_refused : (n : ℕ) (k : Kind) → suffice_for n g.object ≡ true → whole s g.object ≡ Err k → object_within n s p ≡ Err k
    unfolding object_within
    whole_is_refused n k h w = rw (e, h, w) refl

    module _ (o : Object) (w : whole s g.object ≡ Ok o) where
      pub exact_within : (n : ℕ) → suffice_for n g.object ≡ true → object_within n s p ≡ Ok (record { pads = g.pads; object = o })
      unfolding object_within
      exact_within n h = rw (e, h, w) refl

      plain_size_is : (m : model.Object) → g.object ≡ m → whole s m ≡ Ok o → IsSized m
      unfolding tree_at
      plain_size_is model.nothing f h = tt
      plain_size_is (model.a_capability i) f h = tt
      plain_size_is (model.a_struct q d k) f h = tt
      plain_size_is (model.a_list q size n) f h =
          let a = bind_ok (ok_or (words_at s q (list_words (list_kind size) size n)) OutOfBounds) _ o h in
          let there : words_at s q (list_words (list_kind size) size n) ≡ Some a.0 = ok_or_some _ _ _ a.1 in
          by a.0 (list_kind size) (rw e (ap (tree_of s (tree_at 0 s)) f ∙ ap (λ (x : Option (List ℕ)). x >>= λ ws. list_tree (tree_at 0 s) q (list_kind size) size n ws) there))
        where
          by : (ws : List ℕ) (kind : ListKind) → tree_at 1 s p ≡ list_tree (tree_at 0 s) q kind size n ws → IsPlain kind size
          by ws of_bits is = (tree_at_fits 1 s p (plain_list size n (section_of ws % 2 ^ (size_bits size * n))) is).0
          by ws of_pointers is = tt
          by ws of_structs is = tt

      sized : IsSized g.object
      sized = plain_size_is g.object refl w

      pub link_tree : (n : ℕ) → tree_at (suc n) s p ≡ tree_in s (tree_at n s) o
      unfolding tree_at
      link_tree n = rw e (tree_whole s (tree_at n s) g.object o sized w)

      pub link_cost : (n : ℕ) → cost_at (suc n) s p ≡ g.pads + (own_cost o + cost_in (cost_at n s) o)
      unfolding cost_at
      link_cost n = rw e (ap (λ (c : ℕ). g.pads + c) (cost_whole s (cost_at n s) g.object o sized w))

      pub link_visits : (n : ℕ) → visits (suc n) s p ≡ Ok (g.pads + own_cost o) ∷ met_in (visits n s) o
      unfolding visits
      link_visits n = rw e (visits_whole s (visits n s) g.pads g.object o sized w)

      pub leaf_visited : suffice_for 0 g.object ≡ true → visits 0 s p ≡ Ok (g.pads + own_cost o) ∷ []
      unfolding visits
      leaf_visited h = rw e (leaf_is s g.pads g.object o h w)

      pub first_visit : (n : ℕ) → suffice_for n g.object ≡ true → (rest : List Visit) × (visits n s p ≡ Ok (g.pads + own_cost o) ∷ rest)
      first_visit zero h = ([], leaf_visited h)
      first_visit (suc n) h = (met_in (visits n s) o, link_visits n)
