-- What a canonical copy meets at a pointer.
use Rattle.std.proofs.Common.{◌≡◌, ℕ, zero, suc, ◌+◌, ◌*◌, ◌%◌, ◌^◌, nat_lt, true, List, [], ◌∷◌, Option, Some, None, Result, Ok, Err, refl, ap, sym, ◌∙◌, subst, arith}
use Rattle.std.specs.Option.{ok_or}
use Rattle.std.proofs.lemmas.Bool.Decides.{nat_tests}
use Rattle.capnp_model.specs.Kinds.{Kind, OutOfBounds, NestingLimitExceeded, CapabilityInCanonical}
use Rattle.capnp_model.specs.Chains.{◌>>=◌}
use Rattle.capnp_model.specs.Sections.{section_of}
use Rattle.capnp_model.specs.Segments.{Segments, Place, words_at}
use Rattle.capnp_model.specs.Pointers as model
use Rattle.capnp_model.specs.Trees.{plain_list, size_bits}
use Rattle.capnp_model.specs.Traversal.{tag_in, ListKind, of_bits, of_pointers, of_structs, list_kind, list_words, list_tree, tree_of, tree_at}
use Rattle.capnp_model.specs.Visits.{Visit, object_visits, leaf_visits}
use Rattle.capnp_model.proofs.lemmas.Chaining.{bind_ok, ok_is, ok_or_some}
use Rattle.capnp_model.proofs.lemmas.ReadFits.{tree_at_fits}
use Rattle.capnp_units.specs.declared.errors.Error.{Error}
use Rattle.capnp_units.specs.declared.limiter.ReadLimiter.{ReadLimiter}
use Rattle.capnp_units.specs.Limits.{Follows}
use Rattle.capnp_units.specs.Errors.{kind_of}
use Rattle.capnp_units.proofs.lemmas.Spending.{spends_nothing}
use Rattle.capnp_wire_objects.specs.declared.object.Object.{Object}
use Rattle.capnp_wire_objects.specs.Objects.{whole_list, whole}
use Rattle.capnp_wire_objects.specs.Follow.{own_cost, KeepsBudget, levels_suffice}
use Rattle.capnp_wire_objects.specs.Inside.{met_in}
use Rattle.capnp_wire_objects.proofs.lemmas.Linking.{IsPlain, IsSized, visits_whole}
use Rattle.capnp_wire_objects.proofs.lemmas.Walks.{stopped_first}
use Rattle.capnp_wire_objects.proofs.lemmas.Paying.{spends_later}
use Rattle.capnp_wire_objects.proofs.lemmas.Walking.{refused_step, list_refused}
use Rattle.capnp_wire_canonical.specs.Copies.{unless_capability, copy_visits, object_fault, IsNoCapability, FollowsData}

-- ---- a step that is refused

whole_refused : (s : Segments) (v : Place → List Visit) (pads n : ℕ) (m : model.Object) (k : Kind) → object_fault n m ≡ None → whole s m ≡ Err k → unless_capability m (object_visits s v pads m) ≡ Err k ∷ []
whole_refused s v pads n model.nothing k h e = absurd cc
whole_refused s v pads n (model.a_capability i) k h e = absurd cc
whole_refused s v pads n (model.a_struct p d j) k h e = refused_step (ok_or (words_at s p (d + j)) OutOfBounds) _ _ k e (λ ws is g. absurd cc)
whole_refused s v pads n (model.a_list p size c) k h e = refused_step (ok_or (words_at s p (list_words (list_kind size) size c)) OutOfBounds) _ _ k e (λ ws is g. list_refused v pads p (list_kind size) size c ws k g)

leaf_whole : (s : Segments) (m : model.Object) (k : Kind) → object_fault 0 m ≡ None → whole s m ≡ Err k → ⊥
leaf_whole s model.nothing k h e = cc
leaf_whole s (model.a_capability i) k h e = cc
leaf_whole s (model.a_struct p d n) k h e = cc
leaf_whole s (model.a_list p size n) k h e = cc

leaf_fault : (pads : ℕ) (m : model.Object) (k : Kind) → object_fault 0 m ≡ Some k → unless_capability m (leaf_visits pads m) ≡ Err k ∷ []
leaf_fault pads model.nothing k h = absurd cc
leaf_fault pads (model.a_capability i) k h = let is : CapabilityInCanonical ≡ k = cc in ap (λ (x : Kind). Err x ∷ []) is
leaf_fault pads (model.a_struct p d n) k h = let is : NestingLimitExceeded ≡ k = cc in ap (λ (x : Kind). Err x ∷ []) is
leaf_fault pads (model.a_list p size n) k h = let is : NestingLimitExceeded ≡ k = cc in ap (λ (x : Kind). Err x ∷ []) is

deep_fault : (s : Segments) (v : Place → List Visit) (n pads : ℕ) (m : model.Object) (k : Kind) → object_fault (suc n) m ≡ Some k → unless_capability m (object_visits s v pads m) ≡ Err k ∷ []
deep_fault s v n pads model.nothing k h = absurd cc
deep_fault s v n pads (model.a_capability i) k h = let is : CapabilityInCanonical ≡ k = cc in ap (λ (x : Kind). Err x ∷ []) is
deep_fault s v n pads (model.a_struct p d j) k h = absurd cc
deep_fault s v n pads (model.a_list p size c) k h = absurd cc

leaf_first : (s : Segments) (pads : ℕ) (m : model.Object) (o : Object) → object_fault 0 m ≡ None → whole s m ≡ Ok o → unless_capability m (leaf_visits pads m) ≡ Ok (pads + own_cost o) ∷ []
leaf_first s pads model.nothing o h e = let none : pads ≡ pads + 0 = omega arith in ap (λ (c : ℕ). Ok c ∷ []) none ∙ ap (λ (x : Object). Ok (pads + own_cost x) ∷ []) (ok_is _ _ e)
leaf_first s pads (model.a_capability i) o h e = absurd cc
leaf_first s pads (model.a_struct p d n) o h e = absurd cc
leaf_first s pads (model.a_list p size n) o h e = absurd cc

no_capability : (m : model.Object) (n : ℕ) (path : List Visit) → object_fault n m ≡ None → unless_capability m path ≡ path
no_capability model.nothing n path h = refl
no_capability (model.a_capability i) n path h = absurd cc
no_capability (model.a_struct p d k) n path h = refl
no_capability (model.a_list p size c) n path h = refl

-- ---- at a place

module _ (s : Segments) (p : Place) where
  pub copy_missing : (n : ℕ) (k : Kind) → model.found_at s p ≡ Err k → copy_visits n s p ≡ Err k ∷ []
  unfolding copy_visits
  copy_missing zero k e = rw e refl
  copy_missing (suc n) k e = rw e refl

  module _ (g : model.Found) (e : model.found_at s p ≡ Ok g) where
    pub copy_fault : (n : ℕ) (k : Kind) → object_fault n g.object ≡ Some k → copy_visits n s p ≡ Err k ∷ []
    unfolding copy_visits
    copy_fault zero k h = rw e (leaf_fault g.pads g.object k h)
    copy_fault (suc n) k h = rw e (deep_fault s (copy_visits n s) n g.pads g.object k h)

    pub copy_broken : (n : ℕ) (k : Kind) → object_fault n g.object ≡ None → whole s g.object ≡ Err k → copy_visits n s p ≡ Err k ∷ []
    unfolding copy_visits
    copy_broken zero k h w = absurd (leaf_whole s g.object k h w)
    copy_broken (suc n) k h w = rw e (whole_refused s (copy_visits n s) g.pads (suc n) g.object k h w)

    module _ (o : Object) (w : whole s g.object ≡ Ok o) where
      plain_size_is : (m : model.Object) → g.object ≡ m → whole s m ≡ Ok o → IsSized m
      unfolding tree_at
      plain_size_is model.nothing f h = tt
      plain_size_is (model.a_capability i) f h = tt
      plain_size_is (model.a_struct q d k) f h = tt
      plain_size_is (model.a_list q size n) f h =
          let a = bind_ok (ok_or (words_at s q (list_words (list_kind size) size n)) OutOfBounds) _ o h in
          let there : words_at s q (list_words (list_kind size) size n) ≡ Some a.0 = ok_or_some _ _ _ a.1 in
          by a.0 (list_kind size) (rw e (ap (tree_of s (tree_at 0 s)) f ∙ ap (λ (x : Option (List ℕ)). x >>= λ ws. list_tree (tree_at 0 s) q (list_kind size) size n ws) there))
        where
          by : (ws : List ℕ) (kind : ListKind) → tree_at 1 s p ≡ list_tree (tree_at 0 s) q kind size n ws → IsPlain kind size
          by ws of_bits is = (tree_at_fits 1 s p (plain_list size n (section_of ws % 2 ^ (size_bits size * n))) is).0
          by ws of_pointers is = tt
          by ws of_structs is = tt

      pub copy_link : (n : ℕ) → object_fault (suc n) g.object ≡ None → copy_visits (suc n) s p ≡ Ok (g.pads + own_cost o) ∷ met_in (copy_visits n s) o
      unfolding copy_visits
      copy_link n h = rw e (no_capability g.object (suc n) (object_visits s (copy_visits n s) g.pads g.object) h ∙ visits_whole s (copy_visits n s) g.pads g.object o (plain_size_is g.object refl w) w)

      pub copy_leaf : object_fault 0 g.object ≡ None → copy_visits 0 s p ≡ Ok (g.pads + own_cost o) ∷ []
      unfolding copy_visits
      copy_leaf h = rw e (leaf_first s g.pads g.object o h w)

      pub copy_first : (n : ℕ) → object_fault n g.object ≡ None → (rest : List Visit) × (copy_visits n s p ≡ Ok (g.pads + own_cost o) ∷ rest)
      copy_first zero h = ([], copy_leaf h)
      copy_first (suc n) h = (met_in (copy_visits n s) o, copy_link n h)

-- ---- refusals

pub stops_at_fault : (n : ℕ) (s : Segments) (p : Place) (old new : ReadLimiter) (r : Result Object Error) (x e : Error) → r ≡ Err x → x ≡ e → KeepsBudget old new → Follows old new 1 → copy_visits n s p ≡ Err (kind_of e.kind) ∷ [] → FollowsData n s p old r new
stops_at_fault n s p old new r x e a b kept follow is =
    subst (λ (y : Result Object Error). FollowsData n s p old y new) (sym (a ∙ ap (λ (y : Error). Err y) b))
    (stopped_first (copy_visits n s p) [] (Err (kind_of e.kind)) old new e is (spends_later old new new 0 kept (spends_nothing new)) follow refl)

-- ---- what is followed

-- An object that so many levels suffice for, and that is no capability.
abbrev IsFollowed : ℕ → Object → Type 0
IsFollowed n o = (levels_suffice n o ≡ true) × IsNoCapability o

some_level : (n : ℕ) → nat_lt 0 (suc n) ≡ true
some_level n = grind (arith, nat_tests)

list_followed : (p : Place) (kind : ListKind) (size c : ℕ) (ws : List ℕ) (n : ℕ) (o : Object) → whole_list p kind size c ws ≡ Ok o → IsFollowed (suc n) o
list_followed p of_bits size c ws n o e = subst (IsFollowed (suc n)) (ok_is _ _ e) (some_level n, tt)
list_followed p of_pointers size c ws n o e = subst (IsFollowed (suc n)) (ok_is _ _ e) (some_level n, tt)
list_followed p of_structs size c ws n o e = let a = bind_ok (tag_in ws) _ o e in subst (IsFollowed (suc n)) (ok_is _ _ a.2) (some_level n, tt)

pub followed : (s : Segments) (m : model.Object) (n : ℕ) (o : Object) → object_fault n m ≡ None → whole s m ≡ Ok o → (levels_suffice n o ≡ true) × IsNoCapability o
followed s model.nothing n o h e = subst (IsFollowed n) (ok_is _ _ e) (refl, tt)
followed s (model.a_capability i) n o h e = absurd cc
followed s (model.a_struct p d k) zero o h e = absurd cc
followed s (model.a_struct p d k) (suc n) o h e = let a = bind_ok (ok_or (words_at s p (d + k)) OutOfBounds) _ o e in subst (IsFollowed (suc n)) (ok_is _ _ a.2) (some_level n, tt)
followed s (model.a_list p size c) zero o h e = absurd cc
followed s (model.a_list p size c) (suc n) o h e = let a = bind_ok (ok_or (words_at s p (list_words (list_kind size) size c)) OutOfBounds) _ o e in list_followed p (list_kind size) size c a.0 n o a.2
