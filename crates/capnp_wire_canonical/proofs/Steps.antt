-- What is written at a pointer.
use Rattle.std.proofs.Common.{◌≡◌, ℕ, zero, suc, ◌+◌, ◌*◌, ◌/◌, ◌^◌, ◌<◌, ◌≤◌, nat_lt, nat_le, eqb, if◌then◌else◌, Bool, true, false, List, [], ◌∷◌, length, take, set, Option, Some, None, Result, Ok, refl, ap, sym, ◌∙◌, subst, arith}
use Rattle.std.specs.Option.{ok_or}
use Rattle.std.proofs.Math.Seq.{take-set-lt}
use Rattle.std.proofs.Math.Nat.{mod-lt}
use Rattle.std.proofs.lemmas.Nat.{pow_pos}
use Rattle.std.proofs.lemmas.Bool.Decides.{nat_tests}
use Rattle.capnp_model.specs.Kinds.{OutOfBounds}
use Rattle.capnp_model.specs.Sections.{bits_at}
use Rattle.capnp_model.specs.Segments.{Segments, Place, words_at}
use Rattle.capnp_model.specs.Pointers as model
use Rattle.capnp_model.specs.Trees.{Tree, null, has_capability}
use Rattle.capnp_model.specs.Traversal.{tree_at, Tag, tag_of, tag_in, ListKind, of_bits, of_pointers, of_structs, list_kind, list_words}
use Rattle.capnp_model.specs.Trimming.{trim}
use Rattle.capnp_model.specs.Visits.{Visit, visits_cost}
use Rattle.capnp_model.proofs.lemmas.Chaining.{bind_ok, ok_is, guard_ok}
use Rattle.capnp_model.proofs.lemmas.ReadFits.{tree_at_fits}
use Rattle.capnp_units.specs.declared.errors.Error.{Error}
use Rattle.capnp_units.specs.declared.limiter.ReadLimiter.{ReadLimiter}
use Rattle.capnp_wire_objects.specs.declared.object.Object.{Object}
use Rattle.capnp_wire_objects.specs.declared.object.Object.TheVariants as object
use Rattle.capnp_wire_objects.specs.Objects.{whole_list, whole}
use Rattle.capnp_wire_objects.specs.Near.{IsNear}
use Rattle.capnp_wire_objects.specs.Follow.{own_cost, Pays, levels_suffice}
use Rattle.capnp_wire_objects.specs.Inside.{tree_in, met_in}
use Rattle.capnp_wire_objects.proofs.lemmas.Walking.{object_found, link_tree}
use Rattle.capnp_wire_objects.proofs.lemmas.Walks.{walked_none, walked_one}
use Rattle.capnp_wire_canonical.specs.Reaches.{reach}
use Rattle.capnp_wire_canonical.specs.Writes.{words_view, filled, with_link}
use Rattle.capnp_wire_canonical.specs.Copies.{copy_visits, object_fault, IsNoCapability, Behind, WritesCopy, copy_state}
use Rattle.capnp_wire_canonical.specs.Objects.{IsShort, WritesObject, HasPlace, write_spot, value_copy}
use Rattle.capnp_wire_canonical.proofs.Copying.{behind_more, paid_then, over_used}
use Rattle.capnp_wire_canonical.proofs.Following.{copy_link, copy_leaf}
use Rattle.capnp_wire_canonical.proofs.Objects.{null_written}

-- ---- what was followed

pub list_followed : (p : Place) (kind : ListKind) (size c : ℕ) (ws : List ℕ) (o : Object) → whole_list p kind size c ws ≡ Ok o → levels_suffice 0 o ≡ nat_lt 0 0
list_followed p of_bits size c ws o e = ap (levels_suffice 0) (sym (ok_is _ _ e))
list_followed p of_pointers size c ws o e = ap (levels_suffice 0) (sym (ok_is _ _ e))
list_followed p of_structs size c ws o e = let a = bind_ok (tag_in ws) _ o e in ap (levels_suffice 0) (sym (ok_is _ _ a.2))

pub no_levels : (b : Bool) → b ≡ true → b ≡ nat_lt 0 0 → ⊥
no_levels b h e = let t : nat_lt 0 0 ≡ true = sym e ∙ h in grind (arith, nat_tests)

pub no_fault : (s : Segments) (m : model.Object) (n : ℕ) (o : Object) → whole s m ≡ Ok o → levels_suffice n o ≡ true → IsNoCapability o → object_fault n m ≡ None
no_fault s model.nothing n o e h d = refl
no_fault s (model.a_capability i) n o e h d = absurd (subst IsNoCapability (sym (ok_is _ _ e)) d)
no_fault s (model.a_struct p w k) (suc n) o e h d = refl
no_fault s (model.a_struct p w k) zero o e h d = let a = bind_ok (ok_or (words_at s p (w + k)) OutOfBounds) _ o e in absurd (no_levels _ h (ap (levels_suffice 0) (sym (ok_is _ _ a.2))))
no_fault s (model.a_list p size c) (suc n) o e h d = refl
no_fault s (model.a_list p size c) zero o e h d = let a = bind_ok (ok_or (words_at s p (list_words (list_kind size) size c)) OutOfBounds) _ o e in absurd (no_levels _ h (list_followed p (list_kind size) size c a.0 o a.2))

-- an object that takes no level is null
leaf_tree : (s : Segments) (p : Place) (g : model.Found) (m : model.Object) → model.found_at s p ≡ Ok g → g.object ≡ m → object_fault 0 m ≡ None → tree_at 0 s p ≡ Some null
unfolding tree_at
leaf_tree s p g model.nothing e f h = rw (e, f) refl
leaf_tree s p g (model.a_capability i) e f h = absurd cc
leaf_tree s p g (model.a_struct q d k) e f h = absurd cc
leaf_tree s p g (model.a_list q size n) e f h = absurd cc

-- ---- null

pub null_put : (at most used : ℕ) (old new : List (List ℕ)) (l : ReadLimiter) → HasPlace (at + 1) used old → used ≤ most → words_view new ≡ set (words_view old) at 0 → Behind (at + 1) old new
    → WritesCopy (record { there = Some null; bad = has_capability; put = λ t. with_link at (trim t); path = []; used = used; most = most }) (copy_state old l) (Ok used) (copy_state new l)
unfolding has_capability
null_put at most used old new l place h words behind =
    let room = place.1 in
    let same = behind.0 in
    let inside = place.0 in
    record {
      what = null;
      there_is = refl;
      clean = refl;
      words = ap (take used) words ∙ take-set-lt used (words_view old) at 0 (omega arith) ∙ null_written at (filled used old);
      behind = behind_more (at + 1) used old new inside behind;
      bound = omega arith;
      near = place.2;
      more = omega arith;
      cost = 0;
      cost_is = refl;
      walked = walked_none l;
      few = omega arith;
    }

-- ---- at a place

module _ (n : ℕ) (s : Segments) (p : Place) (at used : ℕ) (o : Object) (old new : List (List ℕ)) (l k m : ReadLimiter) where
  one_cost : (c : ℕ) → visits_cost (Ok c ∷ []) ≡ Some c
  one_cost c = let z : c + 0 ≡ c = omega arith in ap Some z

  pub leaf_at : n ≡ 0 → Pays s p l o k → levels_suffice n o ≡ true → IsNoCapability o → HasPlace (at + 1) used old → words_view new ≡ set (words_view old) at 0 → Behind (at + 1) old new
      → WritesCopy (value_copy (reach n s) p (write_spot at used)) (copy_state old l) (Ok used) (copy_state new k)
  leaf_at z pay within is place words behind =
      let found = object_found s p (record { pads = pay.pads; object = o }) pay.is in
      let none = no_fault s found.0.object n o found.2 within is in
      let fault : object_fault 0 found.0.object ≡ None = subst (λ (j : ℕ). object_fault j found.0.object ≡ None) z none in
      let cost : ℕ = pay.pads + own_cost o in
      let tree = leaf_tree s p found.0 found.0.object found.1 refl fault in
      let path : copy_visits 0 s p ≡ Ok cost ∷ [] = copy_leaf s p found.0 found.1 o found.2 fault ∙ ap (λ (j : ℕ). Ok (j + own_cost o) ∷ []) found.3 in
      let here : WritesCopy (over_used (Some null) has_capability (λ t. with_link at (trim t)) (Ok cost ∷ []) used) (copy_state old l) (Ok used) (copy_state new k) =
      paid_then (Some null) has_capability (λ t. with_link at (trim t)) (Ok cost ∷ []) [] cost used used old new l k k (Ok used) (one_cost cost) (walked_one cost l k pay.spends pay.follows) (omega arith)
      (null_put at (used + cost) used old new k place (omega arith) words behind) in
      let one : WritesCopy (over_used (tree_at 0 s p) has_capability (λ t. with_link at (trim t)) (Ok cost ∷ []) used) (copy_state old l) (Ok used) (copy_state new k) =
      subst (λ (t : Option Tree). WritesCopy (over_used t has_capability (λ t. with_link at (trim t)) (Ok cost ∷ []) used) (copy_state old l) (Ok used) (copy_state new k)) (sym tree) here in
      let two : WritesCopy (value_copy (reach 0 s) p (write_spot at used)) (copy_state old l) (Ok used) (copy_state new k) =
      subst (λ (vs : List Visit). WritesCopy (over_used (tree_at 0 s p) has_capability (λ t. with_link at (trim t)) vs used) (copy_state old l) (Ok used) (copy_state new k)) (sym path) one in
      subst (λ (j : ℕ). WritesCopy (value_copy (reach j s) p (write_spot at used)) (copy_state old l) (Ok used) (copy_state new k)) (sym z) two

  pub deep_at : (i : ℕ) (r : Result ℕ Error) → n ≡ suc i → Pays s p l o k → levels_suffice n o ≡ true → IsNoCapability o → WritesObject (reach i s) o (write_spot at used) (copy_state old k) r (copy_state new m)
      → WritesCopy (value_copy (reach n s) p (write_spot at used)) (copy_state old l) r (copy_state new m)
  deep_at i r z pay within is h =
      let found = object_found s p (record { pads = pay.pads; object = o }) pay.is in
      let none = no_fault s found.0.object n o found.2 within is in
      let fault : object_fault (suc i) found.0.object ≡ None = subst (λ (j : ℕ). object_fault j found.0.object ≡ None) z none in
      let cost : ℕ = pay.pads + own_cost o in
      let tree = link_tree s p found.0 found.1 o found.2 i in
      let rest = met_in (copy_visits i s) o in
      let path : copy_visits (suc i) s p ≡ Ok cost ∷ rest = copy_link s p found.0 found.1 o found.2 i fault ∙ ap (λ (j : ℕ). Ok (j + own_cost o) ∷ rest) found.3 in
      let here : WritesCopy (over_used (tree_in s (tree_at i s) o) has_capability (λ t. with_link at (trim t)) (Ok cost ∷ rest) used) (copy_state old l) r (copy_state new m) =
      paid_then (tree_in s (tree_at i s) o) has_capability (λ t. with_link at (trim t)) (Ok cost ∷ []) rest cost used used old new l k m r (one_cost cost) (walked_one cost l k pay.spends pay.follows) (omega arith) (h (used + cost) (omega arith)) in
      let one : WritesCopy (over_used (tree_at (suc i) s p) has_capability (λ t. with_link at (trim t)) (Ok cost ∷ rest) used) (copy_state old l) r (copy_state new m) =
      subst (λ (t : Option Tree). WritesCopy (over_used t has_capability (λ t. with_link at (trim t)) (Ok cost ∷ rest) used) (copy_state old l) r (copy_state new m)) (sym tree) here in
      let two : WritesCopy (over_used (tree_at (suc i) s p) has_capability (λ t. with_link at (trim t)) (copy_visits (suc i) s p) used) (copy_state old l) r (copy_state new m) =
      subst (λ (vs : List Visit). WritesCopy (over_used (tree_at (suc i) s p) has_capability (λ t. with_link at (trim t)) vs used) (copy_state old l) r (copy_state new m)) (sym path) one in
      subst (λ (j : ℕ). WritesCopy (value_copy (reach j s) p (write_spot at used)) (copy_state old l) r (copy_state new m)) (sym z) two

-- A list of so many structs.
abbrev IsStructs : Object → ℕ → Type 0
IsStructs (object.StructList p words c d k) n = c ≡ n
IsStructs _ n = ⊥

-- a tag tells its count by thirty bits
kind_count : (k w : ℕ) (t : Tag) → tag_of (model.pointer_of_kind k w) ≡ Ok t → t.count < 2 ^ 30
kind_count zero w t e = subst (λ (x : Tag). x.count < 2 ^ 30) (ok_is _ _ e) (mod-lt (w / 2 ^ 2) (pow_pos 30))
kind_count (suc zero) w t e = absurd cc
kind_count (suc (suc zero)) w t e = absurd cc
kind_count (suc (suc (suc k))) w t e = absurd (by (eqb (bits_at 2 30 w) 0) e)
  where
    by : (b : Bool) → tag_of (if b then model.to_capability (bits_at 32 32 w) else model.to_nothing_known) ≡ Ok t → ⊥
    by true h = cc
    by false h = cc

tag_count : (ws : List ℕ) (t : Tag) → tag_in ws ≡ Ok t → t.count < 2 ^ 30
tag_count [] t e = absurd cc
tag_count (w ∷ ws) t e =
    let a = bind_ok (tag_of (model.pointer_of w)) _ t e in
    let b = guard_ok (nat_le (a.0.count * (a.0.data_words + a.0.pointers)) (length ws)) OutOfBounds _ t a.2 in
    subst (λ (x : Tag). x.count < 2 ^ 30) (ok_is _ _ b.1) (kind_count (bits_at 0 2 w) w a.0 a.1)

-- a list is no longer than a pointer can tell
list_short : (p : Place) (kind : ListKind) (size c : ℕ) (ws : List ℕ) (o : Object) (n : ℕ) → whole_list p kind size c ws ≡ Ok o → IsStructs o n → n < 2 ^ 30
list_short p of_bits size c ws o n e h = absurd (subst (λ (x : Object). IsStructs x n) (sym (ok_is _ _ e)) h)
list_short p of_pointers size c ws o n e h = absurd (subst (λ (x : Object). IsStructs x n) (sym (ok_is _ _ e)) h)
list_short p of_structs size c ws o n e h =
    let a = bind_ok (tag_in ws) _ o e in
    let is = subst (λ (x : Object). IsStructs x n) (sym (ok_is _ _ a.2)) h in
    subst (λ (j : ℕ). j < 2 ^ 30) is (tag_count ws a.0 a.1)

whole_short : (s : Segments) (m : model.Object) (o : Object) (n : ℕ) → whole s m ≡ Ok o → IsStructs o n → n < 2 ^ 30
whole_short s model.nothing o n e h = absurd (subst (λ (x : Object). IsStructs x n) (sym (ok_is _ _ e)) h)
whole_short s (model.a_capability i) o n e h = absurd (subst (λ (x : Object). IsStructs x n) (sym (ok_is _ _ e)) h)
whole_short s (model.a_struct p w k) o n e h = let a = bind_ok (ok_or (words_at s p (w + k)) OutOfBounds) _ o e in absurd (subst (λ (x : Object). IsStructs x n) (sym (ok_is _ _ a.2)) h)
whole_short s (model.a_list p size c) o n e h = let a = bind_ok (ok_or (words_at s p (list_words (list_kind size) size c)) OutOfBounds) _ o e in list_short p (list_kind size) size c a.0 o n a.2 h

short_of : (s : Segments) (p : Place) (m : model.Object) (o : Object) → tree_at 1 s p ≡ tree_in s (tree_at 0 s) o → whole s m ≡ Ok o → IsShort o
short_of s p m object.Null e w = tt
short_of s p m (object.Capability i) e w = tt
short_of s p m (object.Struct q d k) e w = tt
short_of s p m (object.List q size n) e w = (tree_at_fits 1 s p _ e).1
short_of s p m (object.PointerList q n) e w = tt
short_of s p m (object.StructList q words n d k) e w = whole_short s m (object.StructList q words n d k) n w refl

pub short_at : (s : Segments) (p : Place) (o : Object) (l k : ReadLimiter) → Pays s p l o k → IsShort o
short_at s p o l k pay =
    let found = object_found s p (record { pads = pay.pads; object = o }) pay.is in
    short_of s p found.0.object o (link_tree s p found.0 found.1 o found.2 0) found.2

pub near_short : (s : Segments) (p : Place) (o : Object) → IsNear s p o → IsShort o
near_short s p o near =
    let found = object_found s p (record { pads = 0; object = o }) near.0 in
    short_of s p found.0.object o (link_tree s p found.0 found.1 o found.2 0) found.2
