-- Following an object that is told in one look.
use Rattle.std.proofs.Common.{◌≡◌, ℕ, ◌+◌, ◌*◌, ◌<◌, nat_lt, true, List, ◌∷◌, Option, Some, None, Result, Ok, Err, refl, ap, sym, ◌∙◌, subst, inr, arith}
use Rattle.std.proofs.lemmas.Bool.Decides.{nat_tests}
use Rattle.capnp_model.specs.Segments.{Segments, Place, word_at}
use Rattle.capnp_model.specs.Pointers as model
use Rattle.capnp_model.specs.Sections.{words_for}
use Rattle.capnp_model.specs.Visits.{Visit}
use Rattle.capnp_units.specs.declared.errors.Error.{Error}
use Rattle.capnp_units.specs.declared.kinds.ErrorKind.TheVariants.{ReadLimitExceeded}
use Rattle.capnp_units.specs.declared.limiter.ReadLimiter.{ReadLimiter}
use Rattle.capnp_units.specs.declared.sizes.ElementSize.{ElementSize}
use Rattle.capnp_units.specs.declared.sizes.ElementSize.TheVariants.{Byte}
use Rattle.capnp_units.specs.Sizes.{size_number, data_bits}
use Rattle.capnp_units.specs.Limits.{left_of, followed_of, IsPassed, Spends, Follows}
use Rattle.capnp_units.proofs.lemmas.Spending.{spends_nothing}
use Rattle.capnp_wire_objects.specs.declared.lists.NearList.{NearList}
use Rattle.capnp_wire_objects.specs.declared.object.Object.{Object}
use Rattle.capnp_wire_objects.specs.declared.object.Object.TheVariants as object
use Rattle.capnp_wire_objects.specs.Near.{list_object, IsMeasured, IsNear}
use Rattle.capnp_wire_objects.specs.Follow.{own_cost, KeepsBudget, Pays, suffice_for, object_within, FollowsWithin, levels_suffice}
use Rattle.capnp_wire_objects.proofs.lemmas.Walks.{stopped_first}
use Rattle.capnp_wire_objects.proofs.lemmas.Walking.{object_found, exact_object, exact_within}
use Rattle.capnp_wire_objects.proofs.lemmas.Paying.{same_left, spends_later, pays_later}
use Rattle.capnp_wire_canonical.specs.Copies.{copy_visits, IsNoCapability, FollowsData, FollowsNear}
use Rattle.capnp_wire_canonical.proofs.Following.{copy_first}
use Rattle.capnp_wire_canonical.proofs.Steps.{no_fault}

pub some_level : (n : ℕ) → 0 < n → nat_lt 0 n ≡ true
some_level n h = grind (arith, nat_tests)

pub some_left : (n : ℕ) → nat_lt 0 n ≡ true → 0 < n
some_left n h = grind (arith, nat_tests)

suffices : (n : ℕ) (m : model.Object) → 0 < n → suffice_for n m ≡ true
suffices n model.nothing h = refl
suffices n (model.a_capability i) h = refl
suffices n (model.a_struct p d k) h = some_level n h
suffices n (model.a_list p size c) h = some_level n h

module _ (n : ℕ) (s : Segments) (p : Place) (o : Object) (some : 0 < n) (within : levels_suffice n o ≡ true) (clean : IsNoCapability o) (near : IsNear s p o) where
  near_within : object_within n s p ≡ Ok (record { pads = 0; object = o })
  near_within =
      let g = object_found s p (record { pads = 0; object = o }) near.0 in
      exact_within s p g.0 g.1 o g.2 n (suffices n g.0.object some) ∙ ap (λ (k : ℕ). Ok (record { pads = k; object = o })) g.3

  near_visits : (rest : List Visit) × (copy_visits n s p ≡ Ok (0 + own_cost o) ∷ rest)
  near_visits =
      let g = object_found s p (record { pads = 0; object = o }) near.0 in
      let first = copy_first s p g.0 g.1 o g.2 n (no_fault s g.0.object n o g.2 within clean) in
      (first.0, first.1 ∙ ap (λ (k : ℕ). Ok (k + own_cost o) ∷ first.0) g.3)

  module _ (old mid : ReadLimiter) (kept : KeepsBudget old mid) (follow : Follows old mid 1) (words : ℕ) (is : words ≡ own_cost o) where
    pub near_pays : (new : ReadLimiter) → followed_of new ≡ followed_of mid → Spends mid new words → Pays s p old o new
    near_pays new same spend = pays_later s p old mid new 0 words o kept follow same spend (omega arith) near.0 near.1

    module _ (e : Error) (kind : e.kind ≡ ReadLimitExceeded) (dear : IsPassed (left_of mid) words) where
      passed : (more : ℕ) → more ≡ own_cost o → IsPassed (left_of old) more
      passed more same = subst (λ (n : ℕ). IsPassed (left_of old) n) (is ∙ sym same) (rw (← same_left old mid kept) dear)

      pub near_refused : FollowsWithin n s p old (Err e) mid
      near_refused = (kept, follow, inr (kind, record { pads = 0; object = o }, near_within, passed (0 + own_cost o) (omega arith)))

      pub near_stopped : FollowsData n s p old (Err e) mid
      near_stopped = stopped_first (copy_visits n s p) near_visits.0 (Ok (0 + own_cost o)) old mid e near_visits.1 (spends_later old mid mid 0 kept (spends_nothing mid)) follow (kind, passed (0 + (0 + own_cost o)) (omega arith))

pub refused_near : {X : Type 0} (object : X → Object) (follows : ReadLimiter → Result Object Error → ReadLimiter → Type 0) (old mid new : ReadLimiter) (r : Result (Option X) Error) (x e : Error) → r ≡ Err x → x ≡ e → new ≡ mid → follows old (Err e) mid → FollowsNear object follows old r new
refused_near {X = X} object follows old mid new r x e is same left h =
    subst (λ (l : ReadLimiter). FollowsNear object follows old r l) (sym left) (subst (λ (y : Result (Option X) Error). FollowsNear object follows old y mid) (sym (is ∙ ap (λ (y : Error). Err y) same)) h)

pub untold : {X : Type 0} (object : X → Object) (follows : ReadLimiter → Result Object Error → ReadLimiter → Type 0) (old new : ReadLimiter) (there : Option X) → ((x : X) → there ≡ Some x → ⊥) → FollowsNear object follows old (Ok there) new → new ≡ old
untold object follows old new None h f = f
untold object follows old new (Some x) h f = absurd (h x refl)

-- nothing was told
pub none_is : {X : Type 0} (o : Option X) → ((x : X) → o ≡ Some x → ⊥) → o ≡ None
none_is None h = refl
none_is (Some x) h = absurd (h x refl)

-- an object that is told in one look, once it is paid for
pub near_paid : (s : Segments) (p : Place) (o : Object) → IsNear s p o → (old new : ReadLimiter) (words : ℕ) → words ≡ own_cost o → Spends old new words → Follows old new 1 → Pays s p old o new
near_paid s p o near old new words is spends follows = record { pads = 0; is = near.0; inside = near.1; spends = subst (λ (n : ℕ). Spends old new n) (is ∙ (let none_before : own_cost o ≡ 0 + own_cost o = omega arith in none_before)) spends; follows = follows }

-- a word of zeros is null, and costs nothing
pub null_near : (s : Segments) (p : Place) → word_at s p ≡ Some 0 → IsNear s p object.Null
null_near s p e = (exact_object s p (record { pads = 0; object = model.nothing }) object.Null found refl, tt)
  where
    found : model.found_at s p ≡ Ok (record { pads = 0; object = model.nothing })
    found = rw e refl

pub null_paid : (s : Segments) (p : Place) → word_at s p ≡ Some 0 → (old new : ReadLimiter) → KeepsBudget old new → Follows old new 1 → Pays s p old object.Null new
null_paid s p e old new kept follows = near_paid s p object.Null (null_near s p e) old new 0 refl (spends_later old new new 0 kept (spends_nothing new)) follows

-- a list of bytes costs its words
pub bytes_cost : (l : NearList) → IsMeasured l → l.size ≡ Byte → l.words ≡ own_cost (list_object l)
bytes_cost l m e = m.1 ∙ ap words_for m.0 ∙ subst (λ (z : ElementSize). words_for (data_bits (size_number z) * l.count) ≡ own_cost (object.List l.start z l.count)) (sym e) refl

-- a level that is left suffices for each object
pub levels_are : (n : ℕ) (o : Object) → 0 < n → levels_suffice n o ≡ true
levels_are n object.Null h = refl
levels_are n (object.Capability i) h = refl
levels_are n (object.Struct q d k) h = some_level n h
levels_are n (object.List q size c) h = some_level n h
levels_are n (object.PointerList q c) h = some_level n h
levels_are n (object.StructList q words c d k) h = some_level n h
