-- Shapes whose areas share nothing, whose names and members are distinct and whose defaults fit are fine.
use Rattle.std.proofs.Common.{◌≡◌, ℕ, ◌^◌, ◌<◌, ◌==◌, Bool, true, false, ◌||◌, List, [], ◌∷◌, ◌++◌, Option, Some, None, refl, sym, subst}
use Rattle.std.specs.Str.{bytes_eq}
use Rattle.std.proofs.lemmas.Slice.Eq.{bytes_eq-Decides}
use Rattle.capnp_model.specs.Schemas.{struct, Shape, shape, Fields, no_fields, field, Body, void_slot, plain_slot, pointer_slot, group_slot, Schema}
use Rattle.capnp_model.specs.Readings.{whole_words}
use Rattle.capnp_model.specs.Accepted.{Area, bit_area, are_apart, union_area, areas_of, areas_of_fields, areas_of_body, are_members, is_apart_from, has_no_overlap, fields_are_apart, body_has_no_overlap}
use Rattle.capnp_model.specs.Steps.{target, target_if, target_of}
use Rattle.capnp_model.proofs.lemmas.SoundShapes.{MarkApart, HasPlace, Apart, IsApartFrom, AtName, IsAlone, IsFineShape, AreFineGroups, IsFineGroup}
use Rattle.capnp_model.proofs.lemmas.KeptRules.{and_three}
use Rattle.capnp_model.proofs.ApartAreas.{apart_of, Apart-sym, all_left, all_right}
use Rattle.capnp_model.proofs.lemmas.FitCalls.{IsGoodSlot, contents_fit}
use Rattle.capnp_model.proofs.lemmas.Tests.{and_left, and_right}
use Rattle.capnp_model.proofs.lemmas.Paths.{mark_apart}

-- ---- what the other rules give of a shape

abbrev pub HasUnion : Option ℕ → Type 0
HasUnion (Some at) = Unit {0}
HasUnion None = ⊥

-- a member belongs to a union, and its value has sixteen bits
abbrev pub IsGoodMember : Option ℕ → Option ℕ → Type 0
IsGoodMember u (Some k) = HasUnion u × (k < 2 ^ 16)
IsGoodMember u None = Unit {0}

-- no field has the name
abbrev pub IsNewName : List ℕ → Fields → Type 0
IsNewName l no_fields = Unit {0}
IsNewName l (field k m b fs) = (bytes_eq k l ≡ false) × IsNewName l fs

-- no other member has the value
abbrev pub IsNewMember : Option ℕ → Fields → Type 0
IsNewMember None fs = Unit {0}
IsNewMember (Some k) no_fields = Unit {0}
IsNewMember (Some k) (field l None b fs) = IsNewMember (Some k) fs
IsNewMember (Some k) (field l (Some m) b fs) = ((m == k) ≡ false) × ((k == m) ≡ false) × IsNewMember (Some k) fs

abbrev mutual
  pub IsGood : Schema → Shape → Type 0
  IsGood s (shape nid w p u fs) = AreGood s u fs

  pub AreGood : Schema → Option ℕ → Fields → Type 0
  AreGood s u no_fields = Unit {0}
  AreGood s u (field l m b fs) = IsGoodMember u m × IsNewName l fs × IsNewMember m fs × IsGoodBody s b × AreGood s u fs

  pub IsGoodBody : Schema → Body → Type 0
  IsGoodBody s (void_slot j) = Unit {0}
  IsGoodBody s (plain_slot p at d) = IsGoodSlot (plain_slot p at d)
  IsGoodBody s (pointer_slot i ty d) = IsGoodSlot (pointer_slot i ty d) × ((id : ℕ) → ty ≡ struct id → s.is_group id ≡ false)
  IsGoodBody s (group_slot g) = IsGood s g

pub good_slot : (s : Schema) (b : Body) → IsGoodBody s b → IsGoodSlot b
good_slot s (void_slot j) h = tt
good_slot s (plain_slot p at d) h = h
good_slot s (pointer_slot i ty d) h = h.0
good_slot s (group_slot g) h = tt

-- ---- one field among the others

pub place_of : (u m : Option ℕ) → IsGoodMember u m → HasPlace u m whole_words
place_of (Some at) (Some k) h = (tt, h.1)
place_of None (Some k) h = absurd h.0
place_of (Some at) None h = tt
place_of None None h = tt

-- two fields, both ways
abbrev Beside : Option ℕ → Body → Option ℕ → Body → Type 0
Beside (Some k) b (Some m) c = ((m == k) ≡ false) × ((k == m) ≡ false)
Beside m b n c = Apart (areas_of_body b) (areas_of_body c)

or_apart : (m n : Option ℕ) (b c : Body) → (are_members m n || are_apart (areas_of_body b) (areas_of_body c)) ≡ true → IsNewMember m (field [] n c no_fields) → Beside m b n c
or_apart (Some k) (Some j) b c h new = (new.0, new.1)
or_apart (Some k) None b c h new = apart_of (areas_of_body b) (areas_of_body c) h
or_apart None n b c h new = apart_of (areas_of_body b) (areas_of_body c) h

-- the later field beside the earlier
later : (u m n : Option ℕ) (b c : Body) → Apart (union_area u) (areas_of_body b) → Apart (union_area u) (areas_of_body c) → Beside m b n c → IsApartFrom u m b n c
later u (Some k) (Some j) b c hb hc h = h.0
later u (Some k) None b c hb hc h = (mark_apart u (Some k) (areas_of_body c) hc, h)
later u None n b c hb hc h = (mark_apart u None (areas_of_body c) hc, h)

-- the earlier field beside the later
earlier : (u m n : Option ℕ) (b c : Body) → Apart (union_area u) (areas_of_body b) → Apart (union_area u) (areas_of_body c) → Beside m b n c → IsApartFrom u n c m b
earlier u (Some k) (Some j) b c hb hc h = h.1
earlier u (Some k) None b c hb hc h = (mark_apart u None (areas_of_body b) hb, Apart-sym (areas_of_body b) (areas_of_body c) h)
earlier u None (Some j) b c hb hc h = (mark_apart u (Some j) (areas_of_body b) hb, Apart-sym (areas_of_body b) (areas_of_body c) h)
earlier u None None b c hb hc h = (mark_apart u None (areas_of_body b) hb, Apart-sym (areas_of_body b) (areas_of_body c) h)

first_new : (m n : Option ℕ) (l : List ℕ) (c : Body) (fs : Fields) → IsNewMember m (field l n c fs) → IsNewMember m (field [] n c no_fields) × IsNewMember m fs
first_new None n l c fs h = (tt, tt)
first_new (Some k) None l c fs h = (tt, h)
first_new (Some k) (Some j) l c fs h = ((h.0, h.1, tt), h.2)

-- ---- the field that a name finds

module _ (P : Option ℕ → Body → Type 0) (n : List ℕ) (member : Option ℕ) (body : Body) where
  -- what holds of the first field or of the found one behind it
  pub found : (l : List ℕ) (m : Option ℕ) (b : Body) (fs : Fields) → target_of n (field l m b fs) ≡ target member body → P m b → (target_of n fs ≡ target member body → P member body) → P member body
  found l m b fs e here more = by (bytes_eq l n) e
    where
      by : (c : Bool) → target_if c (target m b) (target_of n fs) ≡ target member body → P member body
      by true k = let members : m ≡ member = cc in let is : b ≡ body = cc in subst (λ z. P z body) members (subst (λ z. P m z) is here)
      by false k = more k

union_target : (u : Option ℕ) (n : List ℕ) (fs : Fields) (member : Option ℕ) (body : Body) → target_of n fs ≡ target member body → Apart (areas_of_fields fs) (union_area u) → Apart (areas_of_body body) (union_area u)
unfolding areas_of
union_target u n no_fields member body e h = absurd (cc e)
union_target u n (field l m b fs) member body e h =
    found (λ k c. Apart (areas_of_body c) (union_area u)) n member body l m b fs e (front (areas_of_body b) (areas_of_fields fs) h) (λ k. union_target u n fs member body k (back (areas_of_body b) (areas_of_fields fs) h))
  where
    front : (xs ys : List Area) → Apart (xs ++ ys) (union_area u) → Apart xs (union_area u)
    front [] ys g = tt
    front (x ∷ xs) ys g = (g.0, front xs ys g.1)

    back : (xs ys : List Area) → Apart (xs ++ ys) (union_area u) → Apart ys (union_area u)
    back [] ys g = g
    back (x ∷ xs) ys g = back xs ys g.1

pub good_target : (s : Schema) (u : Option ℕ) (n : List ℕ) (fs : Fields) (member : Option ℕ) (body : Body) → target_of n fs ≡ target member body → AreGood s u fs → IsGoodMember u member × IsGoodBody s body
good_target s u n no_fields member body e h = absurd (cc e)
good_target s u n (field l m b fs) member body e h = found (λ k c. IsGoodMember u k × IsGoodBody s c) n member body l m b fs e (h.0, h.3) (λ k. good_target s u n fs member body k h.4)

beside_target : (m : Option ℕ) (b : Body) (n : List ℕ) (fs : Fields) (member : Option ℕ) (body : Body) → target_of n fs ≡ target member body → is_apart_from m (areas_of_body b) fs ≡ true → IsNewMember m fs → Beside m b member body
beside_target m b n no_fields member body e h new = absurd (cc e)
beside_target m b n (field l k c fs) member body e h new =
    let both = first_new m k l c fs new in
    found (λ j d. Beside m b j d) n member body l k c fs e
    (or_apart m k b c (and_left (are_members m k || are_apart (areas_of_body b) (areas_of_body c)) (is_apart_from m (areas_of_body b) fs) h) both.0)
    (λ x. beside_target m b n fs member body x (and_right (are_members m k || are_apart (areas_of_body b) (areas_of_body c)) (is_apart_from m (areas_of_body b) fs) h) both.1)

-- ---- all fields

pub front_of : (u : Option ℕ) (ys zs : List Area) → Apart (union_area u) (ys ++ zs) → Apart (union_area u) ys
front_of None ys zs h = tt
front_of (Some at) ys zs h = (all_left (bit_area at 16) ys zs h.0, tt)

pub back_of : (u : Option ℕ) (ys zs : List Area) → Apart (union_area u) (ys ++ zs) → Apart (union_area u) zs
back_of None ys zs h = tt
back_of (Some at) ys zs h = (all_right (bit_area at 16) ys zs h.0, tt)

-- the fields behind one of the name
behind : (u : Option ℕ) (l n : List ℕ) (m : Option ℕ) (b : Body) (fs : Fields) → l ≡ n → IsNewName l fs → IsNewMember m fs → is_apart_from m (areas_of_body b) fs ≡ true → Apart (union_area u) (areas_of_body b) → Apart (union_area u) (areas_of_fields fs) → IsAlone n u m b fs
unfolding areas_of
behind u l n m b no_fields e name new h ub uf = tt
behind u l n m b (field k j c fs) e name new h ub uf =
    let both = first_new m j k c fs new in
    let other : bytes_eq k n ≡ false = subst (λ z. bytes_eq k z ≡ false) e name.0 in
    let beside = or_apart m j b c (and_left (are_members m j || are_apart (areas_of_body b) (areas_of_body c)) (is_apart_from m (areas_of_body b) fs) h) both.0 in (
      subst (λ z. AtName u m b z j c) (sym other) (later u m j b c ub (front_of u (areas_of_body c) (areas_of_fields fs) uf) beside),
      behind u l n m b fs e name.1 both.1 (and_right (are_members m j || are_apart (areas_of_body b) (areas_of_body c)) (is_apart_from m (areas_of_body b) fs) h) ub (back_of u (areas_of_body c) (areas_of_fields fs) uf),
    )

alone : (s : Schema) (u : Option ℕ) (n : List ℕ) (fs : Fields) (member : Option ℕ) (body : Body) → target_of n fs ≡ target member body → AreGood s u fs → fields_are_apart fs ≡ true → Apart (union_area u) (areas_of_fields fs) → IsAlone n u member body fs
unfolding areas_of has_no_overlap
alone s u n no_fields member body e good h uf = absurd (cc e)
alone s u n (field l m b fs) member body e good h uf =
    let three = and_three (is_apart_from m (areas_of_body b) fs) (body_has_no_overlap b) (fields_are_apart fs) h in
    let ub = front_of u (areas_of_body b) (areas_of_fields fs) uf in
    let us = back_of u (areas_of_body b) (areas_of_fields fs) uf in
    by three.0 ub us (λ x. alone s u n fs member body x good.4 three.2 us) (bytes_eq l n) refl e
  where
    by : is_apart_from m (areas_of_body b) fs ≡ true → Apart (union_area u) (areas_of_body b) → Apart (union_area u) (areas_of_fields fs) → (target_of n fs ≡ target member body → IsAlone n u member body fs)
        → (c : Bool) → bytes_eq l n ≡ c → target_if c (target m b) (target_of n fs) ≡ target member body → AtName u member body c m b × IsAlone n u member body fs
    by apart ub us more true same k =
        let members : m ≡ member = cc in
        let is : b ≡ body = cc in
        let names : l ≡ n = (bytes_eq-Decides l n).0 same in
        ((members, is), subst (λ z. IsAlone n u z body fs) members (subst (λ z. IsAlone n u m z fs) is (behind u l n m b fs names good.1 good.2 apart ub us)))
    by apart ub us more false other k =
        let target_apart : Apart (union_area u) (areas_of_body body) = Apart-sym (areas_of_body body) (union_area u) (union_target u n fs member body k (Apart-sym (union_area u) (areas_of_fields fs) us)) in
        (earlier u m member b body ub target_apart (beside_target m b n fs member body k apart good.2), more k)

-- THE LAW
mutual
  unfolding areas_of has_no_overlap

  pub fine_shape : (s : Schema) (g : Shape) → IsGood s g → has_no_overlap g ≡ true → IsFineShape s g
  fine_shape s (shape nid w p u fs) good h =
      let uf = apart_of (union_area u) (areas_of_fields fs) (and_left (are_apart (union_area u) (areas_of_fields fs)) (fields_are_apart fs) h) in
      let fields = and_right (are_apart (union_area u) (areas_of_fields fs)) (fields_are_apart fs) h in (
        (λ n member body e.
            let off : Apart (areas_of_body body) (union_area u) = union_target u n fs member body e (Apart-sym (union_area u) (areas_of_fields fs) uf) in
            let found_good = good_target s u n fs member body e good in
            record {
              place = place_of u member found_good.0;
              unmarked = mark_apart u member (areas_of_body body) (Apart-sym (areas_of_body body) (union_area u) off);
              off_union = off;
              alone = alone s u n fs member body e good fields uf;
              contents = contents_fit s body (good_slot s body found_good.1);
            }),
        fine_groups s u fs good fields,
      )

  fine_groups : (s : Schema) (u : Option ℕ) (fs : Fields) → AreGood s u fs → fields_are_apart fs ≡ true → AreFineGroups s fs
  fine_groups s u no_fields good h = tt
  fine_groups s u (field l m b fs) good h =
      let three = and_three (is_apart_from m (areas_of_body b) fs) (body_has_no_overlap b) (fields_are_apart fs) h in
      (fine_group s b good.3 three.1, fine_groups s u fs good.4 three.2)

  fine_group : (s : Schema) (b : Body) → IsGoodBody s b → body_has_no_overlap b ≡ true → IsFineGroup s b
  fine_group s (void_slot j) good h = tt
  fine_group s (plain_slot p at d) good h = tt
  fine_group s (pointer_slot i ty d) good h = good.1
  fine_group s (group_slot g) good h = fine_shape s g good h
