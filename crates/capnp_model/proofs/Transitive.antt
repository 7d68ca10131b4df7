-- Compatibility goes along versions: the pairs are those that meet in the middle.
use Rattle.std.proofs.Common.{◌≡◌, ℕ, ◌≤◌, Bool, true, false, ◌&&◌, ◌||◌, ◌==◌, nat_le, if◌then◌else◌, Option, Some, None, List, [], ◌∷◌, ◌++◌, length, refl, sym, ◌∙◌, ap, subst, arith}
use Rattle.std.specs.List.{list_all}
use Rattle.std.specs.Str.{bytes_eq}
use Rattle.std.specs.Cmp.Derive.{both_true}
use Rattle.std.proofs.lemmas.Bool.{or_left, or_right, eqb-true, eq-eqb, le-leb, leb-true}
use Rattle.std.proofs.lemmas.Slice.Eq.{bytes_eq-Decides}
use Rattle.std.proofs.lemmas.List.Folds.{list_all-append, list_any-append}
use Rattle.capnp_model.specs.Trees.{Tree}
use Rattle.capnp_model.specs.Encoding.{canonical_words}
use Rattle.capnp_model.specs.Schemas.{PlainType, bool, int, uint, «enum», Ty, void, plain, text, blob, untyped, interface, struct, list, Node, Shape, shape, Fields, no_fields, field, Body, void_slot, plain_slot, pointer_slot, group_slot, Schema}
use Rattle.capnp_model.specs.Accepted.{schema_of, IsAccepted}
use Rattle.capnp_model.specs.Compatible.{Pairs, has_pair, same_names, related_plain, related, same_option, member_count, is_new, keeps_union, same_default, keeps, keeps_fields, keeps_body, IsCompatible}
use Rattle.capnp_model.proofs.lemmas.KeptRules.{and_three, and_four}
use Rattle.capnp_model.proofs.lemmas.KeptShapes.{option_is}
use Rattle.capnp_model.proofs.lemmas.FineShapes.{IsNewName, IsGood, AreGood, IsGoodBody}
use Rattle.capnp_model.proofs.lemmas.SoundRules.{rules_kept, good_shape}
use Rattle.capnp_model.proofs.lemmas.Tests.{and_left, and_right}

-- ---- pairs that meet in the middle

-- the older id of a pair with the newer ones that its newer id is paired with
abbrev through : ℕ × ℕ → Pairs → Pairs
through p [] = []
through p (q ∷ qs) = if p.1 == q.0 then (p.0, q.1) ∷ through p qs else through p qs

abbrev composed : Pairs → Pairs → Pairs
composed [] qs = []
composed (p ∷ ps) qs = through p qs ++ composed ps qs

has_through : (p : ℕ × ℕ) (i j k : ℕ) (qs : Pairs) → p.0 ≡ i → p.1 ≡ j → has_pair qs j k ≡ true → has_pair (through p qs) i k ≡ true
has_through p i j k [] e e' h = h
has_through p i j k (q ∷ qs) e e' h = by (p.1 == q.0) (q.0 == j) (q.1 == k) refl refl refl (has_through p i j k qs e e') h
  where
    by : (c a b : Bool) → (p.1 == q.0) ≡ c → (q.0 == j) ≡ a → (q.1 == k) ≡ b → (has_pair qs j k ≡ true → has_pair (through p qs) i k ≡ true)
        → ((a && b) || has_pair qs j k) ≡ true → has_pair (if c then (p.0, q.1) ∷ through p qs else through p qs) i k ≡ true
    by true true true ec ea eb more x = or_left (p.0 == i && q.1 == k) _ (both_true (eq-eqb p.0 i e) eb)
    by true true false ec ea eb more x = or_right (p.0 == i && q.1 == k) _ (more x)
    by true false b ec ea eb more x = or_right (p.0 == i && q.1 == k) _ (more x)
    by false true b ec ea eb more x = absurd (cc (sym ec ∙ eq-eqb p.1 q.0 (e' ∙ sym (eqb-true q.0 j ea))))
    by false false b ec ea eb more x = more x

has_composed : (i j k : ℕ) (ps qs : Pairs) → has_pair ps i j ≡ true → has_pair qs j k ≡ true → has_pair (composed ps qs) i k ≡ true
has_composed i j k [] qs h g = absurd (cc h)
has_composed i j k (p ∷ ps) qs h g =
    list_any-append (λ r. r.0 == i && r.1 == k) (through p qs) (composed ps qs) ∙ by (p.0 == i) (p.1 == j) refl refl (λ x. has_composed i j k ps qs x g) h
  where
    by : (a b : Bool) → (p.0 == i) ≡ a → (p.1 == j) ≡ b → (has_pair ps i j ≡ true → has_pair (composed ps qs) i k ≡ true) → ((a && b) || has_pair ps i j) ≡ true → (has_pair (through p qs) i k || has_pair (composed ps qs) i k) ≡ true
    by true true ea eb more x = or_left (has_pair (through p qs) i k) _ (has_through p i j k qs (eqb-true p.0 i ea) (eqb-true p.1 j eb) g)
    by true false ea eb more x = or_right (has_pair (through p qs) i k) _ (more x)
    by false b ea eb more x = or_right (has_pair (through p qs) i k) _ (more x)

-- what holds of two pairs that meet holds of all composed ones
module _ (older newer test : ℕ × ℕ → Bool) (meet : (p q : ℕ × ℕ) → older p ≡ true → newer q ≡ true → p.1 ≡ q.0 → test (p.0, q.1) ≡ true) where
  all_through : (p : ℕ × ℕ) (qs : Pairs) → older p ≡ true → list_all newer qs ≡ true → list_all test (through p qs) ≡ true
  all_through p [] h g = refl
  all_through p (q ∷ qs) h g = by (p.1 == q.0) refl (all_through p qs h (and_right (newer q) _ g))
    where
      by : (c : Bool) → (p.1 == q.0) ≡ c → list_all test (through p qs) ≡ true → list_all test (if c then (p.0, q.1) ∷ through p qs else through p qs) ≡ true
      by true e more = both_true (meet p q h (and_left (newer q) _ g) (eqb-true p.1 q.0 e)) more
      by false e more = more

  all_composed : (ps qs : Pairs) → list_all older ps ≡ true → list_all newer qs ≡ true → list_all test (composed ps qs) ≡ true
  all_composed [] qs h g = refl
  all_composed (p ∷ ps) qs h g =
      list_all-append test (through p qs) (composed ps qs) ∙ both_true (all_through p qs (and_left (older p) _ h) g) (all_composed ps qs (and_right (older p) _ h) g)

-- ---- names and numbers

names_along : (xs ys zs : List (List ℕ)) → same_names xs ys ≡ true → same_names ys zs ≡ true → same_names xs zs ≡ true
names_along [] ys zs h k = refl
names_along (x ∷ xs) [] zs h k = absurd (cc h)
names_along (x ∷ xs) (y ∷ ys) [] h k = absurd (cc k)
names_along (x ∷ xs) (y ∷ ys) (z ∷ zs) h k =
    both_true ((bytes_eq-Decides x z).1 ((bytes_eq-Decides x y).0 (and_left (bytes_eq x y) _ h) ∙ (bytes_eq-Decides y z).0 (and_left (bytes_eq y z) _ k)))
    (names_along xs ys zs (and_right (bytes_eq x y) _ h) (and_right (bytes_eq y z) _ k))

number_along : (a b c : ℕ) → (a == b) ≡ true → (b == c) ≡ true → (a == c) ≡ true
number_along a b c h k = eq-eqb a c (eqb-true a b h ∙ eqb-true b c k)

le_along : (a b c : ℕ) → nat_le a b ≡ true → nat_le b c ≡ true → nat_le a c ≡ true
le_along a b c h k = let x = leb-true a b h in let y = leb-true b c k in le-leb a c (omega arith)

option_along : (a b c : Option ℕ) → same_option a b ≡ true → same_option b c ≡ true → same_option a c ≡ true
option_along a b c h k = ap (λ x. same_option x c) (option_is a b h) ∙ k

union_along : (a b c : Option ℕ) → keeps_union a b ≡ true → keeps_union b c ≡ true → keeps_union a c ≡ true
union_along None b c h k = refl
union_along (Some x) None c h k = absurd (cc h)
union_along (Some x) (Some y) c h k = option_along (Some x) (Some y) c h k

default_along : (a b c : Option Tree) → same_default a b ≡ true → same_default b c ≡ true → same_default a c ≡ true
default_along None None c h k = k
default_along None (Some u) c h k = absurd (cc h)
default_along (Some t) None c h k = absurd (cc h)
default_along (Some t) (Some u) None h k = absurd (cc k)
default_along (Some t) (Some u) (Some v) h k =
    (bytes_eq-Decides (canonical_words t) (canonical_words v)).1 ((bytes_eq-Decides (canonical_words t) (canonical_words u)).0 h ∙ (bytes_eq-Decides (canonical_words u) (canonical_words v)).0 k)

-- a field that is new behind more members is new behind fewer
new_along : (count count' : ℕ) (m : Option ℕ) → count ≤ count' → is_new count' m ≡ true → is_new count m ≡ true
new_along count count' None le h = refl
new_along count count' (Some k) le h = let x = leb-true count' k h in le-leb count k (omega arith)

-- ---- fields

module _ (o n : Schema) (pairs : Pairs) where
  -- the older has no name that the newer lacks
  absent_along : (l : List ℕ) (count : ℕ) (fs fs' : Fields) → keeps_fields o n pairs count fs fs' ≡ true → IsNewName l fs' → IsNewName l fs
  unfolding keeps
  absent_along l count no_fields fs' h new = tt
  absent_along l count (field k m b fs) no_fields h new = absurd (cc h)
  absent_along l count (field k m b fs) (field k' m' b' fs') h new =
      by (bytes_eq k k') refl (λ x. absent_along l count fs fs' x new.1) (λ x. absent_along l count (field k m b fs) fs' x new.1) h
    where
      by : (c : Bool) → bytes_eq k k' ≡ c → (keeps_fields o n pairs count fs fs' ≡ true → IsNewName l fs) → (keeps_fields o n pairs count (field k m b fs) fs' ≡ true → IsNewName l (field k m b fs))
          → (elim c as (λ (x : Bool). Bool) [ true ↦ same_option m m' && keeps_body o n pairs b b' && keeps_fields o n pairs count fs fs' | false ↦ is_new count m' && keeps_fields o n pairs count (field k m b fs) fs' ]) ≡ true
          → IsNewName l (field k m b fs)
      by true e rest added x =
          (ap (λ z. bytes_eq z l) ((bytes_eq-Decides k k').0 e) ∙ new.0, rest (and_right (same_option m m' && keeps_body o n pairs b b') _ x))
      by false e rest added x = added (and_right (is_new count m') _ x)

  -- the newer has as many members
  members_along : (count : ℕ) (fs fs' : Fields) → keeps_fields o n pairs count fs fs' ≡ true → member_count fs ≤ member_count fs'
  unfolding keeps
  members_along count no_fields fs' h = omega arith
  members_along count (field k m b fs) no_fields h = absurd (cc h)
  members_along count (field k m b fs) (field k' m' b' fs') h = by (bytes_eq k k') (members_along count fs fs') (members_along count (field k m b fs) fs') h
    where
      more : (m : Option ℕ) → member_count fs ≤ member_count fs' → member_count (field k m b fs) ≤ member_count (field k' m b' fs')
      more None le = le
      more (Some a) le = omega arith

      added : (m' : Option ℕ) → member_count (field k m b fs) ≤ member_count fs' → member_count (field k m b fs) ≤ member_count (field k' m' b' fs')
      added None le = le
      added (Some a) le = omega arith

      by : (c : Bool) → (keeps_fields o n pairs count fs fs' ≡ true → member_count fs ≤ member_count fs') → (keeps_fields o n pairs count (field k m b fs) fs' ≡ true → member_count (field k m b fs) ≤ member_count fs')
          → (elim c as (λ (x : Bool). Bool) [ true ↦ same_option m m' && keeps_body o n pairs b b' && keeps_fields o n pairs count fs fs' | false ↦ is_new count m' && keeps_fields o n pairs count (field k m b fs) fs' ]) ≡ true
          → member_count (field k m b fs) ≤ member_count (field k' m' b' fs')
      by true rest behind x =
          let three = and_three (same_option m m') (keeps_body o n pairs b b') (keeps_fields o n pairs count fs fs') x in
          subst (λ z. member_count (field k m b fs) ≤ member_count (field k' z b' fs')) (option_is m m' three.0) (more m (rest three.2))
      by false rest behind x = added m' (behind (and_right (is_new count m') _ x))

  -- the first fields are shared
  keep_shared : (count : ℕ) (l l' : List ℕ) (m m' : Option ℕ) (b b' : Body) (fs fs' : Fields) → bytes_eq l l' ≡ true → same_option m m' ≡ true → keeps_body o n pairs b b' ≡ true → keeps_fields o n pairs count fs fs' ≡ true
      → keeps_fields o n pairs count (field l m b fs) (field l' m' b' fs') ≡ true
  unfolding keeps
  keep_shared count l l' m m' b b' fs fs' e h k more =
      ap (λ c. elim c as (λ (x : Bool). Bool) [ true ↦ same_option m m' && keeps_body o n pairs b b' && keeps_fields o n pairs count fs fs' | false ↦ is_new count m' && keeps_fields o n pairs count (field l m b fs) fs' ]) e
      ∙ both_true (both_true h k) more

  -- the newer's first field is added
  keep_added : (count : ℕ) (l l' : List ℕ) (m m' : Option ℕ) (b b' : Body) (fs fs' : Fields) → bytes_eq l l' ≡ false → is_new count m' ≡ true → keeps_fields o n pairs count (field l m b fs) fs' ≡ true
      → keeps_fields o n pairs count (field l m b fs) (field l' m' b' fs') ≡ true
  unfolding keeps
  keep_added count l l' m m' b b' fs fs' e h more =
      ap (λ c. elim c as (λ (x : Bool). Bool) [ true ↦ same_option m m' && keeps_body o n pairs b b' && keeps_fields o n pairs count fs fs' | false ↦ is_new count m' && keeps_fields o n pairs count (field l m b fs) fs' ]) e
      ∙ both_true h more

module _ (old middle new : Schema) (ps qs rs : Pairs) (join : (i j k : ℕ) → has_pair ps i j ≡ true → has_pair qs j k ≡ true → has_pair rs i k ≡ true) where
  plain_along : (p q r : PlainType) → related_plain old middle p q ≡ true → related_plain middle new q r ≡ true → related_plain old new p r ≡ true
  plain_along bool bool r h k = k
  plain_along (int u) (int v) (int w) h k = number_along u v w h k
  plain_along (uint u) (uint v) (uint w) h k = number_along u v w h k
  plain_along («enum» x) («enum» y) («enum» z) h k = names_along (old.names_of x) (middle.names_of y) (new.names_of z) h k
  plain_along _ _ _ h k = absurd (cc)

  related_along : (s t u : Ty) → related old middle ps s t ≡ true → related middle new qs t u ≡ true → related old new rs s u ≡ true
  related_along void void u h k = k
  related_along text text u h k = k
  related_along blob blob u h k = k
  related_along untyped untyped u h k = k
  related_along interface interface u h k = k
  related_along (plain p) (plain q) (plain r) h k = plain_along p q r h k
  related_along (struct x) (struct y) (struct z) h k = join x y z h k
  related_along (list s) (list t) (list u) h k = related_along s t u h k
  related_along _ _ _ h k = absurd (cc)

  mutual
    unfolding keeps

    shape_along : (g g' g'' : Shape) → keeps old middle ps g g' ≡ true → keeps middle new qs g' g'' ≡ true → IsGood new g'' → keeps old new rs g g'' ≡ true
    shape_along (shape nid w p u fs) (shape nid' w' p' u' fs') (shape nid'' w'' p'' u'' fs'') h k good =
        let x = and_four (nat_le w w') (nat_le p p') (keeps_union u u') (keeps_fields old middle ps (member_count fs) fs fs') h in
        let y = and_four (nat_le w' w'') (nat_le p' p'') (keeps_union u' u'') (keeps_fields middle new qs (member_count fs') fs' fs'') k in
        both_true (both_true (both_true (le_along w w' w'' x.0 y.0) (le_along p p' p'' x.1 y.1)) (union_along u u' u'' x.2 y.2))
        (fields_along u'' (member_count fs) (member_count fs') fs fs' fs'' (members_along old middle ps (member_count fs) fs fs' x.3) x.3 y.3 good)

    fields_along : (u : Option ℕ) (count count' : ℕ) (fs fs' fs'' : Fields) → count ≤ count' → keeps_fields old middle ps count fs fs' ≡ true → keeps_fields middle new qs count' fs' fs'' ≡ true → AreGood new u fs'' → keeps_fields old new rs count fs fs'' ≡ true
    fields_along u count count' fs no_fields no_fields le h k good = h
    fields_along u count count' fs (field l' m' b' fs') no_fields le h k good = absurd (cc k)
    fields_along u count count' (field l m b fs) no_fields (field l'' m'' b'' fs'') le h k good = absurd (cc h)
    fields_along u count count' no_fields no_fields (field l'' m'' b'' fs'') le h k good =
        both_true (new_along count count' m'' le (and_left (is_new count' m'') _ k)) (fields_along u count count' no_fields no_fields fs'' le refl (and_right (is_new count' m'') _ k) good.4)
    fields_along u count count' no_fields (field l' m' b' fs') (field l'' m'' b'' fs'') le h k good =
        by (bytes_eq l' l'') (λ x. fields_along u count count' no_fields fs' fs'' le (and_right (is_new count m') _ h) x good.4) (λ x. fields_along u count count' no_fields (field l' m' b' fs') fs'' le h x good.4) k
      where
        by : (d : Bool) → (keeps_fields middle new qs count' fs' fs'' ≡ true → keeps_fields old new rs count no_fields fs'' ≡ true) → (keeps_fields middle new qs count' (field l' m' b' fs') fs'' ≡ true → keeps_fields old new rs count no_fields fs'' ≡ true)
            → (elim d as (λ (x : Bool). Bool) [ true ↦ same_option m' m'' && keeps_body middle new qs b' b'' && keeps_fields middle new qs count' fs' fs'' | false ↦ is_new count' m'' && keeps_fields middle new qs count' (field l' m' b' fs') fs'' ]) ≡ true
            → (is_new count m'' && keeps_fields old new rs count no_fields fs'') ≡ true
        by true rest added x =
            let three = and_three (same_option m' m'') (keeps_body middle new qs b' b'') (keeps_fields middle new qs count' fs' fs'') x in
            both_true (ap (is_new count) (sym (option_is m' m'' three.0)) ∙ and_left (is_new count m') _ h) (rest three.2)
        by false rest added x = both_true (new_along count count' m'' le (and_left (is_new count' m'') _ x)) (added (and_right (is_new count' m'') _ x))
    fields_along u count count' (field l m b fs) (field l' m' b' fs') (field l'' m'' b'' fs'') le h k good =
        by (bytes_eq l l') (bytes_eq l' l'') refl refl
        (λ x y. body_along b b' b'' x y good.3)
        (λ x y. fields_along u count count' fs fs' fs'' le x y good.4)
        (λ x y. fields_along u count count' (field l m b fs) fs' fs'' le x y good.4)
        (λ y. fields_along u count count' (field l m b fs) (field l' m' b' fs') fs'' le h y good.4)
        h k
      where
        by : (d d' : Bool) → bytes_eq l l' ≡ d → bytes_eq l' l'' ≡ d'
            → (keeps_body old middle ps b b' ≡ true → keeps_body middle new qs b' b'' ≡ true → keeps_body old new rs b b'' ≡ true)
            → (keeps_fields old middle ps count fs fs' ≡ true → keeps_fields middle new qs count' fs' fs'' ≡ true → keeps_fields old new rs count fs fs'' ≡ true)
            → (keeps_fields old middle ps count (field l m b fs) fs' ≡ true → keeps_fields middle new qs count' fs' fs'' ≡ true → keeps_fields old new rs count (field l m b fs) fs'' ≡ true)
            → (keeps_fields middle new qs count' (field l' m' b' fs') fs'' ≡ true → keeps_fields old new rs count (field l m b fs) fs'' ≡ true)
            → (elim d as (λ (x : Bool). Bool) [ true ↦ same_option m m' && keeps_body old middle ps b b' && keeps_fields old middle ps count fs fs' | false ↦ is_new count m' && keeps_fields old middle ps count (field l m b fs) fs' ]) ≡ true
            → (elim d' as (λ (x : Bool). Bool) [ true ↦ same_option m' m'' && keeps_body middle new qs b' b'' && keeps_fields middle new qs count' fs' fs'' | false ↦ is_new count' m'' && keeps_fields middle new qs count' (field l' m' b' fs') fs'' ]) ≡ true
            → keeps_fields old new rs count (field l m b fs) (field l'' m'' b'' fs'') ≡ true
        by true true e e' body rest older newer x y =
            let three = and_three (same_option m m') (keeps_body old middle ps b b') (keeps_fields old middle ps count fs fs') x in
            let three' = and_three (same_option m' m'') (keeps_body middle new qs b' b'') (keeps_fields middle new qs count' fs' fs'') y in
            keep_shared old new rs count l l'' m m'' b b'' fs fs'' (ap (λ z. bytes_eq z l'') ((bytes_eq-Decides l l').0 e) ∙ e') (option_along m m' m'' three.0 three'.0) (body three.1 three'.1) (rest three.2 three'.2)
        by false true e e' body rest older newer x y =
            let three' = and_three (same_option m' m'') (keeps_body middle new qs b' b'') (keeps_fields middle new qs count' fs' fs'') y in
            keep_added old new rs count l l'' m m'' b b'' fs fs'' (ap (bytes_eq l) (sym ((bytes_eq-Decides l' l'').0 e')) ∙ e) (ap (is_new count) (sym (option_is m' m'' three'.0)) ∙ and_left (is_new count m') _ x) (older (and_right (is_new count m') _ x) three'.2)
        by d false e e' body rest older newer x y =
            let more = and_right (is_new count' m'') (keeps_fields middle new qs count' (field l' m' b' fs') fs'') y in
            let lacking = absent_along middle new qs l'' count' (field l' m' b' fs') fs'' more good.1 in
            keep_added old new rs count l l'' m m'' b b'' fs fs'' (absent_along old middle ps l'' count (field l m b fs) (field l' m' b' fs') h lacking).0 (new_along count count' m'' le (and_left (is_new count' m'') _ y)) (newer more)

    body_along : (b b' b'' : Body) → keeps_body old middle ps b b' ≡ true → keeps_body middle new qs b' b'' ≡ true → IsGoodBody new b'' → keeps_body old new rs b b'' ≡ true
    body_along (void_slot i) (void_slot j) (void_slot z) h k good = number_along i j z h k
    body_along (plain_slot p at d) (plain_slot q at' d') (plain_slot r at'' d'') h k good =
        let x = and_three (related_plain old middle p q) (at == at') (d == d') h in
        let y = and_three (related_plain middle new q r) (at' == at'') (d' == d'') k in
        both_true (both_true (plain_along p q r x.0 y.0) (number_along at at' at'' x.1 y.1)) (number_along d d' d'' x.2 y.2)
    body_along (pointer_slot i t d) (pointer_slot i' t' d') (pointer_slot i'' t'' d'') h k good =
        let x = and_three (i == i') (related old middle ps t t') (same_default d d') h in
        let y = and_three (i' == i'') (related middle new qs t' t'') (same_default d' d'') k in
        both_true (both_true (number_along i i' i'' x.0 y.0) (related_along t t' t'' x.1 y.1)) (default_along d d' d'' x.2 y.2)
    body_along (group_slot g) (group_slot g') (group_slot g'') h k good = shape_along g g' g'' h k good
    body_along _ _ _ h k good = absurd (cc)

-- THE LAW
pub compatible_along_versions : (old middle : Schema) (nodes : List Node) (x y z : ℕ) → IsAccepted nodes → IsCompatible old middle x y → IsCompatible middle (schema_of nodes) y z → IsCompatible old (schema_of nodes) x z
unfolding schema_of
compatible_along_versions old middle nodes x y z accepted p q = record {
  pairs = all;
  same_sort = p.same_sort ∙ q.same_sort;
  has_roots = join x y z p.has_roots q.has_roots;
  are_kept = all_composed (λ r. keeps old middle p.pairs (old.shape_of r.0) (middle.shape_of r.1)) (λ r. keeps middle new q.pairs (middle.shape_of r.0) (new.shape_of r.1)) (λ r. keeps old new all (old.shape_of r.0) (new.shape_of r.1)) meet p.pairs q.pairs p.are_kept q.are_kept;
}
  where
    new : Schema
    new = schema_of nodes

    all : Pairs
    all = composed p.pairs q.pairs

    join : (i j k : ℕ) → has_pair p.pairs i j ≡ true → has_pair q.pairs j k ≡ true → has_pair all i k ≡ true
    join i j k h g = has_composed i j k p.pairs q.pairs h g

    meet : (r s : ℕ × ℕ) → keeps old middle p.pairs (old.shape_of r.0) (middle.shape_of r.1) ≡ true → keeps middle new q.pairs (middle.shape_of s.0) (new.shape_of s.1) ≡ true → r.1 ≡ s.0 → keeps old new all (old.shape_of r.0) (new.shape_of s.1) ≡ true
    meet r s h k e =
        shape_along old middle new p.pairs q.pairs all join (old.shape_of r.0) (middle.shape_of r.1) (new.shape_of s.1) h
        (ap (λ i. keeps middle new q.pairs (middle.shape_of i) (new.shape_of s.1)) e ∙ k) (good_shape nodes (rules_kept nodes accepted) (length nodes) s.1)
