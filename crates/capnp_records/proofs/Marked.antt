-- Marks say what the claims so far cover.
use Rattle.std.proofs.Common.{◌≡◌, ℕ, zero, suc, ◌+◌, ◌<◌, ◌≤◌, max, Bool, true, false, not, ◌&&◌, ◌||◌, ◌==◌, nat_lt, nat_le, List, [], ◌∷◌, ◌++◌, length, take, get_or, refl, sym, ◌∙◌, ap, arith}
use Rattle.std.specs.List.{list_all, list_any}
use Rattle.std.proofs.lemmas.Bool.Decides.{nat_tests}
use Rattle.std.proofs.lemmas.Grind.{common_steps, flat_map-append}
use Rattle.capnp_model.specs.Accepted.{Area as ModelArea, bit_area, pointer_area, share, are_apart}
use Rattle.capnp_model.proofs.lemmas.Tests.{never_true, or_right as or_there, and_left, and_right, and_right_false, or_left_false, or_right_false, or_left}
use Rattle.capnp_records.specs.declared.area.Area.{Area}
use Rattle.capnp_records.specs.declared.area.Area.TheVariants as A
use Rattle.capnp_records.specs.declared.marks.Marks.{Marks}
use Rattle.capnp_records.specs.Storage.{areas_in, areas_seen}
use Rattle.capnp_records.specs.Claims.{claims_are_apart}
use Rattle.capnp_records.specs.Marks.{has, covers, mark_at, AllowsAll, HasMarkAbove, MarksAreas, most_mark, level_mark}
use Rattle.capnp_records.proofs.lemmas.ListTests.{list_any-append, list_all-flat_map}
use Rattle.capnp_records.proofs.Forward.{pairs}

-- ---- what areas cover

pub more_seen : (as' : List Area) (i : ℕ) (a : Area) → i < length as' → a ≡ get_or as' i a → areas_seen (take (i + 1) as') ≡ areas_seen (take i as') ++ areas_in a
more_seen as' i a lt is =
    let grown : take (i + 1) as' ≡ take i as' ++ a ∷ [] = grind (arith, common_steps) in
    let own : areas_in a ++ [] ≡ areas_in a = append_none (areas_in a) in
    ap areas_seen grown ∙ flat_map-append areas_in (take i as') (a ∷ []) ∙ ap (λ xs. areas_seen (take i as') ++ xs) own
  where
    append_none : (xs : List ModelArea) → xs ++ [] ≡ xs
    append_none [] = refl
    append_none (x ∷ xs) = ap (λ ys. x ∷ ys) (append_none xs)

pub seen_at : (as' : List Area) (i : ℕ) (a : Area) (pointer : Bool) (k : ℕ) → i < length as' → a ≡ get_or as' i a → covers (areas_in a) pointer k ≡ true → covers (areas_seen as') pointer k ≡ true
seen_at [] i a pointer k lt is h = absurd (omega arith)
seen_at (b ∷ as') zero a pointer k lt is h =
    list_any-append (λ x. has x pointer k) (areas_in b) (areas_seen as')
    ∙ or_left (covers (areas_in b) pointer k) (covers (areas_seen as') pointer k) (ap (λ x. covers (areas_in x) pointer k) (sym is) ∙ h)
seen_at (b ∷ as') (suc i) a pointer k lt is h =
    list_any-append (λ x. has x pointer k) (areas_in b) (areas_seen as')
    ∙ or_there (covers (areas_in b) pointer k) (covers (areas_seen as') pointer k) (seen_at as' i a pointer k (omega arith) is h)

pub refused_at : (m : Marks) (as' : List Area) (i : ℕ) (a : Area) (most : ℕ) → i < length as' → a ≡ get_or as' i a → HasMarkAbove m (areas_in a) most → HasMarkAbove m (areas_seen as') most
refused_at m as' i a most lt is r = record { pointer = r.pointer; number = r.number; covered = seen_at as' i a r.pointer r.number lt is r.covered; above = r.above }

-- ---- marks after two puts

put_twice : (b c : Bool) (level x y z : ℕ) → y ≡ (elim b as (λ (t : Bool). ℕ) [ true ↦ max level x | false ↦ x ]) → z ≡ (elim c as (λ (t : Bool). ℕ) [ true ↦ max level y | false ↦ y ]) → z ≡ (elim (b || c) as (λ (t : Bool). ℕ) [ true ↦ max level x | false ↦ x ])
put_twice true true level x y z h k = omega (arith, h, k)
put_twice true false level x y z h k = k ∙ h
put_twice false true level x y z h k = k ∙ ap (max level) h
put_twice false false level x y z h k = k ∙ h

pub puts_more : (old m n : Marks) (as' : List Area) (i : ℕ) (a : Area) (level : ℕ) → i < length as' → a ≡ get_or as' i a → MarksAreas old m (areas_seen (take i as')) level → MarksAreas m n (areas_in a) level → MarksAreas old n (areas_seen (take (i + 1) as')) level
puts_more old m n as' i a level lt is h g pointer k =
    put_twice (covers (areas_seen (take i as')) pointer k) (covers (areas_in a) pointer k) level (mark_at old pointer k) (mark_at m pointer k) (mark_at n pointer k) (h pointer k) (g pointer k)
    ∙ ap (λ (b : Bool). elim b as (λ (t : Bool). ℕ) [ true ↦ max level (mark_at old pointer k) | false ↦ mark_at old pointer k ])
    (sym (ap (λ xs. covers xs pointer k) (more_seen as' i a lt is) ∙ list_any-append (λ x. has x pointer k) (areas_seen (take i as')) (areas_in a)))

-- ---- sharing is having a bit or a pointer in common

abbrev pub is_wide : ModelArea → Bool
is_wide (bit_area a n) = nat_lt 0 n
is_wide (pointer_area i) = true

inside : (a n k : ℕ) → a ≤ k → k < a + n → (nat_le a k && nat_lt k (a + n)) ≡ true
inside a n k h g = grind (arith, nat_tests)

from_inside : (a n k : ℕ) → (nat_le a k && nat_lt k (a + n)) ≡ true → (a ≤ k) × (k < a + n)
from_inside a n k h = (le (nat_le a k) refl, lt (nat_lt k (a + n)) refl)
  where
    both : (nat_le a k ≡ true) × (nat_lt k (a + n) ≡ true)
    both = (and_left (nat_le a k) (nat_lt k (a + n)) h, and_right (nat_le a k) (nat_lt k (a + n)) h)

    le : (b : Bool) → nat_le a k ≡ b → a ≤ k
    le b e = let x = both.0 in grind (arith, nat_tests)

    lt : (b : Bool) → nat_lt k (a + n) ≡ b → k < a + n
    lt b e = let x = both.1 in grind (arith, nat_tests)

shared_point : (x y : ModelArea) (pointer : Bool) (k : ℕ) → has x pointer k ≡ true → has y pointer k ≡ true → share x y ≡ true
shared_point (bit_area a n) (bit_area b m) false k h g =
    let p = from_inside a n k h in
    let q = from_inside b m k g in
    let p0 = p.0 in
    let p1 = p.1 in
    let q0 = q.0 in
    let q1 = q.1 in
    let s : a < b + m = omega arith in
    let t : b < a + n = omega arith in
    grind (arith, nat_tests)
shared_point (bit_area a n) (bit_area b m) true k h g = absurd (cc h)
shared_point (bit_area a n) (pointer_area j) false k h g = absurd (cc g)
shared_point (bit_area a n) (pointer_area j) true k h g = absurd (cc h)
shared_point (pointer_area i) (bit_area b m) false k h g = absurd (cc h)
shared_point (pointer_area i) (bit_area b m) true k h g = absurd (cc g)
shared_point (pointer_area i) (pointer_area j) false k h g = absurd (cc h)
shared_point (pointer_area i) (pointer_area j) true k h g = grind (arith, nat_tests)

no_shared_point : (x y : ModelArea) → is_wide x ≡ true → is_wide y ≡ true → ((pointer : Bool) (k : ℕ) → has y pointer k ≡ true → has x pointer k ≡ false) → share x y ≡ false
no_shared_point (bit_area a n) (bit_area b m) v w h = never_true (nat_lt a (b + m) && nat_lt b (a + n)) refute
  where
    refute : (nat_lt a (b + m) && nat_lt b (a + n)) ≡ true → ⊥
    refute e =
        let s : a < b + m = grind (arith, nat_tests) in
        let t : b < a + n = grind (arith, nat_tests) in
        let p : 0 < n = grind (arith, nat_tests) in
        let q : 0 < m = grind (arith, nat_tests) in
        let low : a ≤ max a b = omega arith in
        let high : max a b < a + n = omega arith in
        let low' : b ≤ max a b = omega arith in
        let high' : max a b < b + m = omega arith in
        cc (sym (h false (max a b) (inside b m (max a b) low' high')) ∙ inside a n (max a b) low high)
no_shared_point (bit_area a n) (pointer_area j) v w h = refl
no_shared_point (pointer_area i) (bit_area b m) v w h = refl
no_shared_point (pointer_area i) (pointer_area j) v w h = never_true (i == j) refute
  where
    itself : (n : ℕ) → (n == n) ≡ true
    itself n = grind arith

    refute : (i == j) ≡ true → ⊥
    refute e = cc (sym (h true j (itself j)) ∙ e)

-- ---- areas that share

shared_row : (x : ModelArea) (ys : List ModelArea) (pointer : Bool) (k : ℕ) → has x pointer k ≡ true → covers ys pointer k ≡ true → list_all (λ y. not (share x y)) ys ≡ false
shared_row x [] pointer k e f = absurd (cc f)
shared_row x (y ∷ ys) pointer k e f = cases (has y pointer k) refl (shared_row x ys pointer k e)
  where
    cases : (b : Bool) → has y pointer k ≡ b → (covers ys pointer k ≡ true → list_all (λ z. not (share x z)) ys ≡ false) → (not (share x y) && list_all (λ z. not (share x z)) ys) ≡ false
    cases true r more = ap (λ b. not b && list_all (λ z. not (share x z)) ys) (shared_point x y pointer k e r)
    cases false r more = and_right_false (not (share x y)) (list_all (λ z. not (share x z)) ys) (more (ap (λ b. b || covers ys pointer k) (sym r) ∙ f))

pub shared : (xs ys : List ModelArea) (pointer : Bool) (k : ℕ) → covers xs pointer k ≡ true → covers ys pointer k ≡ true → are_apart xs ys ≡ false
shared [] ys pointer k h g = absurd (cc h)
shared (x ∷ xs) ys pointer k h g = cases (has x pointer k) refl (λ more. shared xs ys pointer k more g)
  where
    cases : (b : Bool) → has x pointer k ≡ b → (covers xs pointer k ≡ true → are_apart xs ys ≡ false) → (list_all (λ y. not (share x y)) ys && are_apart xs ys) ≡ false
    cases true e more = ap (λ b. b && are_apart xs ys) (shared_row x ys pointer k e g)
    cases false e more = and_right_false (list_all (λ y. not (share x y)) ys) (are_apart xs ys) (more (ap (λ b. b || covers xs pointer k) (sym e) ∙ h))

apart_row : (x : ModelArea) (ys : List ModelArea) → is_wide x ≡ true → list_all is_wide ys ≡ true → ((pointer : Bool) (k : ℕ) → covers ys pointer k ≡ true → has x pointer k ≡ false) → list_all (λ y. not (share x y)) ys ≡ true
apart_row x [] v w h = refl
apart_row x (y ∷ ys) v w h =
    ap (λ b. not b && list_all (λ z. not (share x z)) ys) (no_shared_point x y v (and_left (is_wide y) (list_all is_wide ys) w) (λ pointer k e. h pointer k (or_left (has y pointer k) (covers ys pointer k) e)))
    ∙ apart_row x ys v (and_right (is_wide y) (list_all is_wide ys) w) (λ pointer k e. h pointer k (or_there (has y pointer k) (covers ys pointer k) e))

pub apart : (xs ys : List ModelArea) → list_all is_wide xs ≡ true → list_all is_wide ys ≡ true → ((pointer : Bool) (k : ℕ) → covers ys pointer k ≡ true → covers xs pointer k ≡ false) → are_apart xs ys ≡ true
apart [] ys v w h = refl
apart (x ∷ xs) ys v w h =
    ap (λ b. b && are_apart xs ys) (apart_row x ys (and_left (is_wide x) (list_all is_wide xs) v) w (λ pointer k e. or_left_false (has x pointer k) (covers xs pointer k) (h pointer k e)))
    ∙ apart xs ys (and_right (is_wide x) (list_all is_wide xs) v) w (λ pointer k e. or_right_false (has x pointer k) (covers xs pointer k) (h pointer k e))

-- ---- claims that clash

abbrev pub clash : Bool × List ModelArea → Bool × List ModelArea → Bool
clash c d = not ((c.0 && d.0) || are_apart c.1 d.1)

not_any : {A : Type 0} (p : A → Bool) (xs : List A) → list_all p xs ≡ not (list_any (λ x. not (p x)) xs)
not_any p [] = refl
not_any p (x ∷ xs) = by (p x) (not_any p xs)
  where
    by : (b : Bool) → list_all p xs ≡ not (list_any (λ y. not (p y)) xs) → (b && list_all p xs) ≡ not (not b || list_any (λ y. not (p y)) xs)
    by true more = more
    by false more = refl

pub apart_is_pairs : (cs : List (Bool × List ModelArea)) → claims_are_apart cs ≡ pairs clash cs
apart_is_pairs [] = refl
apart_is_pairs (c ∷ cs) =
    ap (λ b. b && claims_are_apart cs) (not_any (λ d. (c.0 && d.0) || are_apart c.1 d.1) cs)
    ∙ ap (λ b. not (list_any (clash c) cs) && b) (apart_is_pairs cs)

-- what a member or another field may not take
abbrev blocked : List (Bool × List ModelArea) → Bool → Bool → ℕ → Bool
blocked done member pointer k = list_any (λ d. not (d.0 && member) && covers d.1 pointer k) done

abbrev pub IsMarked : Marks → List (Bool × List ModelArea) → Type 0
IsMarked m done = (member pointer : Bool) (k : ℕ) → nat_lt (most_mark member) (mark_at m pointer k) ≡ blocked done member pointer k

abbrev pub AreWide : List (Bool × List ModelArea) → Type 0
AreWide done = list_all (λ c. list_all is_wide c.1) done ≡ true

none_clash : (x : Bool × List ModelArea) (done : List (Bool × List ModelArea)) → AreWide done → list_all is_wide x.1 ≡ true → ((pointer : Bool) (k : ℕ) → covers x.1 pointer k ≡ true → blocked done x.0 pointer k ≡ false) → list_any (λ d. clash d x) done ≡ false
none_clash x [] v w h = refl
none_clash x (d ∷ done) v w h =
    let first : clash d x ≡ false = by (d.0 && x.0) refl in
    ap (λ b. b || list_any (λ e. clash e x) done) first
    ∙ none_clash x done (and_right (list_all is_wide d.1) (list_all (λ c. list_all is_wide c.1) done) v) w (λ pointer k e. or_right_false (not (d.0 && x.0) && covers d.1 pointer k) (blocked done x.0 pointer k) (h pointer k e))
  where
    by : (b : Bool) → (d.0 && x.0) ≡ b → not ((d.0 && x.0) || are_apart d.1 x.1) ≡ false
    by true e = ap (λ b. not (b || are_apart d.1 x.1)) e
    by false e =
        ap (λ b. not ((d.0 && x.0) || b))
        (apart d.1 x.1 (and_left (list_all is_wide d.1) (list_all (λ c. list_all is_wide c.1) done) v) w
        (λ pointer k f. ap (λ b. not b && covers d.1 pointer k) (sym e) ∙ or_left_false (not (d.0 && x.0) && covers d.1 pointer k) (blocked done x.0 pointer k) (h pointer k f)))
        ∙ ap (λ b. not (b || true)) e

some_clash : (x : Bool × List ModelArea) (done : List (Bool × List ModelArea)) (pointer : Bool) (k : ℕ) → covers x.1 pointer k ≡ true → blocked done x.0 pointer k ≡ true → list_any (λ d. clash d x) done ≡ true
some_clash x [] pointer k h g = absurd (cc g)
some_clash x (d ∷ done) pointer k h g = by (not (d.0 && x.0) && covers d.1 pointer k) refl (some_clash x done pointer k h)
  where
    no : (b : Bool) → not b ≡ true → b ≡ false
    no false e = refl
    no true e = absurd (cc e)

    by : (b : Bool) → (not (d.0 && x.0) && covers d.1 pointer k) ≡ b → (blocked done x.0 pointer k ≡ true → list_any (λ e. clash e x) done ≡ true) → (clash d x || list_any (λ e. clash e x) done) ≡ true
    by true e more =
        let apart_members : (d.0 && x.0) ≡ false = no (d.0 && x.0) (and_left (not (d.0 && x.0)) (covers d.1 pointer k) e) in
        let same : are_apart d.1 x.1 ≡ false = shared d.1 x.1 pointer k (and_right (not (d.0 && x.0)) (covers d.1 pointer k) e) h in
        or_left (clash d x) (list_any (λ e. clash e x) done) (ap (λ b. not (b || are_apart d.1 x.1)) apart_members ∙ ap (λ b. not b) same)
    by false e more = or_there (clash d x) (list_any (λ e. clash e x) done) (more (ap (λ b. b || blocked done x.0 pointer k) (sym e) ∙ g))

pub allowed : (m : Marks) (x : Bool × List ModelArea) (done : List (Bool × List ModelArea)) → IsMarked m done → AreWide done → list_all is_wide x.1 ≡ true → AllowsAll m x.1 (most_mark x.0) → list_any (λ d. clash d x) done ≡ false
allowed m x done h v w a = none_clash x done v w (λ pointer k e. sym (h x.0 pointer k) ∙ low (most_mark x.0) (mark_at m pointer k) (a pointer k e))
  where
    low : (n k : ℕ) → k ≤ n → nat_lt n k ≡ false
    low n k g = grind (arith, nat_tests)

pub refused : (m : Marks) (x : Bool × List ModelArea) (done : List (Bool × List ModelArea)) → IsMarked m done → HasMarkAbove m x.1 (most_mark x.0) → list_any (λ d. clash d x) done ≡ true
refused m x done h r = some_clash x done r.pointer r.number r.covered (sym (h x.0 r.pointer r.number) ∙ high (most_mark x.0) (mark_at m r.pointer r.number) r.above)
  where
    high : (n k : ℕ) → n < k → nat_lt n k ≡ true
    high n k g = grind (arith, nat_tests)

-- ---- one claim more

raised : (member own : Bool) (v : ℕ) → nat_lt (most_mark member) (max (level_mark own) v) ≡ (nat_lt (most_mark member) v || not (own && member))
raised true true v = grind (arith, nat_tests)
raised true false v = grind (arith, nat_tests)
raised false true v = grind (arith, nat_tests)
raised false false v = grind (arith, nat_tests)

pub marked_more : (m n : Marks) (done : List (Bool × List ModelArea)) (x : Bool × List ModelArea) → IsMarked m done → MarksAreas m n x.1 (level_mark x.0) → IsMarked n (done ++ x ∷ [])
marked_more m n done x h p member pointer k =
    ap (nat_lt (most_mark member)) (p pointer k)
    ∙ by (covers x.1 pointer k) refl
    ∙ sym (list_any-append (λ d. not (d.0 && member) && covers d.1 pointer k) done (x ∷ []))
  where
    or_false : (b : Bool) → (b || false) ≡ b
    or_false true = refl
    or_false false = refl

    and_true : (b : Bool) → (b && true) ≡ b
    and_true true = refl
    and_true false = refl

    and_right_false : (b : Bool) → (b && false) ≡ false
    and_right_false true = refl
    and_right_false false = refl

    by : (b : Bool) → covers x.1 pointer k ≡ b → nat_lt (most_mark member) (elim b as (λ (t : Bool). ℕ) [ true ↦ max (level_mark x.0) (mark_at m pointer k) | false ↦ mark_at m pointer k ]) ≡ (blocked done member pointer k || ((not (x.0 && member) && covers x.1 pointer k) || false))
    by true e =
        raised member x.0 (mark_at m pointer k)
        ∙ ap (λ b. b || not (x.0 && member)) (h member pointer k)
        ∙ ap (λ b. blocked done member pointer k || b) (sym (or_false (not (x.0 && member) && covers x.1 pointer k) ∙ ap (λ b. not (x.0 && member) && b) e ∙ and_true (not (x.0 && member))))
    by false e =
        h member pointer k
        ∙ sym (or_false (blocked done member pointer k))
        ∙ ap (λ b. blocked done member pointer k || b) (sym (or_false (not (x.0 && member) && covers x.1 pointer k) ∙ ap (λ b. not (x.0 && member) && b) e ∙ and_right_false (not (x.0 && member))))

pub nothing_marked : (m : Marks) → ((pointer : Bool) (k : ℕ) → mark_at m pointer k ≡ 0) → IsMarked m []
nothing_marked m h true pointer k = ap (nat_lt 1) (h pointer k)
nothing_marked m h false pointer k = ap (nat_lt 0) (h pointer k)

-- ---- areas are wide

wide_area : (a : Area) → list_all is_wide (areas_in a) ≡ true
wide_area A.Empty = refl
wide_area (A.Bits s) = let w = s.wide in grind (arith, nat_tests)
wide_area (A.Pointer i) = refl

pub wide_areas : (as' : List Area) → list_all is_wide (areas_seen as') ≡ true
wide_areas as' = list_all-flat_map is_wide areas_in as' ∙ each as'
  where
    each : (bs : List Area) → list_all (λ a. list_all is_wide (areas_in a)) bs ≡ true
    each [] = refl
    each (b ∷ bs) = ap (λ t. t && list_all (λ a. list_all is_wide (areas_in a)) bs) (wide_area b) ∙ each bs
