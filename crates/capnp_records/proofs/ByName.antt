-- What a sort of fields' names with their places gives.
use Rattle.std.proofs.Common.{◌≡◌, ℕ, zero, suc, ◌+◌, ◌<◌, ◌==◌, nat_lt, Bool, true, false, ◌||◌, Some, List, [], ◌∷◌, ◌++◌, map, length, take, get_or, slice_get, Bor, Ordering, Less, Equal, Greater, refl, sym, ◌∙◌, ap, subst, arith}
use Rattle.std.specs.List.{list_all, list_any, All, Contains}
use Rattle.std.specs.List.Sorted.{IsPermutation, IsSorted}
use Rattle.std.specs.Ordering.{is_lt, nat_cmp, ordering_then}
use Rattle.std.specs.Cmp.Lexicographic.{slice_cmp}
use Rattle.std.proofs.lemmas.List.{get_or-map, map_more}
use Rattle.std.proofs.lemmas.List.Sorted.{IsPermutation-map, length_permutation, All-permutation, Contains-permutation}
use Rattle.std.proofs.lemmas.Bool.Decides.{nat_tests}
use Rattle.capnp_model.specs.Schemas.{Field, Node}
use Rattle.capnp_model.specs.Accepted.{fields_of_kind}
use Rattle.capnp_model.proofs.lemmas.Tests.{both, number_is}
use Rattle.capnp_records.specs.NodeViews.{node_of}
use Rattle.capnp_records.specs.Tables.{name_at, named_from, AreByName, AreNodesByName}
use Rattle.capnp_records.specs.declared.node.NodeRecord.{NodeRecord}
use Rattle.capnp_records.specs.declared.tables.FieldTables.{FieldTables}
use Rattle.capnp_records.proofs.lemmas.FieldPlaces.{length_mapped, in_range}

-- ---- tests of lists by their places

all_from : {A : Type 0} (test : A → Bool) (xs : List A) → ((k : ℕ) (d : A) → k < length xs → test (get_or xs k d) ≡ true) → list_all test xs ≡ true
all_from test [] h = refl
all_from test (x ∷ xs) h = both (test x) (list_all test xs) (h 0 x (omega arith)) (all_from test xs (λ k d lt. h (suc k) d (omega arith)))

any_from : {A : Type 0} (test : A → Bool) (xs : List A) (k : ℕ) (d : A) → k < length xs → test (get_or xs k d) ≡ true → list_any test xs ≡ true
any_from test [] k d lt h = absurd (omega arith)
any_from test (x ∷ xs) zero d lt h = ap (λ b. b || list_any test xs) h
any_from test (x ∷ xs) (suc k) d lt h = by (test x) (any_from test xs k d (omega arith) h)
  where
    by : (b : Bool) → list_any test xs ≡ true → (b || list_any test xs) ≡ true
    by true e = refl
    by false e = e

map_twice : {A B C : Type 0} (f : A → B) (g : B → C) (xs : List A) → map g (map f xs) ≡ map (λ x. g (f x)) xs
map_twice f g [] = refl
map_twice f g (x ∷ xs) = ap (λ ys. g (f x) ∷ ys) (map_twice f g xs)

-- ---- names with their places

length_named : (i : ℕ) (fs : List Field) → length (named_from i fs) ≡ length fs
length_named i [] = refl
length_named i (f ∷ fs) = let h = length_named (suc i) fs in omega (arith, h)

named_at : (fs : List Field) (i k : ℕ) (d : List ℕ × ℕ) → k < length fs → get_or (named_from i fs) k d ≡ (name_at fs k, i + k)
named_at [] i k d lt = absurd (omega arith)
named_at (f ∷ fs) i zero d lt = let same : i ≡ i + 0 = omega arith in ap (λ j. (f.name, j)) same
named_at (f ∷ fs) i (suc k) d lt = let next : suc i + k ≡ i + suc k = omega arith in named_at fs (suc i) k d (omega arith) ∙ ap (λ j. (name_at fs k, j)) next

-- the name is that of the field at the place
abbrev Names : List Field → List ℕ × ℕ → Type 0
Names fs n = (n.0 ≡ name_at fs n.1) × (n.1 < length fs)

all_named : (fs : List Field) → All (Names fs) (named_from 0 fs)
all_named fs k d lt =
    let long = length_named 0 fs in
    let inside : k < length fs = omega (arith, lt, long) in
    let same : k ≡ 0 + k = omega arith in
    subst (Names fs) (sym (named_at fs 0 k d inside)) (ap (name_at fs) same, omega (arith, inside))

each_named : (fs : List Field) (i : ℕ) → i < length fs → Contains (named_from 0 fs) (name_at fs i, i)
each_named fs i lt =
    let long = length_named 0 fs in
    let same : 0 + i ≡ i = omega arith in
    (i, omega (arith, lt, long), named_at fs 0 i (name_at fs i, i) lt ∙ ap (λ j. (name_at fs i, j)) same)

-- ---- sorted

-- by name, and those of one name by place
abbrev pub before : List ℕ × ℕ → List ℕ × ℕ → Ordering
before x y = ordering_then (slice_cmp nat_cmp x.0 y.0) (nat_cmp x.1 y.1)

abbrev pub seen : Bor (List ℕ) × ℕ → List ℕ × ℕ
seen n = (n.0.now, n.1)

first_decides : (a b : Ordering) → is_lt (ordering_then a b) ≡ false → is_lt a ≡ false
first_decides Less b h = h
first_decides Equal b h = refl
first_decides Greater b h = refl

sorted_seen : (xs : List (Bor (List ℕ) × ℕ)) → IsSorted (λ x y. before (seen x) (seen y)) xs → IsSorted before (map seen xs)
sorted_seen [] h k d low lt = absurd (omega arith)
sorted_seen (x ∷ xs) h k d low lt =
    let ys = x ∷ xs in
    let long = length_mapped seen ys in
    let inside : k + 1 < length ys = omega (arith, lt, long) in
    ap (λ y. is_lt (before y (get_or (map seen ys) k d))) (get_or-map seen ys (k + 1) x d inside)
    ∙ ap (λ y. is_lt (before (seen (get_or ys (k + 1) x)) y)) (get_or-map seen ys k x d (omega (arith, inside)))
    ∙ h k x low inside

sorted_named : (fs : List Field) (ms : List (List ℕ × ℕ)) → IsPermutation (named_from 0 fs) ms → IsSorted before ms → AreByName fs (map (λ n. n.1) ms)
sorted_named fs ms moved sorted =
    record {
      count = long ∙ length_permutation (named_from 0 fs) ms moved ∙ length_named 0 fs;
      inside = all_from (λ i. nat_lt i (length fs)) (map (λ n. n.1) ms) (λ k d lt. let here = place_at k d lt in let low = (names k ([], 0) (omega (arith, lt, long))).1 in grind (arith, nat_tests));
      every = λ i lt. let c = Contains-permutation (named_from 0 fs) ms (name_at fs i, i) moved (each_named fs i lt) in let lower : c.0 < length (map (λ (n : List ℕ × ℕ). n.1) ms) = omega (arith, c.1, long) in
          any_from (λ j. j == i) (map (λ n. n.1) ms) c.0 i lower (ap (λ j. j == i) (get_or-map (λ (n : List ℕ × ℕ). n.1) ms c.0 (name_at fs i, i) i c.1 ∙ ap (λ (n : List ℕ × ℕ). n.1) c.2) ∙ number_is i);
      ascending = λ k d low lt.
          let inside : k + 1 < length ms = omega (arith, lt, long) in
          let a = get_or ms (k + 1) ([], 0) in
          let b = get_or ms k ([], 0) in
          ap (λ i. is_lt (slice_cmp nat_cmp (name_at fs i) (name_at fs (get_or (map (λ (n : List ℕ × ℕ). n.1) ms) k d)))) (place_at (k + 1) d lt)
          ∙ ap (λ i. is_lt (slice_cmp nat_cmp (name_at fs a.1) (name_at fs i))) (place_at k d (omega (arith, lt)))
          ∙ ap (λ name. is_lt (slice_cmp nat_cmp name (name_at fs b.1))) (sym (names (k + 1) ([], 0) inside).0)
          ∙ ap (λ name. is_lt (slice_cmp nat_cmp a.0 name)) (sym (names k ([], 0) (omega (arith, inside))).0)
          ∙ first_decides (slice_cmp nat_cmp a.0 b.0) (nat_cmp a.1 b.1) (sorted k ([], 0) low inside);
    }
  where
    long : length (map (λ (n : List ℕ × ℕ). n.1) ms) ≡ length ms
    long = length_mapped (λ (n : List ℕ × ℕ). n.1) ms

    names : All (Names fs) ms
    names = All-permutation (Names fs) (named_from 0 fs) ms moved (all_named fs)

    place_at : (k d : ℕ) → k < length (map (λ (n : List ℕ × ℕ). n.1) ms) → get_or (map (λ (n : List ℕ × ℕ). n.1) ms) k d ≡ (get_or ms k ([], 0)).1
    place_at k d lt = get_or-map (λ (n : List ℕ × ℕ). n.1) ms k ([], 0) d (omega (arith, lt, long))

pub by_name : (fs : List Field) (old new : List (Bor (List ℕ) × ℕ)) (places : List ℕ) → map seen old ≡ named_from 0 fs → IsPermutation old new → IsSorted (λ x y. before (seen x) (seen y)) new → places ≡ map (λ n. n.1) new → AreByName fs places
by_name fs old new places named moved sorted are =
    subst (AreByName fs) (map_twice seen (λ n. n.1) new ∙ sym are)
    (sorted_named fs (map seen new) (subst (λ ms. IsPermutation ms (map seen new)) named (IsPermutation-map seen old new moved)) (sorted_seen new sorted))

-- ---- node by node

both_one_more : {A B : Type 0} (holds : A → B → Type 0) (xs : List A) (ys : List B) (a : A) (b : B) → length xs ≡ length ys → ((k : ℕ) (x : A) (y : B) → slice_get xs k ≡ Some x → slice_get ys k ≡ Some y → holds x y) → holds a b
    → (k : ℕ) (x : A) (y : B) → slice_get (xs ++ a ∷ []) k ≡ Some x → slice_get (ys ++ b ∷ []) k ≡ Some y → holds x y
both_one_more holds [] (z ∷ ys) a b same h new k x y at on = absurd (omega arith)
both_one_more holds (z ∷ xs) [] a b same h new k x y at on = absurd (omega arith)
both_one_more holds [] [] a b same h new zero x y at on =
    let left : a ≡ x = cc at in
    let right : b ≡ y = cc on in
    subst (λ z. holds z y) left (subst (holds a) right new)
both_one_more holds [] [] a b same h new (suc k) x y at on = let none = in_range [] k x at in absurd (omega (arith, none))
both_one_more holds (z ∷ xs) (w ∷ ys) a b same h new zero x y at on = h 0 x y at on
both_one_more holds (z ∷ xs) (w ∷ ys) a b same h new (suc k) x y at on = both_one_more holds xs ys a b (omega arith) (λ j. h (suc j)) new k x y at on

pub node_more : (nodes : List NodeRecord) (ts now : List FieldTables) (i : ℕ) (x : NodeRecord) (t : FieldTables) → i < length nodes → x ≡ get_or nodes i x → length ts ≡ length (map node_of (take i nodes)) → now ≡ ts ++ t ∷ []
    → AreNodesByName (map node_of (take i nodes)) ts → AreByName (fields_of_kind (node_of x).kind) t.by_name.items → AreNodesByName (map node_of (take (i + 1) nodes)) now
node_more nodes ts now i x t lt is long put before new k n s at on =
    both_one_more (λ (m : Node) (u : FieldTables). AreByName (fields_of_kind m.kind) u.by_name.items) (map node_of (take i nodes)) ts (node_of x) t (sym long) before new k n s
    (ap (λ ns. slice_get ns k) (ap (λ y. map node_of (take i nodes) ++ node_of y ∷ []) is ∙ sym (map_more node_of nodes i x lt)) ∙ at)
    (ap (λ us. slice_get us k) (sym put) ∙ on)
