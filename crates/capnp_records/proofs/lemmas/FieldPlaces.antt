-- Tables of places, built from the back or from the front.
use Rattle.std.proofs.Common.{◌≡◌, ℕ, zero, suc, ◌+◌, ◌<◌, ◌≤◌, ◌==◌, Bool, true, false, if◌then◌else◌, Option, Some, None, List, [], ◌∷◌, map, length, drop, set, get_or, slice_get, drop-cons, refl, sym, ◌∙◌, ap, arith}
use Rattle.std.specs.List.{list_all}
use Rattle.std.proofs.lemmas.List.{get_or-set_same, get_or-set_other}
use Rattle.std.proofs.lemmas.Bool.Decides.{nat_tests}
use Rattle.capnp_model.specs.Schemas.{Field, Node}
use Rattle.capnp_model.specs.Accepted.{find_node}
use Rattle.capnp_model.proofs.lemmas.Tests.{and_left, and_right}
use Rattle.capnp_records.specs.NodeViews.{field_of, node_of}
use Rattle.capnp_records.specs.Tables.{is_member_at, place_from, members_from, others_from, node_place}
use Rattle.capnp_records.specs.declared.node.FieldRecord.{FieldRecord}
use Rattle.capnp_records.specs.declared.node.NodeRecord.{NodeRecord}

-- a table of the right length with the right places is the table
pub table_is : (fs : List Field) (d n : ℕ) (xs : List ℕ) → length xs ≡ n → ((k : ℕ) → k < n → get_or xs k 0 ≡ place_from (d + k) 0 fs) → xs ≡ members_from fs d n
table_is fs d zero [] len h = refl
table_is fs d zero (x ∷ xs) len h = absurd (omega arith)
table_is fs d (suc n) [] len h = absurd (omega arith)
table_is fs d (suc n) (x ∷ xs) len h =
    let at : d + 0 ≡ d = omega arith in
    let first : x ≡ place_from d 0 fs = h 0 (omega arith) ∙ ap (λ k. place_from k 0 fs) at in
    ap (λ y. y ∷ xs) first
    ∙ ap (λ ys. place_from d 0 fs ∷ ys) (table_is fs (suc d) n xs (omega arith) (λ k lt. let next : d + suc k ≡ suc d + k = omega arith in h (suc k) (omega arith) ∙ ap (λ j. place_from j 0 fs) next))

member_test : (b : Bool) (d v : ℕ) → (v == 65535) ≡ b → d < 65535 → (elim (if b then None else Some v) as (λ (o : Option ℕ). Bool) [ None ↦ false | Some m ↦ m == d ]) ≡ (v == d)
member_test true d v e lt = grind (arith, nat_tests)
member_test false d v e lt = refl

-- the test of a field by the number that its record has
pub member_is : (f : FieldRecord) (d : ℕ) → d < 65535 → is_member_at d (field_of f) ≡ (f.discriminant_value == d)
member_is f d lt = member_test (f.discriminant_value == 65535) d f.discriminant_value refl lt

one_back : (fs : List FieldRecord) (left d : ℕ) (x : FieldRecord) → left < length fs → x ≡ get_or fs left x → place_from d left (map field_of (drop left fs)) ≡ (if is_member_at d (field_of x) then left else place_from d (suc left) (map field_of (drop (suc left) fs)))
one_back fs left d x lt e = ap (λ ys. place_from d left (map field_of ys)) (drop-cons fs left x lt ∙ ap (λ y. y ∷ drop (suc left) fs) (sym e))

-- a member's place is put in
pub put_member : (fs : List FieldRecord) (left d v count : ℕ) (x : FieldRecord) (xs : List ℕ) → left < length fs → x ≡ get_or fs left x → x.discriminant_value ≡ v → v < count → count ≤ 65535 → length xs ≡ count → d < count
    → get_or xs d 0 ≡ place_from d (suc left) (map field_of (drop (suc left) fs)) → get_or (set xs v left) d 0 ≡ place_from d left (map field_of (drop left fs))
put_member fs left d v count x xs lt e is small few len below h =
    by (v == d) refl
  where
    here : (b : Bool) → (v == d) ≡ b → place_from d left (map field_of (drop left fs)) ≡ (if b then left else place_from d (suc left) (map field_of (drop (suc left) fs)))
    here b q = one_back fs left d x lt e ∙ ap (λ t. if t then left else place_from d (suc left) (map field_of (drop (suc left) fs))) (member_is x d (omega arith) ∙ ap (λ y. y == d) is ∙ q)

    by : (b : Bool) → (v == d) ≡ b → get_or (set xs v left) d 0 ≡ place_from d left (map field_of (drop left fs))
    by true q = let same : v ≡ d = grind arith in ap (λ k. get_or (set xs v left) k 0) (sym same) ∙ get_or-set_same xs v left 0 (omega (arith, small, len)) ∙ sym (here true q)
    by false q = get_or-set_other xs v d left 0 (λ k. let no : (v == d) ≡ true = grind (arith, nat_tests) in absurd (cc (sym no ∙ q))) ∙ h ∙ sym (here false q)

-- another field is passed over
pub pass_member : (fs : List FieldRecord) (left d v count : ℕ) (x : FieldRecord) → left < length fs → x ≡ get_or fs left x → x.discriminant_value ≡ v → count ≤ v → count ≤ 65535 → d < count
    → place_from d (suc left) (map field_of (drop (suc left) fs)) ≡ place_from d left (map field_of (drop left fs))
pass_member fs left d v count x lt e is large few below =
    let no : (v == d) ≡ false = grind (arith, nat_tests) in
    sym (one_back fs left d x lt e ∙ ap (λ t. if t then left else place_from d (suc left) (map field_of (drop (suc left) fs))) (member_is x d (omega arith) ∙ ap (λ y. y == d) is ∙ no))

-- ---- the other fields

other_test : (b : Bool) (i v : ℕ) (rest : List ℕ) → (v == 65535) ≡ b → (elim (if b then None else Some v) as (λ (o : Option ℕ). List ℕ) [ None ↦ i ∷ rest | Some m ↦ rest ]) ≡ (if b then i ∷ rest else rest)
other_test true i v rest e = refl
other_test false i v rest e = refl

pub next_other : (fs : List FieldRecord) (i : ℕ) (x : FieldRecord) (b : Bool) → i < length fs → x ≡ get_or fs i x → (x.discriminant_value == 65535) ≡ b
    → others_from i (map field_of (drop i fs)) ≡ (if b then i ∷ others_from (suc i) (map field_of (drop (suc i) fs)) else others_from (suc i) (map field_of (drop (suc i) fs)))
next_other fs i x b lt e is =
    ap (λ ys. others_from i (map field_of ys)) (drop-cons fs i x lt ∙ ap (λ y. y ∷ drop (suc i) fs) (sym e))
    ∙ other_test (x.discriminant_value == 65535) i x.discriminant_value (others_from (suc i) (map field_of (drop (suc i) fs))) refl
    ∙ ap (λ t. if t then i ∷ others_from (suc i) (map field_of (drop (suc i) fs)) else others_from (suc i) (map field_of (drop (suc i) fs))) is

-- ---- nodes by id

pub node_back : (ns : List NodeRecord) (left id : ℕ) (x : NodeRecord) → left < length ns → x ≡ get_or ns left x → node_place id left (map node_of (drop left ns)) ≡ (if x.id == id then Some left else node_place id (suc left) (map node_of (drop (suc left) ns)))
node_back ns left id x lt e = ap (λ ys. node_place id left (map node_of ys)) (drop-cons ns left x lt ∙ ap (λ y. y ∷ drop (suc left) ns) (sym e))

pub no_node : (id i : ℕ) (ns : List Node) → node_place id i ns ≡ None → find_node ns id ≡ None
no_node id i [] h = refl
no_node id i (n ∷ ns) h = by (n.id == id) (no_node id (suc i) ns) h
  where
    by : (b : Bool) → (node_place id (suc i) ns ≡ None → find_node ns id ≡ None) → (if b then Some i else node_place id (suc i) ns) ≡ None → (if b then Some n else find_node ns id) ≡ None
    by true more k = absurd (cc k)
    by false more k = more k

pub record PlacedNode (ns : List Node) (id i k : ℕ) : Type 0 where
  pub steps : ℕ
  pub place : k ≡ i + steps
  pub inside : steps < length ns
  pub found : find_node ns id ≡ slice_get ns steps

pub node_placed : (id i k : ℕ) (ns : List Node) → node_place id i ns ≡ Some k → PlacedNode ns id i k
node_placed id i k [] h = absurd (cc h)
node_placed id i k (n ∷ ns) h = by (n.id == id) refl (node_placed id (suc i) k ns) h
  where
    by : (b : Bool) → (n.id == id) ≡ b → (node_place id (suc i) ns ≡ Some k → PlacedNode ns id (suc i) k) → (if b then Some i else node_place id (suc i) ns) ≡ Some k → PlacedNode (n ∷ ns) id i k
    by true e more q = let is : i ≡ k = cc q in record { steps = 0; place = omega (arith, is); inside = omega arith; found = ap (λ b. if b then Some n else find_node ns id) e }
    by false e more q = let p = more q in let place = p.place in let inside = p.inside in record { steps = suc p.steps; place = omega (arith, place); inside = omega (arith, inside); found = ap (λ b. if b then Some n else find_node ns id) e ∙ p.found }

-- ---- what stands at places

-- what all pass, the one at a place does
pub all_at : {A B : Type 0} (f : A → B) (test : B → Bool) (xs : List A) (i : ℕ) (x : A) → i < length xs → x ≡ get_or xs i x → list_all test (map f xs) ≡ true → test (f x) ≡ true
all_at f test [] i x lt e h = absurd (omega arith)
all_at f test (y ∷ ys) zero x lt e h = ap (λ z. test (f z)) e ∙ and_left (test (f y)) (list_all test (map f ys)) h
all_at f test (y ∷ ys) (suc i) x lt e h = all_at f test ys i x (omega arith) e (and_right (test (f y)) (list_all test (map f ys)) h)

-- lists of two kinds that map to one have the same length
pub same_length : {A B C : Type 0} (f : A → C) (g : B → C) (xs : List A) (ys : List B) → map f xs ≡ map g ys → length xs ≡ length ys
same_length f g [] [] h = refl
same_length f g [] (y ∷ ys) h = absurd (cc h)
same_length f g (x ∷ xs) [] h = absurd (cc h)
same_length f g (x ∷ xs) (y ∷ ys) h = let tails : map f xs ≡ map g ys = cc in let more = same_length f g xs ys tails in omega (arith, more)

-- and the same items at a place
pub same_at : {A B C : Type 0} (f : A → C) (g : B → C) (xs : List A) (ys : List B) (i : ℕ) (x : A) (y : B) → map f xs ≡ map g ys → i < length xs → x ≡ get_or xs i x → slice_get ys i ≡ Some y → f x ≡ g y
same_at f g [] ys i x y h lt e k = absurd (omega arith)
same_at f g (a ∷ xs) [] zero x y h lt e k = absurd (cc k)
same_at f g (a ∷ xs) [] (suc i) x y h lt e k = absurd (cc k)
same_at f g (a ∷ xs) (b ∷ ys) zero x y h lt e k =
    let heads : f a ≡ g b = cc in
    let right : b ≡ y = cc in
    ap f e ∙ heads ∙ ap g right
same_at f g (a ∷ xs) (b ∷ ys) (suc i) x y h lt e k = let tails : map f xs ≡ map g ys = cc in same_at f g xs ys i x y tails (omega arith) e k

pub in_range : {A : Type 0} (ys : List A) (i : ℕ) (y : A) → slice_get ys i ≡ Some y → i < length ys
in_range [] zero y h = absurd (cc h)
in_range [] (suc i) y h = absurd (cc h)
in_range (x ∷ ys) zero y h = omega arith
in_range (x ∷ ys) (suc i) y h = let more = in_range ys i y h in omega (arith, more)

pub get_at : {A B : Type 0} (f : A → B) (xs : List A) (i : ℕ) (x : A) → i < length xs → x ≡ get_or xs i x → slice_get (map f xs) i ≡ Some (f x)
get_at f [] i x lt e = absurd (omega arith)
get_at f (y ∷ ys) zero x lt e = ap (λ z. Some (f z)) (sym e)
get_at f (y ∷ ys) (suc i) x lt e = get_at f ys i x (omega arith) e

pub length_mapped : {A B : Type 0} (f : A → B) (xs : List A) → length (map f xs) ≡ length xs
length_mapped f [] = refl
length_mapped f (x ∷ xs) = let h = length_mapped f xs in omega (arith, h)

pub placed_inside : (ns : List NodeRecord) (id place : ℕ) → PlacedNode (map node_of ns) id 0 place → place < length ns
placed_inside ns id place p = let a = p.place in let b = p.inside in let l = length_mapped node_of ns in omega (arith, a, b, l)

pub placed_found : (ns : List NodeRecord) (id place : ℕ) (x : NodeRecord) → PlacedNode (map node_of ns) id 0 place → x ≡ get_or ns place x → find_node (map node_of ns) id ≡ Some (node_of x)
placed_found ns id place x p e =
    let a = p.place in
    let same : p.steps ≡ place = omega (arith, a) in
    p.found ∙ ap (slice_get (map node_of ns)) same ∙ get_at node_of ns place x (placed_inside ns id place p) e
