-- The places where tests pass, and the first of two.
use Rattle.std.proofs.Common.{◌≡◌, ℕ, suc, ◌+◌, ◌<◌, ◌≤◌, Bool, true, false, ◌||◌, if◌then◌else◌, min, Option, Some, None, List, [], ◌∷◌, map, length, find, get_or, slice_get, string_bytes, refl, ◌∙◌, ap, arith}
use Rattle.std.specs.Str.{bytes_eq}
use Rattle.capnp_records.specs.NodeViews.{field_of}
use Rattle.capnp_records.specs.declared.node.FieldRecord.{FieldRecord}
use Rattle.capnp_values_queries.specs.Names.{place_named}
use Rattle.capnp_values_queries.proofs.lemmas.Records.{item_there}
use Rattle.capnp_calls_versions.specs.Ways.{earlier}

-- the place of the first that passes a test, from a place on
abbrev pub place_where : {A : Type 0} → (A → Bool) → ℕ → List A → Option ℕ
place_where p i [] = None
place_where p i (x ∷ xs) = if p x then Some i else place_where p (suc i) xs

-- what stands at the place that is found
pub record PlacedAt {A : Type 0} (p : A → Bool) (xs : List A) (i k : ℕ) : Type 0 where
  pub steps : ℕ
  pub place : k ≡ i + steps
  pub inside : steps < length xs
  pub found : find p xs ≡ slice_get xs steps

pub placed : {A : Type 0} (p : A → Bool) (i k : ℕ) (xs : List A) → place_where p i xs ≡ Some k → PlacedAt p xs i k
placed p i k [] h = absurd (cc h)
placed p i k (x ∷ xs) h = by (p x) refl (placed p (suc i) k xs) h
  where
    by : (b : Bool) → p x ≡ b → (place_where p (suc i) xs ≡ Some k → PlacedAt p xs (suc i) k) → (if b then Some i else place_where p (suc i) xs) ≡ Some k → PlacedAt p (x ∷ xs) i k
    by true e more q = let is : i ≡ k = cc q in record { steps = 0; place = omega (arith, is); inside = omega arith; found = ap (λ b. if b then Some x else find p xs) e }
    by false e more q = let r = more q in let place = r.place in let inside = r.inside in record { steps = suc r.steps; place = omega (arith, place); inside = omega (arith, inside); found = ap (λ b. if b then Some x else find p xs) e ∙ r.found }

pub placed_inside : {A : Type 0} (p : A → Bool) (k : ℕ) (xs : List A) → place_where p 0 xs ≡ Some k → k < length xs
placed_inside p k xs h = let r = placed p 0 k xs h in let place = r.place in let inside = r.inside in omega (arith, place, inside)

pub placed_item : {A : Type 0} (p : A → Bool) (k : ℕ) (xs : List A) (d : A) → place_where p 0 xs ≡ Some k → find p xs ≡ Some (get_or xs k d)
placed_item p k xs d h =
    let r = placed p 0 k xs h in
    let place = r.place in
    let same : r.steps ≡ k = omega (arith, place) in
    r.found ∙ ap (slice_get xs) same ∙ item_there xs k d (placed_inside p k xs h)

pub not_placed : {A : Type 0} (p : A → Bool) (i : ℕ) (xs : List A) → place_where p i xs ≡ None → find p xs ≡ None
not_placed p i [] h = refl
not_placed p i (x ∷ xs) h = by (p x) (not_placed p (suc i) xs) h
  where
    by : (b : Bool) → (place_where p (suc i) xs ≡ None → find p xs ≡ None) → (if b then Some i else place_where p (suc i) xs) ≡ None → (if b then Some x else find p xs) ≡ None
    by true more k = absurd (cc k)
    by false more k = more k

pub same_places : {A : Type 0} (p q : A → Bool) (i : ℕ) (xs : List A) → ((x : A) → p x ≡ q x) → place_where p i xs ≡ place_where q i xs
same_places p q i [] h = refl
same_places p q i (x ∷ xs) h = ap (λ b. if b then Some i else place_where p (suc i) xs) (h x) ∙ ap (λ o. if q x then Some i else o) (same_places p q (suc i) xs h)

pub no_place : {A : Type 0} (p : A → Bool) (i : ℕ) (xs : List A) → ((x : A) → p x ≡ false) → place_where p i xs ≡ None
no_place p i [] h = refl
no_place p i (x ∷ xs) h = ap (λ b. if b then Some i else place_where p (suc i) xs) (h x) ∙ no_place p (suc i) xs h

-- ---- names

pub name_place : (name : List ℕ) (i : ℕ) (fs : List FieldRecord) → place_named name i (map field_of fs) ≡ place_where (λ f. bytes_eq (string_bytes f.name) name) i fs
name_place name i [] = refl
name_place name i (f ∷ fs) = ap (λ o. if bytes_eq (string_bytes f.name) name then Some i else o) (name_place name (suc i) fs)

-- ---- two tests

first_here : (i : ℕ) (o : Option ℕ) → ((j : ℕ) → o ≡ Some j → i ≤ j) → Some i ≡ earlier (Some i) o
first_here i None h = refl
first_here i (Some j) h = let le : i ≤ j = h j refl in let same : i ≡ min i j = omega (arith, le) in ap (λ k. Some k) same

second_here : (i : ℕ) (o : Option ℕ) → ((j : ℕ) → o ≡ Some j → i ≤ j) → Some i ≡ earlier o (Some i)
second_here i None h = refl
second_here i (Some j) h = let le : i ≤ j = h j refl in let same : i ≡ min j i = omega (arith, le) in ap (λ k. Some k) same

beyond : {A : Type 0} (p : A → Bool) (i j : ℕ) (xs : List A) → place_where p (suc i) xs ≡ Some j → i ≤ j
beyond p i j xs h = let r = placed p (suc i) j xs h in let place = r.place in omega (arith, place)

pub either_place : {A : Type 0} (p q : A → Bool) (i : ℕ) (xs : List A) → place_where (λ x. p x || q x) i xs ≡ earlier (place_where p i xs) (place_where q i xs)
either_place p q i [] = refl
either_place p q i (x ∷ xs) = by (p x) (q x) (either_place p q (suc i) xs)
  where
    by : (a b : Bool) → place_where (λ y. p y || q y) (suc i) xs ≡ earlier (place_where p (suc i) xs) (place_where q (suc i) xs)
        → (if (a || b) then Some i else place_where (λ y. p y || q y) (suc i) xs) ≡ earlier (if a then Some i else place_where p (suc i) xs) (if b then Some i else place_where q (suc i) xs)
    by true true more = first_here i (Some i) (λ j e. let is : i ≡ j = cc e in omega (arith, is))
    by true false more = first_here i (place_where q (suc i) xs) (λ j e. beyond q i j xs e)
    by false true more = second_here i (place_where p (suc i) xs) (λ j e. beyond p i j xs e)
    by false false more = more
