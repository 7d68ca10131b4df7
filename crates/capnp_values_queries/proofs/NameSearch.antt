-- A binary search among names.
use Rattle.std.proofs.Common.{◌≡◌, ℕ, zero, suc, ◌+◌, ◌-◌, ◌<◌, ◌≤◌, ◌==◌, ◌^◌, nat_lt, Bool, true, false, not, ◌||◌, if◌then◌else◌, Option, Some, None, List, [], ◌∷◌, map, length, get_or, string_bytes, Ordering, Less, Equal, Greater, refl, sym, ◌∙◌, ap, arith}
use Rattle.std.specs.List.{list_all, list_any}
use Rattle.std.specs.List.Sorted.{IsNonDecreasingBy}
use Rattle.std.specs.Str.{bytes_eq}
use Rattle.std.specs.Ordering.{nat_cmp, is_eq, ordering_index}
use Rattle.std.specs.Cmp.Lexicographic.{slice_cmp}
use Rattle.std.proofs.Math.Pow.{pow_mono}
use Rattle.std.proofs.lemmas.Cmp.{nat_list_cmp_total}
use Rattle.std.proofs.lemmas.List.Sorted.{searchable_from_sorted}
use Rattle.std.proofs.lemmas.Map.Text.{is_eq-slice_cmp}
use Rattle.std.proofs.lemmas.Slice.Eq.{bytes_eq-Decides}
use Rattle.std.proofs.lemmas.Bool.Decides.{nat_tests}
use Rattle.capnp_model.specs.Schemas.{Field}
use Rattle.capnp_model.specs.Accepted.{are_distinct}
use Rattle.capnp_model.proofs.lemmas.Tests.{same_number, not_true, and_left, and_right, never_true}
use Rattle.capnp_records.specs.Tables.{name_at, AreByName}
use Rattle.capnp_records.specs.NodeViews.{field_of}
use Rattle.capnp_records.specs.declared.node.FieldRecord.{FieldRecord}
use Rattle.capnp_records.proofs.lemmas.FieldPlaces.{get_at, length_mapped}
use Rattle.capnp_values_queries.specs.Names.{place_named}

-- where the name of the field at a place stands to a name: 0 below it, 1 at it, 2 above it
abbrev pub rank : List Field → List ℕ → ℕ → ℕ
rank fs name i = ordering_index (slice_cmp nat_cmp (name_at fs i) name)

pub ranked : (fs : List Field) (name : List ℕ) (places : List ℕ) → AreByName fs places → IsNonDecreasingBy (rank fs name) places
ranked fs name places t = searchable_from_sorted nat_list_cmp_total (name_at fs) places name t.ascending

-- ---- the name of the field at a place

index_eq : (o : Ordering) → ordering_index o ≡ 1 → is_eq o ≡ true
index_eq Less h = absurd (omega (arith, h))
index_eq Equal h = refl
index_eq Greater h = absurd (omega (arith, h))

index_other : (o : Ordering) → (ordering_index o ≡ 1 → ⊥) → is_eq o ≡ false
index_other Less h = refl
index_other Equal h = absurd (h refl)
index_other Greater h = refl

pub at_rank_one : (fs : List Field) (name : List ℕ) (i : ℕ) → rank fs name i ≡ 1 → bytes_eq (name_at fs i) name ≡ true
at_rank_one fs name i h = sym (is_eq-slice_cmp (name_at fs i) name) ∙ index_eq (slice_cmp nat_cmp (name_at fs i) name) h

at_other_rank : (fs : List Field) (name : List ℕ) (i : ℕ) → (rank fs name i ≡ 1 → ⊥) → bytes_eq (name_at fs i) name ≡ false
at_other_rank fs name i h = sym (is_eq-slice_cmp (name_at fs i) name) ∙ index_other (slice_cmp nat_cmp (name_at fs i) name) h

-- ---- found

has_name : (x name : List ℕ) (fs : List Field) (p : ℕ) → p < length fs → bytes_eq (name_at fs p) name ≡ true → bytes_eq x name ≡ true → list_any (bytes_eq x) (map (λ f. f.name) fs) ≡ true
has_name x name [] p lt at is = absurd (omega arith)
has_name x name (f ∷ fs) zero lt at is =
    let one : f.name ≡ name = (bytes_eq-Decides f.name name).0 at in
    let other : x ≡ name = (bytes_eq-Decides x name).0 is in
    ap (λ b. b || list_any (bytes_eq x) (map (λ (g : Field). g.name) fs)) ((bytes_eq-Decides x f.name).1 (other ∙ sym one))
has_name x name (f ∷ fs) (suc p) lt at is = by (bytes_eq x f.name) (has_name x name fs p (omega arith) at is)
  where
    by : (b : Bool) → list_any (bytes_eq x) (map (λ (g : Field). g.name) fs) ≡ true → (b || list_any (bytes_eq x) (map (λ (g : Field). g.name) fs)) ≡ true
    by true h = refl
    by false h = h

first_named : (fs : List Field) (name : List ℕ) (i p : ℕ) → p < length fs → bytes_eq (name_at fs p) name ≡ true → are_distinct (map (λ f. f.name) fs) ≡ true → place_named name i fs ≡ Some (i + p)
first_named [] name i p lt at h = absurd (omega arith)
first_named (f ∷ fs) name i zero lt at h = let same : i ≡ i + 0 = omega arith in ap (λ b. if b then Some i else place_named name (suc i) fs) at ∙ ap (λ k. Some k) same
first_named (f ∷ fs) name i (suc p) lt at h =
    let next : suc i + p ≡ i + suc p = omega arith in
    let new : list_any (bytes_eq f.name) (map (λ (g : Field). g.name) fs) ≡ false = not_true (list_any (bytes_eq f.name) (map (λ g. g.name) fs)) (and_left (not (list_any (bytes_eq f.name) (map (λ g. g.name) fs))) (are_distinct (map (λ g. g.name) fs)) h) in
    let other : bytes_eq f.name name ≡ false = never_true (bytes_eq f.name name) (λ is. absurd (cc (sym new ∙ has_name f.name name fs p (omega arith) at is))) in
    ap (λ b. if b then Some i else place_named name (suc i) fs) other
    ∙ first_named fs name (suc i) p (omega arith) at (and_right (not (list_any (bytes_eq f.name) (map (λ g. g.name) fs))) (are_distinct (map (λ g. g.name) fs)) h)
    ∙ ap (λ k. Some k) next

pub found_there : (fs : List Field) (name : List ℕ) (p : ℕ) → p < length fs → rank fs name p ≡ 1 → are_distinct (map (λ f. f.name) fs) ≡ true → Some p ≡ place_named name 0 fs
found_there fs name p lt at h = let same : p ≡ 0 + p = omega arith in ap (λ k. Some k) same ∙ sym (first_named fs name 0 p lt (at_rank_one fs name p at) h)

-- ---- not found

none_named : (fs : List Field) (name : List ℕ) (i : ℕ) → ((p : ℕ) → p < length fs → bytes_eq (name_at fs p) name ≡ false) → place_named name i fs ≡ None
none_named [] name i h = refl
none_named (f ∷ fs) name i h = ap (λ b. if b then Some i else place_named name (suc i) fs) (h 0 (omega arith)) ∙ none_named fs name (suc i) (λ p lt. h (suc p) (omega arith))

at_some_place : (xs : List ℕ) (i : ℕ) → list_any (λ k. k == i) xs ≡ true → (k : ℕ) × (k < length xs) × (get_or xs k 0 ≡ i)
at_some_place [] i h = absurd (cc h)
at_some_place (x ∷ xs) i h = by (at_some_place xs i) (x == i) refl h
  where
    by : (list_any (λ k. k == i) xs ≡ true → (k : ℕ) × (k < length xs) × (get_or xs k 0 ≡ i)) → (b : Bool) → (x == i) ≡ b → (b || list_any (λ k. k == i) xs) ≡ true → (k : ℕ) × (k < length (x ∷ xs)) × (get_or (x ∷ xs) k 0 ≡ i)
    by again true e t = (0, omega arith, same_number x i e)
    by again false e t = let more = again t in let lt = more.1 in (suc more.0, omega (arith, lt), more.2)

pub found_nowhere : (fs : List Field) (name : List ℕ) (places : List ℕ) → AreByName fs places → ((k : ℕ) → k < length places → rank fs name (get_or places k 0) ≡ 1 → ⊥) → None ≡ place_named name 0 fs
found_nowhere fs name places t h =
    sym (none_named fs name 0 (λ p lt. let at = at_some_place places p (t.every p lt) in at_other_rank fs name p (λ is. h at.0 at.1 (ap (rank fs name) at.2 ∙ is))))

-- ---- what a comparison in the middle says

inside_at : (xs : List ℕ) (n k : ℕ) → list_all (λ i. nat_lt i n) xs ≡ true → k < length xs → get_or xs k 0 < n
inside_at [] n k h lt = absurd (omega arith)
inside_at (x ∷ xs) n zero h lt = let low : nat_lt x n ≡ true = and_left (nat_lt x n) (list_all (λ i. nat_lt i n) xs) h in grind (arith, nat_tests)
inside_at (x ∷ xs) n (suc k) h lt = inside_at xs n k (and_right (nat_lt x n) (list_all (λ i. nat_lt i n) xs) h) (omega arith)

pub place_inside : (fields : List FieldRecord) (places : List ℕ) (k : ℕ) → AreByName (map field_of fields) places → k < length places → get_or places k 0 < length (map field_of fields)
place_inside fields places k t lt = inside_at places (length (map field_of fields)) k t.inside lt

name_there : (fields : List FieldRecord) (p : ℕ) (x : FieldRecord) → p < length fields → x ≡ get_or fields p x → name_at (map field_of fields) p ≡ string_bytes x.name
name_there fields p x lt e = ap (λ (o : Option Field). elim o as (λ (q : Option Field). List ℕ) [ None ↦ [] | Some f ↦ f.name ]) (get_at field_of fields p x lt e)

pub rank_there : (fields : List FieldRecord) (places : List ℕ) (k : ℕ) (x : FieldRecord) (text name : List ℕ) (o : Ordering) → AreByName (map field_of fields) places → k < length places → x ≡ get_or fields (get_or places k 0) x → text ≡ string_bytes (get_or fields (get_or places k 0) x).name → o ≡ slice_cmp nat_cmp text name
    → rank (map field_of fields) name (get_or places k 0) ≡ ordering_index o
rank_there fields places k x text name o t lt e read compared =
    let low = place_inside fields places k t lt in
    let long = length_mapped field_of fields in
    ap (λ y. ordering_index (slice_cmp nat_cmp y name)) (name_there fields (get_or places k 0) x (omega (arith, low, long)) e ∙ ap (λ (y : FieldRecord). string_bytes y.name) e ∙ sym read) ∙ ap ordering_index (sym compared)

at_most_two : (o : Ordering) → ordering_index o ≤ 2
at_most_two Less = omega arith
at_most_two Equal = omega arith
at_most_two Greater = omega arith

pub below_middle : (fs : List Field) (name : List ℕ) (places : List ℕ) (middle : ℕ) → AreByName fs places → middle < length places → rank fs name (get_or places middle 0) ≡ 0 → (k : ℕ) → k < middle + 1 → rank fs name (get_or places k 0) ≡ 0
below_middle fs name places middle t inside is k lt = let le = ranked fs name places t k middle 0 (omega arith) inside in omega (arith, le, is)

pub above_middle : (fs : List Field) (name : List ℕ) (places : List ℕ) (middle : ℕ) → AreByName fs places → rank fs name (get_or places middle 0) ≡ 2 → (k : ℕ) → middle ≤ k → k < length places → rank fs name (get_or places k 0) ≡ 2
above_middle fs name places middle t is k le lt =
    let more = ranked fs name places t middle k 0 le lt in
    let most = at_most_two (slice_cmp nat_cmp (name_at fs (get_or places k 0)) name) in
    omega (arith, more, most, is)

pub nothing_left : (fs : List Field) (name : List ℕ) (places : List ℕ) (low high : ℕ) → high ≤ low → ((k : ℕ) → k < low → rank fs name (get_or places k 0) ≡ 0) → ((k : ℕ) → high ≤ k → k < length places → rank fs name (get_or places k 0) ≡ 2)
    → (k : ℕ) → k < length places → rank fs name (get_or places k 0) ≡ 1 → ⊥
nothing_left fs name places low high done below above k lt is = by (nat_lt k low) refl
  where
    by : (b : Bool) → nat_lt k low ≡ b → ⊥
    by true e = let lower : k < low = grind (arith, nat_tests) in let zero_there = below k lower in omega (arith, is, zero_there)
    by false e = let no_lower : low ≤ k = grind (arith, nat_tests) in let two_there = above k (omega (arith, done, no_lower)) lt in omega (arith, is, two_there)

-- ---- one comparison more

-- a range of n is halved
pub halved : (n left used now digits : ℕ) → 0 < n → (used ≤ digits) × (n < 2 ^ (digits - used)) → left + left ≤ n → now ≤ used + 1 → (now ≤ digits) × (left < 2 ^ (digits - now))
halved n left used now digits some before less one = by (digits - used) refl before.1
  where
    by : (m : ℕ) → digits - used ≡ m → n < 2 ^ m → (now ≤ digits) × (left < 2 ^ (digits - now))
    by zero e h = absurd (omega (arith, h, some))
    by (suc m) e h =
        let fits = before.0 in
        let twice : 2 ^ suc m ≡ 2 ^ m + 2 ^ m = omega arith in
        let small : left < 2 ^ m = omega (arith, h, twice, less) in
        let more : m ≤ digits - now = omega (arith, e, one, fits) in
        let grown = pow_mono more in
        (omega (arith, e, one, fits), omega (arith, small, grown))

-- a range that is used up without a comparison has no places
pub some_compared : (compared low high places fields : ℕ) → (compared ≡ 0 → (low ≡ 0) × (high ≡ places)) → high ≤ low → places ≡ fields → 0 < fields → 0 < compared
some_compared zero low high places fields none over same some = let begun = none refl in absurd (omega (arith, begun, over, same, some))
some_compared (suc n) low high places fields none over same some = omega arith
