-- Where the members of a union and the other fields stand.
use Rattle.std.proofs.Common.{◌≡◌, ℕ, zero, suc, ◌+◌, ◌*◌, ◌<◌, ◌≤◌, ◌==◌, nat_lt, nat_le, Bool, true, false, not, ◌&&◌, ◌||◌, if◌then◌else◌, Option, Some, None, option_map, List, [], ◌∷◌, map, length, get_or, refl, sym, ◌∙◌, ap, subst, arith}
use Rattle.std.specs.List.{list_all, list_any, filter_map, cons_option}
use Rattle.std.proofs.lemmas.Bool.Decides.{nat_tests}
use Rattle.std.specs.Str.{bytes_eq}
use Rattle.capnp_model.specs.Schemas.{Field, StructNode, NodeKind, struct_node, enum_node, Node, Shape, Fields, no_fields, field}
use Rattle.capnp_model.specs.Accepted.{find_node, no_shape, field_body, fields_from, on_struct, members_of, are_once, has_good_union, schema_of, IsAccepted}
use Rattle.capnp_model.proofs.lemmas.KeptRules.{and_three, unions_are_good, found_passes}
use Rattle.capnp_records.specs.Sets.{struct_found}
use Rattle.capnp_records.specs.Tables.{is_member_at, place_from, members_from, others_from}
use Rattle.capnp_model.proofs.lemmas.Tests.{same_number, not_true, both, and_left, and_right, never_false, is_lt}
use Rattle.capnp_values_queries.specs.Fields.{field_count, index_of, place_of_name, is_value, place_of_member, union_member_count, others_at}
use Rattle.capnp_values_queries.specs.Names.{place_named}
use Rattle.capnp_values_queries.specs.Structs.{IsRecordOf}
use Rattle.capnp_model.specs.Printing.{fields_in}
use Rattle.capnp_values_queries.proofs.lemmas.Records.{struct_is}

-- ---- so many numbers below a bound, each once, are all of them

one_if : Bool → ℕ
one_if true = 1
one_if false = 0

below : (ℕ → Bool) → ℕ → ℕ
below p zero = 0
below p (suc n) = one_if (p n) + below p n

at_most_one : (b : Bool) → one_if b ≤ 1
unfolding one_if
at_most_one true = omega arith
at_most_one false = omega arith

at_most_all : (p : ℕ → Bool) (n : ℕ) → below p n ≤ n
unfolding below
at_most_all p zero = omega arith
at_most_all p (suc n) = let h = at_most_all p n in let o = at_most_one (p n) in omega (arith, h, o)

one_lacks : (p : ℕ → Bool) (n d : ℕ) → d < n → p d ≡ false → below p n + 1 ≤ n
unfolding below one_if
one_lacks p zero d lt h = absurd (omega arith)
one_lacks p (suc n) d lt h = by (one_lacks p n d) (n == d) refl
  where
    by : (d < n → p d ≡ false → below p n + 1 ≤ n) → (b : Bool) → (n == d) ≡ b → one_if (p n) + below p n + 1 ≤ suc n
    by again true e = let same : n ≡ d = grind arith in let none : one_if (p n) ≡ 0 = ap (λ k. one_if (p k)) same ∙ ap one_if h in let all = at_most_all p n in omega (arith, none, all)
    by again false e = let other : d < n = grind (arith, nat_tests) in let more = again other h in let o = at_most_one (p n) in omega (arith, more, o)

unmet : (m : ℕ) (q : ℕ → Bool) (n : ℕ) → n ≤ m → below (λ k. (m == k) || q k) n ≡ below q n
unfolding below
unmet m q zero le = refl
unmet m q (suc n) le =
    let no : (m == n) ≡ false = grind (arith, nat_tests) in
    let first : one_if ((m == n) || q n) ≡ one_if (q n) = ap (λ b. one_if (b || q n)) no in
    let rest = unmet m q n (omega (arith, le)) in
    omega (arith, first, rest)

one_new : (m : ℕ) (q : ℕ → Bool) (n : ℕ) → m < n → q m ≡ false → below (λ k. (m == k) || q k) n ≡ 1 + below q n
unfolding below one_if
one_new m q zero lt h = absurd (omega arith)
one_new m q (suc n) lt h = by (one_new m q n) (m == n) refl
  where
    by : (m < n → q m ≡ false → below (λ k. (m == k) || q k) n ≡ 1 + below q n) → (b : Bool) → (m == n) ≡ b → one_if ((m == n) || q n) + below (λ k. (m == k) || q k) n ≡ 1 + (one_if (q n) + below q n)
    by again true e =
        let same : m ≡ n = grind arith in
        let first : one_if ((m == n) || q n) ≡ 1 = ap (λ b. one_if (b || q n)) e in
        let was : one_if (q n) ≡ 0 = ap (λ k. one_if (q k)) (sym same) ∙ ap one_if h in
        let rest = unmet m q n (omega (arith, same)) in
        omega (arith, first, was, rest)
    by again false e =
        let other : m < n = grind (arith, nat_tests) in
        let first : one_if ((m == n) || q n) ≡ one_if (q n) = ap (λ b. one_if (b || q n)) e in
        let rest = again other h in
        omega (arith, first, rest)

nothing : (n : ℕ) → below (λ k. false) n ≡ 0
unfolding below one_if
nothing zero = refl
nothing (suc n) = let h = nothing n in omega (arith, h)

counted : (n : ℕ) (ms : List ℕ) → list_all (λ m. nat_lt m n) ms ≡ true → are_once ms ≡ true → below (λ k. list_any (λ m. m == k) ms) n ≡ length ms
counted n [] small once = nothing n
counted n (m ∷ ms) small once =
    let low : nat_lt m n ≡ true = and_left (nat_lt m n) (list_all (λ k. nat_lt k n) ms) small in
    let lt : m < n = grind (arith, nat_tests) in
    let new : list_any (λ k. k == m) ms ≡ false = not_true (list_any (λ k. k == m) ms) (and_left (not (list_any (λ k. k == m) ms)) (are_once ms) once) in
    let more = counted n ms (and_right (nat_lt m n) (list_all (λ k. nat_lt k n) ms) small) (and_right (not (list_any (λ k. k == m) ms)) (are_once ms) once) in
    let first = one_new m (λ k. list_any (λ j. j == k) ms) n lt new in
    omega (arith, first, more)

all_there : (n : ℕ) (ms : List ℕ) → length ms ≡ n → list_all (λ m. nat_lt m n) ms ≡ true → are_once ms ≡ true → (d : ℕ) → d < n → list_any (λ m. m == d) ms ≡ true
all_there n ms len small once d lt = never_false (list_any (λ m. m == d) ms) (λ no. let lacks = one_lacks (λ k. list_any (λ m. m == k) ms) n d lt no in let all = counted n ms small once in omega (arith, lacks, all, len))

none_above : (n : ℕ) (ms : List ℕ) → list_all (λ m. nat_lt m n) ms ≡ true → (d : ℕ) → n ≤ d → list_any (λ m. m == d) ms ≡ false
none_above n [] small d le = refl
none_above n (m ∷ ms) small d le =
    let low : nat_lt m n ≡ true = and_left (nat_lt m n) (list_all (λ k. nat_lt k n) ms) small in
    let no : (m == d) ≡ false = grind (arith, nat_tests) in
    ap (λ b. b || list_any (λ k. k == d) ms) no ∙ none_above n ms (and_right (nat_lt m n) (list_all (λ k. nat_lt k n) ms) small) d le

-- ---- members among fields

among : (d : ℕ) (fs : List Field) → list_any (λ m. m == d) (filter_map (λ f. f.member) fs) ≡ list_any (is_member_at d) fs
among d [] = refl
among d (f ∷ fs) = by (among d fs) f.member
  where
    by : list_any (λ m. m == d) (filter_map (λ f. f.member) fs) ≡ list_any (is_member_at d) fs → (o : Option ℕ) → list_any (λ m. m == d) (cons_option o (filter_map (λ (g : Field). g.member) fs)) ≡ ((elim o as (λ (p : Option ℕ). Bool) [ None ↦ false | Some m ↦ m == d ]) || list_any (is_member_at d) fs)
    by again None = again
    by again (Some m) = ap (λ b. (m == d) || b) again

pub record Placed (groups : ℕ → Shape) (fs : List Field) (i d : ℕ) : Type 0 where
  pub steps : ℕ
  pub index : place_of_member d (fields_from groups fs) ≡ Some steps
  pub place : place_from d i fs ≡ i + steps
  pub inside : steps < length fs

pub placed : (groups : ℕ → Shape) (fs : List Field) (i d : ℕ) → list_any (is_member_at d) fs ≡ true → Placed groups fs i d
placed groups [] i d h = absurd (cc h)
placed groups (f ∷ fs) i d h = by (placed groups fs (suc i) d) (is_member_at d f) refl h
  where
    by : (list_any (is_member_at d) fs ≡ true → Placed groups fs (suc i) d) → (b : Bool) → is_member_at d f ≡ b → (b || list_any (is_member_at d) fs) ≡ true → Placed groups (f ∷ fs) i d
    by again true e k = record {
      steps = 0;
      index = ap (λ b. if b then Some 0 else option_map (λ j. suc j) (place_of_member d (fields_from groups fs))) e;
      place = ap (λ b. if b then i else place_from d (suc i) fs) e ∙ omega arith;
      inside = omega arith;
    }
    by again false e k =
        let more = again k in
        let place = more.place in
        let inside = more.inside in
        record {
          steps = suc more.steps;
          index = ap (λ b. if b then Some 0 else option_map (λ j. suc j) (place_of_member d (fields_from groups fs))) e ∙ ap (option_map (λ j. suc j)) more.index;
          place = ap (λ b. if b then i else place_from d (suc i) fs) e ∙ omega (arith, place);
          inside = omega (arith, inside);
        }

pub not_placed : (groups : ℕ → Shape) (fs : List Field) (d : ℕ) → list_any (is_member_at d) fs ≡ false → place_of_member d (fields_from groups fs) ≡ None
not_placed groups [] d h = refl
not_placed groups (f ∷ fs) d h = by (not_placed groups fs d) (is_member_at d f) refl h
  where
    by : (list_any (is_member_at d) fs ≡ false → place_of_member d (fields_from groups fs) ≡ None) → (b : Bool) → is_member_at d f ≡ b → (b || list_any (is_member_at d) fs) ≡ false → place_of_member d (fields_from groups (f ∷ fs)) ≡ None
    by again true e k = absurd (cc k)
    by again false e k = ap (λ b. if b then Some 0 else option_map (λ j. suc j) (place_of_member d (fields_from groups fs))) e ∙ ap (option_map (λ j. suc j)) (again k)

-- what the rule of unions says of a struct
pub record UnionKept (s : StructNode) : Type 0 where
  pub count : length (members_of s) ≡ s.discriminant_count
  pub small : list_all (λ m. nat_lt m s.discriminant_count) (members_of s) ≡ true
  pub once : are_once (members_of s) ≡ true

pub union_kept : (nodes : List Node) → IsAccepted nodes → (id : ℕ) (s : StructNode) → struct_found nodes id ≡ Some s → UnionKept s
union_kept nodes accepted id s h =
    let f = struct_is nodes id s h in
    let good = found_passes (on_struct has_good_union) nodes id f.node (unions_are_good nodes accepted) f.found in
    let here : has_good_union s ≡ true = sym (ap (λ (k : NodeKind). elim k as (λ (x : NodeKind). Bool) [ struct_node r ↦ has_good_union r | enum_node es ↦ true ]) f.kind) ∙ good in
    let three = and_three (length (members_of s) == s.discriminant_count) (list_all (λ m. nat_lt m s.discriminant_count) (members_of s) && are_once (members_of s)) (s.discriminant_count == 0 || nat_le (16 * (s.discriminant_offset + 1)) (64 * s.words)) here in
    let all = three.1 in
    record {
      count = same_number (length (members_of s)) s.discriminant_count three.0;
      small = and_left (list_all (λ m. nat_lt m s.discriminant_count) (members_of s)) (are_once (members_of s)) all;
      once = and_right (list_all (λ m. nat_lt m s.discriminant_count) (members_of s)) (are_once (members_of s)) all;
    }

pub member_there : (s : StructNode) → UnionKept s → (d : ℕ) → d < s.discriminant_count → list_any (is_member_at d) s.fields ≡ true
member_there s u d lt = sym (among d s.fields) ∙ all_there s.discriminant_count (members_of s) u.count u.small u.once d lt

pub no_member_there : (s : StructNode) → UnionKept s → (d : ℕ) → s.discriminant_count ≤ d → list_any (is_member_at d) s.fields ≡ false
no_member_there s u d le = sym (among d s.fields) ∙ none_above s.discriminant_count (members_of s) u.small d le

pub members_counted : (groups : ℕ → Shape) (fs : List Field) → union_member_count (fields_from groups fs) ≡ length (filter_map (λ f. f.member) fs)
members_counted groups [] = refl
members_counted groups (f ∷ fs) = by (members_counted groups fs) f.member
  where
    by : union_member_count (fields_from groups fs) ≡ length (filter_map (λ f. f.member) fs) → (o : Option ℕ) → (elim o as (λ (p : Option ℕ). ℕ) [ None ↦ union_member_count (fields_from groups fs) | Some k ↦ suc (union_member_count (fields_from groups fs)) ]) ≡ length (cons_option o (filter_map (λ (g : Field). g.member) fs))
    by again None = again
    by again (Some m) = omega (arith, again)

pub members_short : (fs : List Field) → length (filter_map (λ f. f.member) fs) ≤ length fs
members_short [] = omega arith
members_short (f ∷ fs) = by (members_short fs) f.member
  where
    by : length (filter_map (λ f. f.member) fs) ≤ length fs → (o : Option ℕ) → length (cons_option o (filter_map (λ (g : Field). g.member) fs)) ≤ suc (length fs)
    by again None = omega (arith, again)
    by again (Some m) = omega (arith, again)

-- ---- the tables

pub table_length : (fs : List Field) (d n : ℕ) → length (members_from fs d n) ≡ n
table_length fs d zero = refl
table_length fs d (suc n) = let h = table_length fs (suc d) n in omega (arith, h)

pub table_at : (fs : List Field) (d n k x : ℕ) → k < n → get_or (members_from fs d n) k x ≡ place_from (d + k) 0 fs
table_at fs d zero k x lt = absurd (omega arith)
table_at fs d (suc n) zero x lt = let at : d ≡ d + 0 = omega arith in ap (λ j. place_from j 0 fs) at
table_at fs d (suc n) (suc k) x lt = let at : suc d + k ≡ d + suc k = omega arith in table_at fs (suc d) n k x (omega arith) ∙ ap (λ j. place_from j 0 fs) at

pub table_inside : (s : StructNode) → UnionKept s → (d n : ℕ) → d + n ≤ s.discriminant_count → list_all (λ i. nat_lt i (length s.fields)) (members_from s.fields d n) ≡ true
table_inside s u d zero le = refl
table_inside s u d (suc n) le =
    let here = placed (λ g. no_shape) s.fields 0 d (member_there s u d (omega (arith, le))) in
    let place = here.place in
    let inside = here.inside in
    both (nat_lt (place_from d 0 s.fields) (length s.fields)) (list_all (λ i. nat_lt i (length s.fields)) (members_from s.fields (suc d) n)) (is_lt (place_from d 0 s.fields) (length s.fields) (omega (arith, place, inside))) (table_inside s u (suc d) n (omega (arith, le)))

pub others_same : (groups : ℕ → Shape) (i : ℕ) (fs : List Field) → others_from i fs ≡ others_at i (fields_from groups fs)
others_same groups i [] = refl
others_same groups i (f ∷ fs) = by (others_same groups (suc i) fs) f.member
  where
    by : others_from (suc i) fs ≡ others_at (suc i) (fields_from groups fs) → (o : Option ℕ) → (elim o as (λ (p : Option ℕ). List ℕ) [ None ↦ i ∷ others_from (suc i) fs | Some m ↦ others_from (suc i) fs ]) ≡ (elim o as (λ (p : Option ℕ). List ℕ) [ None ↦ i ∷ others_at (suc i) (fields_from groups fs) | Some m ↦ others_at (suc i) (fields_from groups fs) ])
    by again None = ap (λ is. i ∷ is) again
    by again (Some m) = again

pub others_inside : (i n : ℕ) (fs : List Field) → i + length fs ≤ n → list_all (λ j. nat_lt j n) (others_from i fs) ≡ true
others_inside i n [] le = refl
others_inside i n (f ∷ fs) le = by (others_inside (suc i) n fs (omega (arith, le))) f.member
  where
    by : list_all (λ j. nat_lt j n) (others_from (suc i) fs) ≡ true → (o : Option ℕ) → list_all (λ j. nat_lt j n) (elim o as (λ (p : Option ℕ). List ℕ) [ None ↦ i ∷ others_from (suc i) fs | Some m ↦ others_from (suc i) fs ]) ≡ true
    by again None = both (nat_lt i n) (list_all (λ j. nat_lt j n) (others_from (suc i) fs)) (is_lt i n (omega (arith, le))) again
    by again (Some m) = again

pub others_short : (i : ℕ) (fs : List Field) → length (others_from i fs) ≤ length fs
others_short i [] = omega arith
others_short i (f ∷ fs) = by (others_short (suc i) fs) f.member
  where
    by : length (others_from (suc i) fs) ≤ length fs → (o : Option ℕ) → length (elim o as (λ (p : Option ℕ). List ℕ) [ None ↦ i ∷ others_from (suc i) fs | Some m ↦ others_from (suc i) fs ]) ≤ suc (length fs)
    by again None = omega (arith, again)
    by again (Some m) = omega (arith, again)

-- ---- names

pub named_at : (groups : ℕ → Shape) (name : List ℕ) (i : ℕ) (fs : List Field) → place_named name i fs ≡ option_map (λ k. i + k) (place_of_name name (fields_from groups fs))
named_at groups name i [] = refl
named_at groups name i (f ∷ fs) = by (named_at groups name (suc i) fs) (bytes_eq f.name name)
  where
    next : (o : Option ℕ) → option_map (λ k. suc i + k) o ≡ option_map (λ k. i + k) (option_map (λ j. suc j) o)
    next None = refl
    next (Some k) = let at : suc i + k ≡ i + suc k = omega arith in ap (λ j. Some j) at

    by : place_named name (suc i) fs ≡ option_map (λ k. suc i + k) (place_of_name name (fields_from groups fs)) → (b : Bool) → (if b then Some i else place_named name (suc i) fs) ≡ option_map (λ k. i + k) (if b then Some 0 else option_map (λ j. suc j) (place_of_name name (fields_from groups fs)))
    by again true = let at : i ≡ i + 0 = omega arith in ap (λ j. Some j) at
    by again false = again ∙ next (place_of_name name (fields_from groups fs))

pub index_inside : (test : List ℕ → Option ℕ → Bool) (fs : Fields) (k : ℕ) → index_of test fs ≡ Some k → k < field_count fs
index_inside test no_fields k h = absurd (cc h)
index_inside test (field n m b fs) k h = by (index_inside test fs) (test n m) (index_of test fs) refl h
  where
    by : ((j : ℕ) → index_of test fs ≡ Some j → j < field_count fs) → (t : Bool) (o : Option ℕ) → index_of test fs ≡ o → (if t then Some 0 else option_map (λ j. suc j) o) ≡ Some k → k < suc (field_count fs)
    by again true o e g = let is : 0 ≡ k = cc g in omega (arith, is)
    by again false None e g = absurd (cc g)
    by again false (Some j) e g = let is : suc j ≡ k = cc g in let more = again j e in omega (arith, is, more)

same_index : (o : Option ℕ) → option_map (λ k. 0 + k) o ≡ o
same_index None = refl
same_index (Some k) = let at : 0 + k ≡ k = omega arith in ap (λ j. Some j) at

pub name_found : (nodes : List Node) (id : ℕ) (s : StructNode) → IsRecordOf nodes id s → (name : List ℕ) → place_named name 0 s.fields ≡ place_of_name name (fields_in ((schema_of nodes).shape_of id))
name_found nodes id s r name =
    named_at (schema_of nodes).shape_of name 0 s.fields ∙ same_index (place_of_name name (fields_from (schema_of nodes).shape_of s.fields))
    ∙ sym (ap (λ g. place_of_name name (fields_in g)) r.shape)
