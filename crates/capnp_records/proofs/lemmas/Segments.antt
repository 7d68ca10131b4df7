-- Values that stand as bytes.
use Rattle.std.proofs.Common.{◌≡◌, ℕ, suc, ◌+◌, ◌-◌, ◌*◌, ◌/◌, ◌%◌, ◌^◌, ◌<◌, ◌≤◌, Bool, true, false, not, ◌&&◌, nat_lt, Option, Some, None, List, [], ◌∷◌, ◌++◌, length, Ok, Err, refl, sym, ◌∙◌, ap, subst, arith, append-nil}
use Rattle.std.specs.Prelude.{IsSome}
use Rattle.std.specs.Str.{bytes_eq}
use Rattle.std.proofs.lemmas.Bool.Decides.{nat_tests}
use Rattle.std.proofs.lemmas.Slice.Eq.{bytes_eq-Decides}
use Rattle.capnp_model.specs.Kinds.{Kind}
use Rattle.capnp_model.specs.Sections.{words_for}
use Rattle.capnp_model.specs.Segments.{Segments, Place, root, after}
use Rattle.capnp_model.specs.Trees.{Tree, Trees, structure, plain_list, pointer_list, struct_list, has_capability}
use Rattle.capnp_model.specs.Trimming.{trim}
use Rattle.capnp_model.specs.Traversal.{tree_at, cost_at, each, each_element}
use Rattle.capnp_model.specs.Encoding.{canonical_words}
use Rattle.capnp_model.specs.Canonical.{is_canonical_message}
use Rattle.capnp_model.specs.Bytes.{bytes_of_words, words_in_bytes, AreBytes}
use Rattle.capnp_model.specs.Spelling.{AreWords}
use Rattle.capnp_model.specs.Decoding.{decode}
use Rattle.capnp_model.specs.Visits.{Visit, visits, visits_cost}
use Rattle.capnp_model.specs.Readings.{expected_size, is_accepted_as}
use Rattle.capnp_model.specs.Schemas.{Ty, lists_of, type_of}
use Rattle.capnp_model.specs.Accepted.{opens_as, is_good_segment}
use Rattle.capnp_model.proofs.lemmas.ByteWords.{words_back, bytes_length}
use Rattle.capnp_model.proofs.lemmas.CanonicalTests.{message_test, test_message}
use Rattle.capnp_model.proofs.lemmas.CanonicalWords.{canonical_words_are}
use Rattle.capnp_model.proofs.lemmas.Chaining.{bind_some, provided_some, some_is}
use Rattle.capnp_model.proofs.lemmas.ReadFits.{tree_at_fits}
use Rattle.capnp_model.proofs.lemmas.TrimFits.{Fits-trim}
use Rattle.capnp_units.specs.declared.errors.Error.{Error}
use Rattle.capnp_units.specs.declared.limiter.ReadLimiter.{ReadLimiter}
use Rattle.capnp_units.specs.Limits.{left_of}
use Rattle.capnp_units.specs.Segments.{whole_words}
use Rattle.capnp_units.specs.Sizes.{size_number, data_bits}
use Rattle.capnp_wire_objects.specs.declared.object.Found.{Found}
use Rattle.capnp_wire_objects.specs.declared.object.Object.{Object}
use Rattle.capnp_wire_objects.specs.declared.object.Object.TheVariants as object
use Rattle.capnp_wire_objects.specs.Places.{place_view}
use Rattle.capnp_wire_objects.specs.Objects.{object_at}
use Rattle.capnp_wire_objects.specs.Inside.{tree_in, section_at, words_there}
use Rattle.capnp_wire_objects.specs.Laws.{TreesByLevels, VisitsOfFaults}
use Rattle.capnp_wire_objects.specs.Walks.{Stopped, CannotPass}
use Rattle.capnp_model.proofs.lemmas.ByteLists.{words_spell}
use Rattle.capnp_wire_objects.proofs.lemmas.Words.{whole_words-length}
use Rattle.capnp_wire_canonical.specs.Standing.{IsSmall, segment_words}
use Rattle.capnp_model.proofs.lemmas.Tests.{and_false, and_right}
use Rattle.capnp_model.proofs.lemmas.Lists.{only_is}
use Rattle.capnp_records.specs.NodeViews.{type_record_of}
use Rattle.capnp_records.specs.Segments.{form_of, wants}
use Rattle.capnp_records.specs.declared.node.TypeRecord.{TypeRecord}
use Rattle.capnp_records.specs.declared.segment.Wanted.TheVariants.{Of}
use Rattle.capnp_records.proofs.lemmas.Stored.{is_list}

-- ---- kinds of values

-- an object that isn't null opens as a list where its elements do
pub opens_list : (o : Object) (count : ℕ) (b : Ty) → 0 < count → (o ≡ object.Null → ⊥) → opens_as (form_of o) (lists_of count b) ≡ is_accepted_as (expected_size (lists_of (count - 1) b)) (form_of o)
opens_list object.Null count b h some = absurd (some refl)
opens_list (object.Capability i) count b h some = ap (opens_as (form_of (object.Capability i))) (is_list count b h)
opens_list (object.Struct p d k) count b h some = ap (opens_as (form_of (object.Struct p d k))) (is_list count b h)
opens_list (object.List p size n) count b h some = ap (opens_as (form_of (object.List p size n))) (is_list count b h)
opens_list (object.PointerList p n) count b h some = ap (opens_as (form_of (object.PointerList p n))) (is_list count b h)
opens_list (object.StructList p words n d k) count b h some = ap (opens_as (form_of (object.StructList p words n d k))) (is_list count b h)

pub ruleset lists = (is_list, opens_list)

-- the tree of an object opens as its form does
pub opens_by_form : (s : Segments) (below : Place → Option Tree) (o : Object) (t : Tree) (ty : Ty) → tree_in s below o ≡ Some t → opens_as t ty ≡ opens_as (form_of o) ty
opens_by_form s below object.Null t ty e = ap (λ u. opens_as u ty) (some_is t (form_of object.Null) (sym e))
opens_by_form s below (object.Capability i) t ty e = ap (λ u. opens_as u ty) (some_is t (form_of (object.Capability i)) (sym e))
opens_by_form s below (object.Struct p d k) t ty e =
    let made : Trees → Tree = λ ts. structure d (section_at s (place_view p) d) ts in
    let a = bind_some (each below (after (place_view p) d) k) (λ ts. Some (made ts)) t e in
    ap (λ u. opens_as u ty) (sym (some_is (made a.0) t a.2))
opens_by_form s below (object.List p size n) t ty e =
    let bits = data_bits (size_number size) * n in
    ap (λ u. opens_as u ty) (sym (some_is (plain_list (size_number size) n (section_at s (place_view p) (words_for bits) % 2 ^ bits)) t e))
opens_by_form s below (object.PointerList p n) t ty e =
    let a = bind_some (each below (place_view p) n) (λ ts. Some (pointer_list ts)) t e in
    ap (λ u. opens_as u ty) (sym (some_is (pointer_list a.0) t a.2))
opens_by_form s below (object.StructList p words n d k) t ty e =
    let a = bind_some (each_element below (place_view p) (words_there s (place_view p) words) d k n) (λ es. Some (struct_list d k es)) t e in
    ap (λ u. opens_as u ty) (sym (some_is (struct_list d k a.0) t a.2))

-- ---- the value at the root

-- what the laws say of walks: where a value is, each pointer can be followed
abbrev pub CostsOfWalks : Type 0
CostsOfWalks = (n : ℕ) (s : Segments) (p : Place) (t : Tree) → tree_at n s p ≡ Some t → visits_cost (visits n s p) ≡ Some (cost_at n s p)

-- a value is as it is wanted where the object at its place is
pub wanted_by_form : TreesByLevels → (n : ℕ) (s : Segments) (p : Place) (f : Found) (t : Tree) (ty : TypeRecord) → Ok f ≡ object_at s p → tree_at (suc n) s p ≡ Some t → opens_as (form_of f.object) (type_of (type_record_of ty)) ≡ wants (Of ty) t
wanted_by_form trees n s p f t ty at there = sym (opens_by_form s (tree_at n s) f.object t (type_of (type_record_of ty)) (sym (trees n s p f (sym at)) ∙ there))

-- a value is nowhere where no object is
pub no_value : CostsOfWalks → VisitsOfFaults → (n : ℕ) (s : Segments) (p : Place) (t : Tree) (kind : Kind) → Err kind ≡ object_at s p → tree_at (suc n) s p ≡ Some t → ⊥
no_value costs faults n s p t kind at there =
    let path = ap visits_cost (faults n s p kind (sym at)) in
    let cost = costs (suc n) s p t there in
    absurd (cc (sym path ∙ cost))

-- ---- walks without a limit

no_cost : (a b : List Visit) (k : Kind) (c : ℕ) → visits_cost (a ++ Err k ∷ b) ≡ Some c → ⊥
no_cost [] b k c h = absurd (cc h)
no_cost (Err kind ∷ a) b k c h = absurd (cc h)
no_cost (Ok n ∷ a) b k c h = let x = bind_some (visits_cost (a ++ Err k ∷ b)) (λ m. Some (n + m)) c h in no_cost a b k x.0 x.1

-- one is stopped only where no value is, and so no canonical message
pub stopped_not : CostsOfWalks → (n : ℕ) (s : Segments) (l m : ReadLimiter) (e : Error) → left_of l ≡ None → Stopped (visits n s root) l e m → is_canonical_message n s ≡ false
stopped_not costs n s l m e free stop = by (is_canonical_message n s) refl
  where
    here : (t : Tree) → tree_at n s root ≡ Some t → (v : Visit) → stop.last ≡ v → CannotPass (left_of l) stop.paid v e.kind → ⊥
    here t there (Err k) is why =
        no_cost stop.before stop.behind k (cost_at n s root)
        (sym (ap visits_cost (stop.path_is ∙ ap (λ x. stop.before ++ x ∷ stop.behind) is)) ∙ costs n s root t there)
    here t there (Ok words) is why = (subst (λ o. CannotPass o stop.paid (Ok words) e.kind) free why).1

    by : (b : Bool) → is_canonical_message n s ≡ b → is_canonical_message n s ≡ false
    by false is = is
    by true is = let t = message_test n s is in absurd (here t.0 t.1 stop.last refl stop.why)

-- ---- bytes of whole words

-- the words of bytes are those that spell them
words_back_of : (ws bytes : List ℕ) → AreWords ws → bytes_of_words ws ≡ bytes → words_in_bytes (length bytes / 8) bytes ≡ ws
words_back_of ws bytes are is =
    let count : length bytes / 8 ≡ length ws = omega (arith, bytes_length ws, ap (λ (xs : List ℕ). length xs) is) in
    ap (λ n. words_in_bytes n bytes) count ∙ ap (words_in_bytes (length ws)) (sym is ∙ sym (append-nil (bytes_of_words ws))) ∙ words_back ws [] are

-- ---- decoding

-- the one segment of bytes
abbrev pub segment_of : List ℕ → Segments
segment_of bytes = whole_words bytes ∷ []

-- it is small
pub small_segment : (bytes : List ℕ) → length bytes < 8 * 2 ^ 29 → IsSmall (segment_of bytes) root
unfolding segment_words
small_segment bytes few = omega (arith, whole_words-length bytes, few)

spelled_by : (bytes : List ℕ) (t : Tree) → tree_at 64 (segment_of bytes) root ≡ Some t → has_capability t ≡ false → bytes_of_words (canonical_words (trim t)) ≡ bytes → decode bytes ≡ Some t
unfolding decode
spelled_by bytes t there clean same =
    let eq : bytes_eq (bytes_of_words (canonical_words (trim t))) bytes ≡ true = (bytes_eq-Decides (bytes_of_words (canonical_words (trim t))) bytes).1 same in
    rw (there, clean, eq) refl

tests : (cap same : Bool) → (not cap && same) ≡ true → (cap ≡ false) × (same ≡ true)
tests true same h = absurd (cc h)
tests false same h = (refl, h)

decoded : (bytes : List ℕ) (t : Tree) → decode bytes ≡ Some t → (tree_at 64 (segment_of bytes) root ≡ Some t) × (has_capability t ≡ false) × (bytes_of_words (canonical_words (trim t)) ≡ bytes)
unfolding decode
decoded bytes t e =
    let a = bind_some (tree_at 64 (segment_of bytes) root) _ t e in
    let g = provided_some a.0 t (not (has_capability a.0) && bytes_eq (bytes_of_words (canonical_words (trim a.0))) bytes) a.2 in
    let is : a.0 ≡ t = g.1 in
    let both = tests (has_capability a.0) (bytes_eq (bytes_of_words (canonical_words (trim a.0))) bytes) g.0 in
    let same : bytes_of_words (canonical_words (trim a.0)) ≡ bytes = (bytes_eq-Decides (bytes_of_words (canonical_words (trim a.0))) bytes).0 both.1 in
    (a.1 ∙ ap (λ u. Some u) is, ap has_capability (sym is) ∙ both.0, ap (λ u. bytes_of_words (canonical_words (trim u))) (sym is) ∙ same)

-- a canonical segment spells its value
canonical_decoded : (bytes : List ℕ) → length bytes % 8 ≡ 0 → AreBytes bytes → is_canonical_message 64 (segment_of bytes) ≡ true → (t : Tree) × (tree_at 64 (segment_of bytes) root ≡ Some t) × (decode bytes ≡ Some t)
canonical_decoded bytes whole small is =
    let m = message_test 64 (segment_of bytes) is in
    let words : whole_words bytes ≡ canonical_words (trim m.0) = only_is (whole_words bytes) (canonical_words (trim m.0)) m.3 in
    let back = words_spell (length bytes / 8) bytes (omega (arith, whole)) small in
    (m.0, m.1, spelled_by bytes m.0 m.1 m.2 (sym (ap bytes_of_words words) ∙ back))

-- what is decoded is a canonical segment
decoded_canonical : (bytes : List ℕ) (t : Tree) → length bytes < 8 * 2 ^ 29 → decode bytes ≡ Some t → is_canonical_message 64 (segment_of bytes) ≡ true
decoded_canonical bytes t few e =
    let d = decoded bytes t e in
    let ws = canonical_words (trim t) in
    let long : length ws ≤ 2 ^ 29 = omega (arith, few, bytes_length ws, ap (λ (xs : List ℕ). length xs) d.2) in
    let are : AreWords ws = canonical_words_are (trim t) (Fits-trim t (tree_at_fits 64 (segment_of bytes) root t d.0)) long in
    test_message 64 (segment_of bytes) t d.0 d.1 (ap (λ (x : List ℕ). x ∷ []) (words_back_of ws bytes are d.2))

-- ---- good segments

good_by : (test : Tree → Bool) (bytes : List ℕ) (o : Option Tree) → decode bytes ≡ o → is_good_segment test bytes ≡ (nat_lt (length bytes) (8 * 2 ^ 29) && (elim o as (λ (x : Option Tree). Bool) [ None ↦ false | Some t ↦ test t ]))
good_by test bytes o e = ap (λ (x : Option Tree). nat_lt (length bytes) (8 * 2 ^ 29) && (elim x as (λ (y : Option Tree). Bool) [ None ↦ false | Some t ↦ test t ])) e

undecoded_bad : (test : Tree → Bool) (bytes : List ℕ) → ((t : Tree) → decode bytes ≡ Some t → ⊥) → is_good_segment test bytes ≡ false
undecoded_bad test bytes none = by (decode bytes) refl
  where
    by : (o : Option Tree) → decode bytes ≡ o → is_good_segment test bytes ≡ false
    by None e = good_by test bytes None e ∙ and_false (nat_lt (length bytes) (8 * 2 ^ 29))
    by (Some t) e = absurd (none t e)

-- those of a good one have a value
pub segment_found : (test : Tree → Bool) (bytes : List ℕ) → is_good_segment test bytes ≡ true → IsSome (decode bytes)
segment_found test bytes h = by (decode bytes) (and_right (nat_lt (length bytes) (8 * 2 ^ 29)) (elim (decode bytes) as (λ (o : Option Tree). Bool) [ None ↦ false | Some t ↦ test t ]) h)
  where
    by : (o : Option Tree) → (elim o as (λ (x : Option Tree). Bool) [ None ↦ false | Some t ↦ test t ]) ≡ true → IsSome o
    by None k = absurd (cc k)
    by (Some t) k = refl

-- too many bytes are bad
pub too_many_bad : (test : Tree → Bool) (bytes : List ℕ) → 8 * 2 ^ 29 ≤ length bytes → is_good_segment test bytes ≡ false
too_many_bad test bytes many =
    let long : nat_lt (length bytes) (8 * 2 ^ 29) ≡ false = grind (arith, nat_tests) in
    ap (λ b. b && (elim (decode bytes) as (λ (y : Option Tree). Bool) [ None ↦ false | Some t ↦ test t ])) long

-- bytes that are no whole words are bad, and so are those of no canonical segment
pub in_parts_bad : (test : Tree → Bool) (bytes : List ℕ) → (length bytes % 8 ≡ 0 → ⊥) → is_good_segment test bytes ≡ false
in_parts_bad test bytes part =
    undecoded_bad test bytes (λ (t : Tree) (e : decode bytes ≡ Some t). let d = decoded bytes t e in
    part (omega (arith, bytes_length (canonical_words (trim t)), ap (λ (xs : List ℕ). length xs) d.2)))

pub not_canonical_bad : (test : Tree → Bool) (bytes : List ℕ) → length bytes < 8 * 2 ^ 29 → is_canonical_message 64 (segment_of bytes) ≡ false → is_good_segment test bytes ≡ false
not_canonical_bad test bytes few not_so = undecoded_bad test bytes (λ (t : Tree) (e : decode bytes ≡ Some t). absurd (cc (sym (decoded_canonical bytes t few e) ∙ not_so)))

-- those of a canonical segment are as good as its value
pub canonical_good : (test : Tree → Bool) (bytes : List ℕ) (b : Bool) → length bytes < 8 * 2 ^ 29 → length bytes % 8 ≡ 0 → AreBytes bytes → is_canonical_message 64 (segment_of bytes) ≡ true
    → ((t : Tree) → tree_at 64 (segment_of bytes) root ≡ Some t → b ≡ test t) → b ≡ is_good_segment test bytes
canonical_good test bytes b few whole small is asked =
    let d = canonical_decoded bytes whole small is in
    let short : nat_lt (length bytes) (8 * 2 ^ 29) ≡ true = grind (arith, nat_tests) in
    asked d.0 d.1 ∙ ap (λ c. c && test d.0) (sym short) ∙ sym (good_by test bytes (Some d.0) d.2)
