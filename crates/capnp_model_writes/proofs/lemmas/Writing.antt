-- Plain data written into an object.
use Rattle.std.proofs.Common.{◌≡◌, ℕ, ◌+◌, List, drop, Some, refl, sym, ◌∙◌, arith, ◌*◌, ◌^◌, ◌≤◌, ap, [], ◌∷◌, ◌%◌, ◌++◌, length, ◌-◌}
use Rattle.std.proofs.lemmas.List.{take_at}
use Rattle.std.specs.List.{AllByRecursion}
use Rattle.capnp_model.specs.Coverage.{Span, times_held, Keeps, span, from_each, covered_object}
use Rattle.capnp_model.specs.Pointers.{a_struct, a_list}
use Rattle.capnp_model.specs.Sections.{section_of, words_for}
use Rattle.capnp_model.specs.Segments.{Segments, Place, after, words_at, word_at}
use Rattle.capnp_model.specs.Traversal.{of_bits, list_kind, tree_of, tree_at}
use Rattle.capnp_model.specs.Trees.{Tree, Trees, structure, plain_list, size_bits}
use Rattle.capnp_model.proofs.lemmas.Locality.{word_was, word_is}
use Rattle.capnp_model.proofs.lemmas.SoundRules.{apart}
use Rattle.capnp_model.proofs.lemmas.ReadFits.{words_length}
use Rattle.capnp_model_writes.specs.Changes.{Changes, ReplacesObject}
use Rattle.capnp_model_writes.specs.Footprints.{behind, object_footprint, OwnsObject}
use Rattle.capnp_model_writes.specs.Writes.{with_words, spliced}
use Rattle.capnp_model_writes.proofs.lemmas.Kept.{value_same, each_same}
use Rattle.capnp_model_writes.proofs.lemmas.Lift.{struct_parts, StructParts, struct_of_parts, struct_is}
use Rattle.capnp_model_writes.proofs.lemmas.Rows.{after_none}
use Rattle.capnp_model_writes.proofs.lemmas.Spans.{words_back, held, held_is, held_split, words_join, there}
use Rattle.capnp_model_writes.proofs.lemmas.Splices.{Rewrites, splice_rewrites, splice_words}
use Rattle.capnp_model_writes.proofs.lemmas.There.{spans_kept}

-- words that are not rewritten are kept
pub rewrites_keep : (s u : Segments) (p : Place) (n : ℕ) (xs : List Span) → Rewrites s u p n → ((q : Place) → times_held xs q + held p n q ≤ 1) → AllByRecursion (Keeps s u) xs
rewrites_keep s u p n xs r apart = spans_kept s u xs r.grows (λ q w l e. r.others q w (omega (arith, apart q, l)) e)

-- what an object takes stays, and only words of its own change
pub changes_inside : (s u : Segments) (p : Place) (n : ℕ) (c d : Place → ℕ) → Rewrites s u p n → ((q : Place) → d q ≡ c q) → ((q : Place) → held p n q ≤ c q) → Changes s u c d
changes_inside s u p n c d r same le =
    record {
      grows = r.grows;
      kept = λ q w e z. r.others q w (omega (arith, le q, z)) e;
      within = λ q. omega (arith, same q);
      cleared = λ q w e z l. absurd (omega (arith, same q, there u q w e, r.no_more q, z, l));
    }

-- the data words of a struct become others
pub struct_data : (n : ℕ) (s u : Segments) (p : Place) (d k w section : ℕ) (kids : Trees) (vs : List ℕ) → OwnsObject n s (a_struct p d k) (structure w section kids) → Rewrites s u p d → words_at u p d ≡ Some vs → ReplacesObject n s u (a_struct p d k) (structure w (section_of vs) kids)
struct_data n s u p d k w section kids vs o r e =
    let x = struct_parts n s p d k w section kids o.means in
    let a = x.1 in
    let slots : Keeps s u (span (after p d) k) = (rewrites_keep s u p d (span (after p d) k ∷ []) r (λ q. omega (arith, o.apart q, struct_is n s p d k q, held_is (after p d) k [] q))).0 in
    let back : words_at u (after p d) k ≡ Some (drop d a.words) = slots _ (words_back s p d k a.words a.there) in
    let kept = each_same s u (tree_at n s) (tree_at n u) (behind n s) (behind n u) (λ q v b f. value_same n n s u q v (omega arith) b f) (after p d) k _ kids (words_back s p d k a.words a.there) slots
    (rewrites_keep s u p d (from_each (behind n s) (after p d) k) r (λ q. omega (arith, o.apart q, struct_is n s p d k q))) a.kids_are in
    let long : length vs ≡ d = words_length u p d vs e in
    let parts : StructParts n u p d k (section_of vs) kids = record { words = vs ++ drop d a.words; there = words_join u p d k vs _ e back; section_is = ap section_of (take_at vs (drop d a.words) d long); kids_are = kept.0 } in
    record {
      means = struct_of_parts n u p d k (section_of vs) kids parts ∙ ap (λ (m : ℕ). Some (structure m (section_of vs) kids)) x.0;
      changes = changes_inside s u p d (object_footprint n s (a_struct p d k)) (object_footprint n u (a_struct p d k)) r
          (λ q. (let same : times_held (from_each (behind n u) (after p d) k) q ≡ times_held (from_each (behind n s) (after p d) k) q = ap (λ (xs : List Span). times_held xs q) kept.1 in omega (arith, struct_is n s p d k q, struct_is n u p d k q, same)))
          (λ q. omega (arith, struct_is n s p d k q));
    }

-- a part of a span
pub held_part : (p : Place) (i m d : ℕ) (q : Place) → i + m ≤ d → held (after p i) m q ≤ held p d q
held_part p i m d q l =
    let sum : d ≡ i + (m + (d - (i + m))) = omega (arith, l) in
    let e : held p d q ≡ held p (i + (m + (d - (i + m)))) q = ap (λ (x : ℕ). held p x q) sum in
    omega (arith, e, held_split p i (m + (d - (i + m))) q, held_split (after p i) m (d - (i + m)) q)

zero_less : (a b : ℕ) → a ≤ b → b ≡ 0 → a ≡ 0
zero_less a b l e = omega (arith, l, e)

pub wider : (s u : Segments) (p : Place) (i m d : ℕ) → i + m ≤ d → Rewrites s u (after p i) m → Rewrites s u p d
wider s u p i m d l r = record { grows = r.grows; no_more = r.no_more; others = λ q w z e. r.others q w (zero_less _ _ (held_part p i m d q l) z) e }

-- some of the data words of a struct become others
pub struct_words : (n : ℕ) (s : Segments) (p : Place) (d k i w section : ℕ) (kids : Trees) (vs ws : List ℕ) → i + length vs ≤ d → words_at s p d ≡ Some ws → OwnsObject n s (a_struct p d k) (structure w section kids) → ReplacesObject n s (with_words s (after p i) vs) (a_struct p d k) (structure w (section_of (spliced i vs ws)) kids)
struct_words n s p d k i w section kids vs ws l e o =
    struct_data n s (with_words s (after p i) vs) p d k w section kids (spliced i vs ws) o (wider s (with_words s (after p i) vs) p i (length vs) d l (splice_rewrites s (after p i) vs)) (splice_words s p i d vs ws l e)

-- ---- lists of plain elements

pub plain_is : (n : ℕ) (s : Segments) (p : Place) (size count : ℕ) (q : Place) → list_kind size ≡ of_bits → object_footprint n s (a_list p size count) q ≡ held p (words_for (size_bits size * count)) q
plain_is n s p size count q k =
    let e : covered_object s (behind n s) (a_list p size count) ≡ span p (words_for (size_bits size * count)) ∷ [] = rw k refl in
    ap (λ (xs : List Span). times_held xs q) e ∙ omega (arith, held_is p (words_for (size_bits size * count)) [] q)

pub plain_tree : (n : ℕ) (u : Segments) (p : Place) (size count : ℕ) (vs : List ℕ) → list_kind size ≡ of_bits → words_at u p (words_for (size_bits size * count)) ≡ Some vs → tree_of u (tree_at n u) (a_list p size count) ≡ Some (plain_list size count (section_of vs % 2 ^ (size_bits size * count)))
plain_tree n u p size count vs k e = rw (k, e) refl

-- the words of a list of plain elements become others
pub plain_data : (n : ℕ) (s u : Segments) (p : Place) (size count : ℕ) (t : Tree) (vs : List ℕ) → list_kind size ≡ of_bits → OwnsObject n s (a_list p size count) t → Rewrites s u p (words_for (size_bits size * count)) → words_at u p (words_for (size_bits size * count)) ≡ Some vs → ReplacesObject n s u (a_list p size count) (plain_list size count (section_of vs % 2 ^ (size_bits size * count)))
plain_data n s u p size count t vs k o r e =
    record {
      means = plain_tree n u p size count vs k e;
      changes = changes_inside s u p (words_for (size_bits size * count)) (object_footprint n s (a_list p size count)) (object_footprint n u (a_list p size count)) r
          (λ q. plain_is n u p size count q k ∙ sym (plain_is n s p size count q k))
          (λ q. omega (arith, plain_is n s p size count q k));
    }

pub plain_words : (n : ℕ) (s : Segments) (p : Place) (size count i : ℕ) (t : Tree) (vs ws : List ℕ) → list_kind size ≡ of_bits → i + length vs ≤ words_for (size_bits size * count) → words_at s p (words_for (size_bits size * count)) ≡ Some ws → OwnsObject n s (a_list p size count) t → ReplacesObject n s (with_words s (after p i) vs) (a_list p size count) (plain_list size count (section_of (spliced i vs ws) % 2 ^ (size_bits size * count)))
plain_words n s p size count i t vs ws k l e o =
    plain_data n s (with_words s (after p i) vs) p size count t (spliced i vs ws) k o (wider s (with_words s (after p i) vs) p i (length vs) (words_for (size_bits size * count)) l (splice_rewrites s (after p i) vs)) (splice_words s p i (words_for (size_bits size * count)) vs ws l e)

-- ---- a written word

pub written_word : (m : Segments) (p : Place) (v w : ℕ) → word_at m p ≡ Some v → word_at (with_words m p (w ∷ [])) p ≡ Some w
unfolding spliced
written_word m p v w e =
    let l : 0 + length (w ∷ []) ≤ 1 = omega arith in
    let now : words_at (with_words m (after p 0) (w ∷ [])) p 1 ≡ Some (w ∷ []) = splice_words m p 0 1 (w ∷ []) (v ∷ []) l (word_is m p v e) in
    word_was (with_words m p (w ∷ [])) p w (ap (λ (q : Place). words_at (with_words m q (w ∷ [])) p 1) (sym (after_none p)) ∙ now)
