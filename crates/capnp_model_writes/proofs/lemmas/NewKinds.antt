-- Objects whose words are those of a new one.
use Rattle.std.proofs.Common.{◌≡◌, ℕ, zero, suc, ◌+◌, List, drop, Some, refl, subst, sym, ◌∙◌, arith, ◌*◌, ◌^◌, ◌≤◌, ◌<◌, ap, true, Ok, [], ◌∷◌, ◌%◌, leb, ◌++◌, length, take, replicate, sum}
use Rattle.std.proofs.lemmas.Bool.{le-leb}
use Rattle.std.proofs.lemmas.List.{length-replicate, take-replicate}
use Rattle.capnp_model.specs.Coverage.{Span, times_held, span, from_elements}
use Rattle.capnp_model.specs.Encoding.{struct_pointer}
use Rattle.capnp_model.specs.Sections.{section_of, words_for}
use Rattle.capnp_model.specs.Segments.{Segments, Place, after, words_at}
use Rattle.capnp_model.specs.Traversal.{tag_in, each, each_element, tree_of, tree_at, Tag}
use Rattle.capnp_model.specs.Trees.{plain_list, none, element, element_count, size_bits, resized}
use Rattle.capnp_model.proofs.lemmas.PointerWords.{struct_says, list_kind_small}
use Rattle.capnp_model.proofs.lemmas.SectionElements.{section_of-zeros}
use Rattle.capnp_model.proofs.lemmas.ReadFits.{words_length}
use Rattle.capnp_model_writes.specs.Footprints.{behind, object_footprint}
use Rattle.capnp_model_writes.specs.NewObjects.{Fits, new_list, New, new_struct, filled_list, new_pointers, new_structs, new_object, new_words, zero_elements, new_tree}
use Rattle.capnp_model_writes.proofs.lemmas.Cells.{list_is, ElementParts, list_of_parts}
use Rattle.capnp_model_writes.proofs.lemmas.Spans.{words_back, held, held_is, held_split, words_front}
use Rattle.capnp_model_writes.proofs.lemmas.Writing.{plain_is, plain_tree}
use Rattle.capnp_model_writes.proofs.lemmas.Zeros.{zero_struct, zero_struct_takes, zeros_read, zeros_behind, drop_zeros}

-- ---- lists of structs

zero_elements_read : (n : ℕ) (s : Segments) (p : Place) (d k c : ℕ) → words_at s p (c * (d + k)) ≡ Some (replicate (c * (d + k)) 0) → (each_element (tree_at n s) p (replicate (c * (d + k)) 0) d k c ≡ Some (zero_elements c k)) × (from_elements (behind n s) p d k c ≡ [])
zero_elements_read n s p d k zero e = (refl, refl)
zero_elements_read n s p d k (suc c) e =
    let sum : suc c * (d + k) ≡ (d + k) + c * (d + k) = omega arith in
    let e' : words_at s p ((d + k) + c * (d + k)) ≡ Some (replicate ((d + k) + c * (d + k)) 0) = subst (λ (m : ℕ). words_at s p m ≡ Some (replicate m 0)) sum e in
    let part : d + k ≤ (d + k) + c * (d + k) = omega arith in
    let here : words_at s p (d + k) ≡ Some (replicate (d + k) 0) = words_front s p (d + k) (c * (d + k)) _ e' ∙ ap (λ (xs : List ℕ). Some xs) (take-replicate (d + k) ((d + k) + c * (d + k)) 0 part) in
    let tail : drop (d + k) (replicate ((d + k) + c * (d + k)) 0) ≡ replicate (c * (d + k)) 0 = drop_zeros (d + k) (c * (d + k)) in
    let rest : words_at s (after p (d + k)) (c * (d + k)) ≡ Some (replicate (c * (d + k)) 0) = words_back s p (d + k) (c * (d + k)) _ e' ∙ ap (λ (xs : List ℕ). Some xs) tail in
    let kids_there : words_at s (after p d) k ≡ Some (replicate k 0) = words_back s p d k _ here ∙ ap (λ (xs : List ℕ). Some xs) (drop_zeros d k) in
    let kids : each (tree_at n s) (after p d) k ≡ Some (resized k none) = zeros_read n s (after p d) k kids_there in
    let inner = zero_elements_read n s (after p (d + k)) d k c rest in
    let more : d ≤ (d + k) + c * (d + k) = omega arith in
    let front : section_of (take d (replicate ((d + k) + c * (d + k)) 0)) ≡ 0 = ap section_of (take-replicate d ((d + k) + c * (d + k)) 0 more) ∙ section_of-zeros d in
    let tail_read : each_element (tree_at n s) (after p (d + k)) (drop (d + k) (replicate ((d + k) + c * (d + k)) 0)) d k c ≡ Some (zero_elements c k) = ap (λ (xs : List ℕ). each_element (tree_at n s) (after p (d + k)) xs d k c) tail ∙ inner.0 in (
      subst (λ (m : ℕ). each_element (tree_at n s) p (replicate m 0) d k (suc c) ≡ Some (zero_elements (suc c) k)) (sym sum) (rw (kids, tail_read) (ap (λ (x : ℕ). Some (element x (resized k none) (zero_elements c k))) front)),
      ap (λ (xs : List Span). xs ++ from_elements (behind n s) (after p (d + k)) d k c) (zeros_behind n s (after p d) k kids_there) ∙ inner.1,
    )

pub zero_counted : (c k : ℕ) → element_count (zero_elements c k) ≡ c
zero_counted zero k = refl
zero_counted (suc c) k = ap suc (zero_counted c k)

-- ---- all kinds

-- what a new object is, and what it takes
pub record IsNew (n : ℕ) (s : Segments) (p : Place) (k : ℕ) (x : New) : Type 0 where
  pub means : tree_of s (tree_at n s) (new_object p x) ≡ Some (new_tree x)
  pub takes : (q : Place) → object_footprint n s (new_object p x) q ≡ held p k q

list_new : (n : ℕ) (s : Segments) (p : Place) (size count k : ℕ) (ws : List ℕ) → size < 6 → k ≡ words_for (size_bits size * count) → words_at s p k ≡ Some ws → IsNew n s p k (filled_list size count ws)
list_new n s p size count k ws l sum e =
    let e' : words_at s p (words_for (size_bits size * count)) ≡ Some ws = ap (words_at s p) (sym sum) ∙ e in
    record {
      means = plain_tree n s p size count ws (list_kind_small size l) e';
      takes = λ q. plain_is n s p size count q (list_kind_small size l) ∙ ap (λ (m : ℕ). held p m q) (sym sum);
    }

structs_new : (n : ℕ) (s : Segments) (p : Place) (count d k : ℕ) → count < 2 ^ 29 → d < 2 ^ 16 → k < 2 ^ 16 → words_at s p (1 + count * (d + k)) ≡ Some (struct_pointer count d k ∷ replicate (count * (d + k)) 0) → IsNew n s p (1 + count * (d + k)) (new_structs count d k)
structs_new n s p count d k lc ld lk e =
    let m = count * (d + k) in
    let ws : List ℕ = struct_pointer count d k ∷ replicate (count * (d + k)) 0 in
    let behind_tag : words_at s (after p 1) (count * (d + k)) ≡ Some (replicate (count * (d + k)) 0) = words_back s p 1 (count * (d + k)) (struct_pointer count d k ∷ replicate (count * (d + k)) 0) e in
    let x = zero_elements_read n s (after p 1) d k count behind_tag in
    let says = struct_says count d k (omega (arith, lc)) ld lk in
    let long : length (replicate {A = ℕ} (count * (d + k)) 0) ≡ count * (d + k) = length-replicate {A = ℕ} (count * (d + k)) 0 in
    let fits : leb (count * (d + k)) (length (replicate {A = ℕ} (count * (d + k)) 0)) ≡ true = le-leb _ _ (omega (arith, long)) in
    let tag : tag_in (struct_pointer count d k ∷ replicate (count * (d + k)) 0) ≡ Ok (record { count = count; data_words = d; pointers = k }) = rw (says, fits) refl in
    let number : count ≡ element_count (zero_elements count k) = sym (zero_counted count k) in
    let parts : ElementParts n s p (count * (d + k)) d k (zero_elements count k) = record {
      words = struct_pointer count d k ∷ replicate (count * (d + k)) 0;
      there = e;
      tag_is = tag ∙ ap (λ (c : ℕ). let t : Tag = record { count = c; data_words = d; pointers = k } in Ok t) number;
      elements_are = subst (λ (c : ℕ). each_element (tree_at n s) (after p 1) (replicate (count * (d + k)) 0) d k c ≡ Some (zero_elements count k)) number x.0;
    } in
    let none_behind : from_elements (behind n s) (after p 1) d k (element_count (zero_elements count k)) ≡ [] = ap (λ (c : ℕ). from_elements (behind n s) (after p 1) d k c) (zero_counted count k) ∙ x.1 in
    record {
      means = list_of_parts n s p (count * (d + k)) d k (zero_elements count k) parts;
      takes = λ q. (let z : times_held (from_elements (behind n s) (after p 1) d k (element_count (zero_elements count k))) q ≡ 0 = ap (λ (xs : List Span). times_held xs q) none_behind in omega (arith, z, list_is n s p (count * (d + k)) d k (zero_elements count k) q parts, held_split p 1 (count * (d + k)) q));
    }

pub is_new : (n : ℕ) (s : Segments) (p : Place) (k : ℕ) (x : New) → Fits x → words_at s p k ≡ Some (new_words x) → IsNew n s p k x
is_new n s p k (new_struct d c) f e =
    let sum : k ≡ d + c = sym (words_length s p k _ e) ∙ length-replicate {A = ℕ} (d + c) 0 in
    let e' : words_at s p (d + c) ≡ Some (replicate (d + c) 0) = ap (words_at s p) (sym sum) ∙ e in
    record { means = zero_struct n s p d c e'; takes = λ q. zero_struct_takes n s p d c q e' ∙ ap (λ (m : ℕ). held p m q) (sym sum) }
is_new n s p k (new_list size count) f e =
    let sum : k ≡ words_for (size_bits size * count) = sym (words_length s p k _ e) ∙ length-replicate {A = ℕ} (words_for (size_bits size * count)) 0 in
    let y = list_new n s p size count k (replicate (words_for (size_bits size * count)) 0) f.0 sum e in
    let z : section_of (replicate (words_for (size_bits size * count)) 0) % 2 ^ (size_bits size * count) ≡ 0 = ap (λ (x : ℕ). x % 2 ^ (size_bits size * count)) (section_of-zeros (words_for (size_bits size * count))) ∙ nothing_left (2 ^ (size_bits size * count)) in
    record { means = y.means ∙ ap (λ (x : ℕ). Some (plain_list size count x)) z; takes = y.takes }
  where
    nothing_left : (m : ℕ) → 0 % m ≡ 0
    nothing_left m = omega arith
is_new n s p k (filled_list size count ws) f e = list_new n s p size count k ws f.0 (sym (words_length s p k ws e) ∙ f.2) e
is_new n s p k (new_pointers count) f e =
    let sum : k ≡ count = sym (words_length s p k _ e) ∙ length-replicate {A = ℕ} count 0 in
    let e' : words_at s p count ≡ Some (replicate count 0) = ap (words_at s p) (sym sum) ∙ e in
    let kids : each (tree_at n s) p count ≡ Some (resized count none) = zeros_read n s p count e' in
    record {
      means = rw (e', kids) refl;
      takes = λ q. ap (λ (xs : List Span). times_held (span p count ∷ xs) q) (zeros_behind n s p count e') ∙ omega (arith, held_is p count [] q) ∙ ap (λ (m : ℕ). held p m q) (sym sum);
    }
is_new n s p k (new_structs count d c) f e =
    let sum : k ≡ 1 + count * (d + c) = sym (words_length s p k _ e) ∙ omega (arith, length-replicate {A = ℕ} (count * (d + c)) 0) in
    subst (λ (m : ℕ). IsNew n s p m (new_structs count d c)) (sym sum) (structs_new n s p count d c f.0 f.1 f.2 (ap (words_at s p) (sym sum) ∙ e))
