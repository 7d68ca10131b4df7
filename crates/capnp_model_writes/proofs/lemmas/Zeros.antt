-- Null pointers, and objects whose words are zero.
use Rattle.std.proofs.Common.{◌≡◌, ℕ, zero, suc, ◌+◌, List, drop, Some, refl, sym, ◌∙◌, arith, ◌≤◌, ap, Ok, [], ◌∷◌, ◌++◌, replicate, Option}
use Rattle.std.proofs.lemmas.List.{take-replicate}
use Rattle.capnp_model.specs.Coverage.{Span, times_held, span, pads_by, from_each, covered_object, covered_found}
use Rattle.capnp_model.specs.Pointers.{nothing, a_struct, found_at}
use Rattle.capnp_model.specs.Sections.{section_of}
use Rattle.capnp_model.specs.Segments.{Segments, Place, after, words_at, word_at}
use Rattle.capnp_model.specs.Traversal.{each, tree_of, tree_at}
use Rattle.capnp_model.specs.Trees.{null, structure, none, resized}
use Rattle.capnp_model.proofs.lemmas.Locality.{word_was}
use Rattle.capnp_model.proofs.lemmas.SectionElements.{section_of-zeros}
use Rattle.capnp_model_writes.specs.Footprints.{behind, object_footprint, footprint}
use Rattle.capnp_model_writes.proofs.lemmas.Growing.{held_not}
use Rattle.capnp_model_writes.proofs.lemmas.Lift.{struct_of_parts}
use Rattle.capnp_model_writes.proofs.lemmas.Spans.{words_back, held, held_is, words_front, held_low, held_high}

pub held_none : (p q : Place) → held p 0 q ≡ 0
held_none p q = held_not p 0 q (λ h. absurd (omega (arith, held_low p 0 q h, held_high p 0 q h)))

pub null_found : (s : Segments) (p : Place) → word_at s p ≡ Some 0 → found_at s p ≡ Ok (record { pads = 0; object = nothing })
null_found s p e = rw e refl

pub null_read : (n : ℕ) (s : Segments) (p : Place) → word_at s p ≡ Some 0 → tree_at n s p ≡ Some null
unfolding tree_at
null_read zero s p e = rw (null_found s p e) refl
null_read (suc n) s p e = rw (null_found s p e) refl

pub null_behind : (n : ℕ) (s : Segments) (p : Place) → word_at s p ≡ Some 0 → behind n s p ≡ []
unfolding behind
null_behind zero s p e = ap pads_by e
null_behind (suc n) s p e =
    ap (λ (o : Option ℕ). pads_by o ++ covered_found (covered_object s (behind n s)) (found_at s p)) e
    ∙ ap (covered_found (covered_object s (behind n s))) (null_found s p e)

pub null_footprint : (n : ℕ) (s : Segments) (p q : Place) → word_at s p ≡ Some 0 → footprint n s p q ≡ held p 1 q
null_footprint n s p q e = ap (λ (xs : List Span). times_held (span p 1 ∷ xs) q) (null_behind n s p e) ∙ omega (arith, held_is p 1 [] q)

pub first_zero : (s : Segments) (p : Place) (k : ℕ) → words_at s p (suc k) ≡ Some (replicate (suc k) 0) → (word_at s p ≡ Some 0) × (words_at s (after p 1) k ≡ Some (replicate k 0))
first_zero s p k e =
    let sum : suc k ≡ 1 + k = omega arith in
    let e' : words_at s p (1 + k) ≡ Some (replicate (suc k) 0) = ap (words_at s p) (sym sum) ∙ e in
    (word_was s p 0 (words_front s p 1 k _ e'), words_back s p 1 k _ e')

pub zeros_read : (n : ℕ) (s : Segments) (p : Place) (k : ℕ) → words_at s p k ≡ Some (replicate k 0) → each (tree_at n s) p k ≡ Some (resized k none)
zeros_read n s p zero e = refl
zeros_read n s p (suc k) e =
    let x = first_zero s p k e in
    let here : tree_at n s p ≡ Some null = null_read n s p x.0 in
    let rest : each (tree_at n s) (after p 1) k ≡ Some (resized k none) = zeros_read n s (after p 1) k x.1 in
    rw (here, rest) refl

pub zeros_behind : (n : ℕ) (s : Segments) (p : Place) (k : ℕ) → words_at s p k ≡ Some (replicate k 0) → from_each (behind n s) p k ≡ []
zeros_behind n s p zero e = refl
zeros_behind n s p (suc k) e =
    let x = first_zero s p k e in
    ap (λ (xs : List Span). xs ++ from_each (behind n s) (after p 1) k) (null_behind n s p x.0) ∙ zeros_behind n s (after p 1) k x.1

pub drop_zeros : (d k : ℕ) → drop d (replicate {A = ℕ} (d + k) 0) ≡ replicate {A = ℕ} k 0
drop_zeros zero k = let e : 0 + k ≡ k = omega arith in ap (λ (n : ℕ). replicate {A = ℕ} n 0) e
drop_zeros (suc d) k = let e : suc d + k ≡ suc (d + k) = omega arith in ap (λ (n : ℕ). drop (suc d) (replicate {A = ℕ} n 0)) e ∙ drop_zeros d k

pub zero_struct : (n : ℕ) (s : Segments) (p : Place) (d k : ℕ) → words_at s p (d + k) ≡ Some (replicate (d + k) 0) → tree_of s (tree_at n s) (a_struct p d k) ≡ Some (structure d 0 (resized k none))
zero_struct n s p d k e =
    let l : d ≤ d + k = omega arith in
    let back : words_at s (after p d) k ≡ Some (replicate k 0) = words_back s p d k _ e ∙ ap (λ (xs : List ℕ). Some xs) (drop_zeros d k) in
    struct_of_parts n s p d k 0 (resized k none) (record {
      words = replicate (d + k) 0;
      there = e;
      section_is = ap section_of (take-replicate d (d + k) 0 l) ∙ section_of-zeros d;
      kids_are = zeros_read n s (after p d) k back;
    })

pub zero_struct_takes : (n : ℕ) (s : Segments) (p : Place) (d k : ℕ) (q : Place) → words_at s p (d + k) ≡ Some (replicate (d + k) 0) → object_footprint n s (a_struct p d k) q ≡ held p (d + k) q
zero_struct_takes n s p d k q e =
    let back : words_at s (after p d) k ≡ Some (replicate k 0) = words_back s p d k _ e ∙ ap (λ (xs : List ℕ). Some xs) (drop_zeros d k) in
    ap (λ (xs : List Span). times_held (span p (d + k) ∷ xs) q) (zeros_behind n s (after p d) k back) ∙ omega (arith, held_is p (d + k) [] q)
