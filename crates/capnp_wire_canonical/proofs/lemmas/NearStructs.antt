-- Whether structs stand whose pointers lead to them in their own segment.
use Rattle.std.proofs.Common.{◌≡◌, ℕ, zero, suc, ◌+◌, ◌-◌, ◌^◌, ◌<◌, ◌≤◌, Some, Ok, refl, ap, sym, ◌∙◌, true, inl, inr, arith}
use Rattle.std.specs.Option.{is_some}
use Rattle.std.proofs.Math.Nat.{eq-zero-or-pos}
use Rattle.capnp_model.specs.Chains.{◌>>=◌}
use Rattle.capnp_model.specs.Sections.{needed_words}
use Rattle.capnp_model.specs.Segments.{Segments, Place, after, word_at, words_at}
use Rattle.capnp_model.specs.Spelling.{AreWords}
use Rattle.capnp_model.specs.Trees.{Tree, structure, Trees, none, ◌▸◌, tree_count, resized}
use Rattle.capnp_model.specs.Traversal.{tree_at, each}
use Rattle.capnp_model.specs.Trimming.{stripped, trim, trim_each}
use Rattle.capnp_model.specs.Encoding.{struct_pointer, pointer}
use Rattle.capnp_model.proofs.lemmas.Numbers.{needed_words_le}
use Rattle.capnp_model.proofs.lemmas.Stripping.{count-resized}
use Rattle.capnp_wire_objects.specs.declared.place.Place as wire
use Rattle.capnp_wire_objects.specs.declared.object.Object.TheVariants as object
use Rattle.capnp_wire_objects.specs.Places.{place_view}
use Rattle.capnp_wire_objects.specs.Objects.{object_at}
use Rattle.capnp_wire_objects.specs.Inside.{section_at, words_there}
use Rattle.capnp_wire_canonical.specs.Widths.{kept, IsLeast}
use Rattle.capnp_wire_canonical.specs.Standing.{segment_words, Stands}
use Rattle.capnp_wire_canonical.proofs.Kept.{kept_few, widest_one}
use Rattle.capnp_wire_canonical.proofs.NearPlaces.{struct_near, empty_near, struct_narrow}
use Rattle.capnp_wire_canonical.proofs.Parts.{part_there, there_length}
use Rattle.capnp_wire_canonical.proofs.StandingObjects.{lead_word, least_struct, struct_word}
use Rattle.capnp_wire_canonical.proofs.StandingPlaces.{IsThere, struct_where}

-- ---- pointers to structs

-- only the sizes tell
pub same_pointer : (gap a x y : ℕ) (ts us : Trees) → tree_count ts ≡ tree_count us → pointer gap (structure a x ts) ≡ pointer gap (structure a y us)
same_pointer gap (suc a) x y ts us e = ap (struct_pointer gap (suc a)) e
same_pointer gap zero x y none none e = refl
same_pointer gap zero x y none (u ▸ us) e = absurd (omega arith)
same_pointer gap zero x y (t ▸ ts) none e = absurd (omega arith)
same_pointer gap zero x y (t ▸ ts) (u ▸ us) e = ap (struct_pointer gap zero) e

some_pointer : (gap a x : ℕ) (ts : Trees) → 0 < a + tree_count ts → pointer gap (structure a x ts) ≡ struct_pointer gap a (tree_count ts)
some_pointer gap (suc a) x ts h = refl
some_pointer gap zero x none h = absurd (omega arith)
some_pointer gap zero x (t ▸ ts) h = refl

no_pointer : (gap a x : ℕ) (ts : Trees) → a ≡ 0 → tree_count ts ≡ 0 → pointer gap (structure a x ts) ≡ struct_pointer (2 ^ 30 - 1) 0 0
no_pointer gap (suc a) x ts e f = absurd (omega arith)
no_pointer gap zero x none e f = refl
no_pointer gap zero x (t ▸ ts) e f = absurd (omega arith)

-- ---- a struct

module _ (n : ℕ) (s : Segments) (p : Place) (head : ℕ) (start : wire.Place) (d k : ℕ) (inside : is_some (words_at s (place_view start) (d + k)) ≡ true) (whole : AreWords (segment_words s p.segment)) (near : object_at s p ≡ Ok (record { pads = 0; object = object.Struct start d k }))
    (behind : p.position + 1 ≤ head) where
  -- the least sizes
  sizes : (needed_words d (section_at s (place_view start) d) ≡ needed_words d (section_at s (place_view start) d)) × ((ts : Trees) → each (tree_at n s) (after (place_view start) d) k ≡ Some ts → tree_count (stripped (trim_each ts)) ≡ kept (words_there s (after (place_view start) d) k))
  sizes =
      let q = place_view start in
      least_struct n s q d k (needed_words d (section_at s q d)) (kept (words_there s (after q d) k)) inside (sym (widest_one (λ r. needed_words d (section_at s r d)) q (d + k))) (sym (widest_one (λ r. kept (words_there s r k)) (after q d) (d + k)))

  pub struct_stands : (end : ℕ) (t : Tree) → head < 2 ^ 29 → (each (tree_at n s) (after (place_view start) d) k >>= λ ts. Some (structure d (section_at s (place_view start) d) ts)) ≡ Some t → Stands s p head (trim t) end
      → IsLeast s (place_view start) d k × IsThere p head start d k
  struct_stands end t small e stand =
      let q = place_view start in
      let section = section_at s q d in
      let a = needed_words d section in
      let b = kept (words_there s (after q d) k) in
      let gap = head - p.position - 1 in
      let us = resized b none in
      let long = count-resized b none in
      let x = pointer gap (structure a section us) in
      let word = struct_word s p (after q d) head d k a b x section end (tree_at n s) t refl sizes.1 (λ ts count. same_pointer gap a section section us ts (long ∙ sym count)) e stand in
      let narrow = struct_narrow s p head whole start d k (lead_word s p (object.Struct start d k) (0, near)).0 (lead_word s p (object.Struct start d k) (0, near)).1 near in
      let less = needed_words_le d section in
      let few = kept_few (words_there s (after q d) k) in
      let length = there_length s (after q d) k (part_there s q (d + k) inside d k (omega arith)) in
      let here = struct_where s p head start d k (0, near) gap a b x (omega arith) (omega arith) (omega arith) (omega arith) (λ y ts count. same_pointer gap a section y us ts (long ∙ sym count)) word in
      ((sym here.0, sym here.1), here.2)

  module _ (least : IsLeast s (place_view start) d k) where
    pub least_words : d ≡ needed_words d (section_at s (place_view start) d)
    least_words = sym least.0

    pub least_count : (ts : Trees) → each (tree_at n s) (after (place_view start) d) k ≡ Some ts → tree_count (stripped (trim_each ts)) ≡ k
    least_count ts e = sizes.1 ts e ∙ least.1

  -- where it begins
  pub struct_there : (begins : ℕ) → (place_view start).position ≡ begins → (d + k ≡ 0 → begins ≡ p.position) → ((d + k ≡ 0 → ⊥) → begins ≡ head)
      → IsThere p head start d k × ((ts : Trees) → tree_count ts ≡ k → word_at s p ≡ Some (pointer (head - p.position - 1) (structure d (section_at s (place_view start) d) ts)))
  struct_there begins at empty some = elim (eq-zero-or-pos (d + k)) [
    | inl none_there ↦
        let w = lead_word s p (object.Struct start d k) (0, near) in
        let d_none : d ≡ 0 = omega arith in
        let k_none : k ≡ 0 = omega arith in
        let here = empty_near s p head whole start d k w.0 w.1 near (at ∙ empty none_there) in (
          inr (here.1, d_none, k_none),
          λ ts count. here.0 ∙ ap (λ (j : ℕ). Some (struct_pointer (2 ^ 30 - 1) j k)) d_none ∙ ap (λ (j : ℕ). Some (struct_pointer (2 ^ 30 - 1) 0 j)) k_none ∙ ap (λ (j : ℕ). Some j) (sym (no_pointer (head - p.position - 1) d (section_at s (place_view start) d) ts d_none (count ∙ k_none))),
        )
    | inr more ↦
        let w = lead_word s p (object.Struct start d k) (0, near) in
        let here = struct_near s p head whole start d k w.0 w.1 near (at ∙ some (λ z. omega arith)) behind in (
          inl (here.1, more),
          λ ts count.
              let some_there : 0 < d + tree_count ts = omega arith in
              here.0 ∙ ap (λ (j : ℕ). Some (struct_pointer (head - p.position - 1) d j)) (sym count) ∙ ap (λ (j : ℕ). Some j) (sym (some_pointer (head - p.position - 1) d (section_at s (place_view start) d) ts some_there)),
        )
  ]
