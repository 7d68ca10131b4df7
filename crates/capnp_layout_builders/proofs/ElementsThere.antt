-- The words of elements of a list that lies whole.
use Rattle.std.proofs.Common.{◌≡◌, ℕ, ◌+◌, ◌*◌, ◌/◌, ◌%◌, ◌<◌, ◌≤◌, ◌==◌, if◌then◌else◌, true, refl, ap, sym, subst, ◌∙◌, arith}
use Rattle.std.proofs.Math.Nat.{mul-le-mul_right}
use Rattle.std.specs.Option.{is_some}
use Rattle.capnp_model.specs.Sections.{words_for}
use Rattle.capnp_model.specs.Segments.{Segments, Place, place, after, words_at}
use Rattle.capnp_units.specs.declared.sizes.ElementSize.{ElementSize}
use Rattle.capnp_units.specs.declared.sizes.ElementSize.TheVariants.{Void, Bit, Byte, TwoBytes, FourBytes, EightBytes, Pointer, InlineComposite}
use Rattle.capnp_units.specs.Sizes.{size_number}
use Rattle.capnp_wire.specs.Elements.{element_bits, element_pointers, step_bits, step_words}
use Rattle.capnp_wire_objects.specs.Objects.{AreThere}
use Rattle.capnp_wire_objects.specs.Places.{place_view}
use Rattle.capnp_wire_objects.specs.declared.place.Place as code
use Rattle.capnp_copy_arenas.specs.Elements.{IsWhole}
use Rattle.capnp_copy_arenas.specs.declared.fields.StructPlace.{StructPlace}
use Rattle.capnp_copy_arenas.specs.declared.init.ListPlace.{ListPlace}
use Rattle.capnp_copy_arenas.proofs.lemmas.Parts.{section_there}
use Rattle.capnp_layout_builders.specs.Elements.{IsWithPointer, IsPointerElement, IsWholeElement, IsStructElement}

-- where the first element begins, by the number of the size
abbrev first : Place → ℕ → Place
first p z = after p (if z == 7 then 1 else 0)

-- a part of what is there, at a place that is the same by its position
part : (s : Segments) (p q : Place) (at n m : ℕ) → q ≡ after p at → at + n ≤ m → is_some (words_at s p m) ≡ true → is_some (words_at s q n) ≡ true
part s p q at n m e l there = subst (λ (r : Place). is_some (words_at s r n) ≡ true) (sym e) (section_there s p at n m l there)

-- ---- pointers

module _ (s : Segments) (l : ListPlace) (i : ℕ) (q : code.Place) (is : IsPointerElement l i q) (whole : IsWhole s l) (inside : i < l.count) where
  pointer_at : (z : ℕ) → size_number l.size ≡ z → place_view q ≡ after (first (place_view l.start) z) (step_words z l.data_words l.pointers * i + element_bits z l.data_words / 64)
  pointer_at z e = is ∙ ap (λ (x : ℕ). after (first (place_view l.start) x) (step_words x l.data_words l.pointers * i + element_bits x l.data_words / 64)) e

  by_size : (z : ElementSize) → l.size ≡ z → 0 < element_pointers (size_number z) l.pointers → is_some (words_at s (place_view q) 1) ≡ true
  by_size Void e h = absurd (omega (arith, h))
  by_size Bit e h = absurd (omega (arith, h))
  by_size Byte e h = absurd (omega (arith, h))
  by_size TwoBytes e h = absurd (omega (arith, h))
  by_size FourBytes e h = absurd (omega (arith, h))
  by_size EightBytes e h = absurd (omega (arith, h))
  by_size Pointer e h =
      let p = place_view l.start in
      let at : place_view q ≡ after p i = pointer_at 6 (ap size_number e) ∙ ap (place p.segment) (omega arith) in
      part s p (place_view q) i 1 l.count at (omega (arith, inside)) (whole.1 (ap size_number e)).0
  by_size InlineComposite e h =
      let p = place_view l.start in
      let w : ℕ = l.data_words + l.pointers in
      let at : place_view q ≡ after p (1 + (w * i + l.data_words)) = pointer_at 7 (ap size_number e) ∙ ap (place p.segment) (omega arith) in
      let x = whole.2 (ap size_number e) in
      let fits = x.1 in
      let row : (i + 1) * w ≤ l.count * w = mul-le-mul_right w (omega (arith, inside)) in
      part s p (place_view q) (1 + (w * i + l.data_words)) 1 (1 + l.claimed) at (omega (arith, fits, row, h)) x.0.0

pub pointer_there : (s : Segments) (l : ListPlace) (i : ℕ) (q : code.Place) → IsWithPointer l i → IsPointerElement l i q → IsWhole s l → is_some (words_at s (place_view q) 1) ≡ true
pointer_there s l i q h is whole = by_size s l i q is whole h.inside l.size refl h.wide

-- ---- structs

module _ (s : Segments) (l : ListPlace) (i : ℕ) (o : StructPlace) (is : IsStructElement l i o) (whole : IsWhole s l) (inside : i < l.count) where
  width_of : (d k : ℕ) → 64 * o.data_words ≡ 64 * d → o.pointers ≡ k → o.data_words + o.pointers ≡ d + k
  width_of d k a b = omega (arith, a, b)

  -- a struct of n words and k pointers at a place, of m words that are there
  struct_in : (z d k at m : ℕ) (p : Place) → size_number l.size ≡ z → element_bits z l.data_words ≡ 64 * d → element_pointers z l.pointers ≡ k → after (first (place_view l.start) z) (i * (d + k)) ≡ after p at → at + (d + k) ≤ m → is_some (words_at s p m) ≡ true
      → is_some (words_at s (place_view o.start) (o.data_words + o.pointers)) ≡ true
  struct_in z d k at m p e bits refs same less there =
      let width : o.data_words + o.pointers ≡ d + k = width_of d k (is.data_words ∙ ap (λ (x : ℕ). element_bits x l.data_words) e ∙ bits) (is.pointers ∙ ap (λ (x : ℕ). element_pointers x l.pointers) e ∙ refs) in
      let here : place_view o.start ≡ after p at = is.place ∙ ap (λ (x : ℕ). after (first (place_view l.start) x) (i * (o.data_words + o.pointers))) e ∙ ap (λ (x : ℕ). after (first (place_view l.start) z) (i * x)) width ∙ same in
      subst (λ (n : ℕ). is_some (words_at s (place_view o.start) n) ≡ true) (sym width) (part s p (place_view o.start) at (d + k) m here less there)

  -- the words of plain elements
  plain_words : (z : ℕ) → size_number l.size ≡ z → AreThere s (first (place_view l.start) z) (words_for (step_bits z l.data_words l.pointers * l.count))
  plain_words z e = subst (λ (x : ℕ). AreThere s (first (place_view l.start) x) (words_for (step_bits x l.data_words l.pointers * l.count))) e whole.0.0

  of_size : (z : ElementSize) → l.size ≡ z → element_bits (size_number z) l.data_words % 64 ≡ 0 → is_some (words_at s (place_view o.start) (o.data_words + o.pointers)) ≡ true
  of_size Void e h =
      let there = plain_words 0 (ap size_number e) in
      struct_in 0 0 0 (i * 0) (words_for (0 * l.count)) (first (place_view l.start) 0) (ap size_number e) refl refl refl (omega arith) there.0
  of_size Bit e h = absurd (omega (arith, h))
  of_size Byte e h = absurd (omega (arith, h))
  of_size TwoBytes e h = absurd (omega (arith, h))
  of_size FourBytes e h = absurd (omega (arith, h))
  of_size EightBytes e h =
      let there = plain_words 5 (ap size_number e) in
      struct_in 5 1 0 (i * 1) (words_for (64 * l.count)) (first (place_view l.start) 5) (ap size_number e) refl refl refl (omega (arith, inside)) there.0
  of_size Pointer e h =
      let p = place_view l.start in
      struct_in 6 0 1 i l.count p (ap size_number e) refl refl (ap (place p.segment) (omega arith)) (omega (arith, inside)) (whole.1 (ap size_number e)).0
  of_size InlineComposite e h =
      let p = place_view l.start in
      let w : ℕ = l.data_words + l.pointers in
      let x = whole.2 (ap size_number e) in
      let fits = x.1 in
      let row : (i + 1) * w ≤ l.count * w = mul-le-mul_right w (omega (arith, inside)) in
      struct_in 7 l.data_words l.pointers (1 + i * w) (1 + l.claimed) p (ap size_number e) refl refl (ap (place p.segment) (omega arith)) (omega (arith, fits, row)) x.0.0

pub struct_there : (s : Segments) (l : ListPlace) (i : ℕ) (o : StructPlace) → IsWholeElement l i → IsStructElement l i o → IsWhole s l → is_some (words_at s (place_view o.start) (o.data_words + o.pointers)) ≡ true
struct_there s l i o h is whole = of_size s l i o is whole h.inside l.size refl h.whole
