-- The numbers at the front of elements that are structs, and where elements lie.
use Rattle.std.proofs.Common.{◌≡◌, ℕ, zero, suc, ◌+◌, ◌*◌, ◌/◌, ◌%◌, ◌^◌, ◌<◌, ◌≤◌, ◌==◌, if◌then◌else◌, refl, ap, sym, subst, ◌∙◌, arith}
use Rattle.std.specs.Prelude.{◌≢◌}
use Rattle.capnp_model.specs.Segments.{Segments, Place, after}
use Rattle.capnp_model.specs.Pointers.{Object, a_struct, a_list}
use Rattle.capnp_model.specs.Trees.{Tree, Trees, structure, struct_list, Elements, no_elements, element, element_count, size_bits}
use Rattle.capnp_units.specs.declared.sizes.ElementSize.{ElementSize}
use Rattle.capnp_units.specs.declared.sizes.ElementSize.TheVariants.{Void, Bit, Byte, TwoBytes, FourBytes, EightBytes, Pointer, InlineComposite}
use Rattle.capnp_units.specs.Sizes.{size_number}
use Rattle.capnp_wire.specs.Elements.{element_bits, element_pointers}
use Rattle.capnp_wire_objects.specs.Places.{place_view}
use Rattle.capnp_model_writes.specs.Changes.{ReplacesObject}
use Rattle.capnp_model_writes.specs.Elements.{element_at, with_element}
use Rattle.capnp_model_writes.specs.Footprints.{OwnsObject}
use Rattle.capnp_model_writes.proofs.lemmas.Cells.{element_of_list, list_of_element}
use Rattle.capnp_copy_arenas.specs.Lists.{object_of_list}
use Rattle.capnp_copy_arenas.specs.Structs.{object_of_struct}
use Rattle.capnp_copy_arenas.specs.declared.fields.StructPlace.{StructPlace}
use Rattle.capnp_copy_arenas.specs.declared.init.ListPlace.{ListPlace}
use Rattle.capnp_layout_builders.specs.Elements.{IsStructElement}

-- no plain size but those of 64 bits and of none is a whole number of words
pub no_sections : (z : ElementSize) (d k : ℕ) → z ≢ InlineComposite → z ≢ Pointer → z ≢ EightBytes → element_bits (size_number z) d % 64 ≡ 0 → (0 ≡ element_bits (size_number z) d) × (0 ≡ element_pointers (size_number z) k)
no_sections Void d k a b c h = (refl, refl)
no_sections Bit d k a b c h = absurd (omega (arith, h))
no_sections Byte d k a b c h = absurd (omega (arith, h))
no_sections TwoBytes d k a b c h = absurd (omega (arith, h))
no_sections FourBytes d k a b c h = absurd (omega (arith, h))
no_sections EightBytes d k a b c h = absurd (c refl)
no_sections Pointer d k a b c h = absurd (b refl)
no_sections InlineComposite d k a b c h = absurd (a refl)

pub few_bits : (z : ℕ) → size_bits z ≤ 64
few_bits zero = omega arith
few_bits (suc zero) = omega arith
few_bits (suc (suc zero)) = omega arith
few_bits (suc (suc (suc zero))) = omega arith
few_bits (suc (suc (suc (suc zero)))) = omega arith
few_bits (suc (suc (suc (suc (suc n))))) = omega arith

-- a plain element that has bits is a number
pub numbers_alone : (z : ElementSize) (d w : ℕ) → z ≢ InlineComposite → 0 < w → w ≤ element_bits (size_number z) d → (w ≤ size_bits (size_number z)) × (size_number z < 6)
numbers_alone Void d w not some h = absurd (omega (arith, some, h))
numbers_alone Bit d w not some h = (h, omega arith)
numbers_alone Byte d w not some h = (h, omega arith)
numbers_alone TwoBytes d w not some h = (h, omega arith)
numbers_alone FourBytes d w not some h = (h, omega arith)
numbers_alone EightBytes d w not some h = (h, omega arith)
numbers_alone Pointer d w not some h = absurd (omega (arith, some, h))
numbers_alone InlineComposite d w not some h = absurd (not refl)

-- what is written as it was
pub element_same : (d i section : ℕ) (kids : Trees) (es : Elements) → element_at d es i ≡ structure d section kids → with_element es i section kids ≡ es
element_same d i section kids no_elements e = refl
element_same d zero section kids (element old ts es) e = let a : old ≡ section = cc in let b : ts ≡ kids = cc in ap (λ (x : ℕ). element x kids es) (sym a) ∙ ap (λ (x : Trees). element old x es) (sym b)
element_same d (suc i) section kids (element old ts es) e = ap (λ (x : Elements). element old ts x) (element_same d i section kids es e)

-- ---- one of the structs of a list

module _ (s : Segments) (l : ListPlace) (i : ℕ) (p : StructPlace) (seven : size_number l.size ≡ 7) (inside : i < l.count) (at : IsStructElement l i p) where
  words_are : p.data_words ≡ l.data_words
  words_are = let e : 64 * p.data_words ≡ 64 * l.data_words = at.data_words ∙ ap (λ (z : ℕ). element_bits z l.data_words) seven in omega (arith, e)

  pointers_are : p.pointers ≡ l.pointers
  pointers_are = at.pointers ∙ ap (λ (z : ℕ). element_pointers z l.pointers) seven

  list_is : object_of_list l ≡ a_list (place_view l.start) 7 l.claimed
  list_is = ap (λ (z : ℕ). a_list (place_view l.start) z l.claimed) seven

  struct_is : object_of_struct p ≡ a_struct (after (after (place_view l.start) 1) (i * (l.data_words + l.pointers))) l.data_words l.pointers
  struct_is =
      let q = place_view l.start in
      let there : place_view p.start ≡ after (after q 1) (i * (p.data_words + p.pointers)) = at.place ∙ ap (λ (z : ℕ). after (after q (if z == 7 then 1 else 0)) (i * (p.data_words + p.pointers))) seven in
      ap (λ (r : Place). a_struct r p.data_words p.pointers) there
      ∙ ap (λ (d : ℕ). a_struct (after (after q 1) (i * (d + p.pointers))) d p.pointers) words_are
      ∙ ap (λ (k : ℕ). a_struct (after (after q 1) (i * (l.data_words + k))) l.data_words k) pointers_are

  module _ (n section : ℕ) (kids : Trees) (es : Elements) (count : element_count es ≡ l.count) (is : element_at l.data_words es i ≡ structure l.data_words section kids) (owns : OwnsObject n s (object_of_list l) (struct_list l.data_words l.pointers es)) where
    listed : OwnsObject n s (a_list (place_view l.start) 7 l.claimed) (struct_list l.data_words l.pointers es)
    listed = subst (λ (y : Object). OwnsObject n s y (struct_list l.data_words l.pointers es)) list_is owns

    pub struct_owned : OwnsObject n s (object_of_struct p) (structure p.data_words section kids)
    struct_owned =
        let one = element_of_list n s (place_view l.start) l.claimed l.data_words l.pointers i es (omega (arith, inside, count)) listed in
        let named = subst (λ (t : Tree). OwnsObject n s (a_struct (after (after (place_view l.start) 1) (i * (l.data_words + l.pointers))) l.data_words l.pointers) t) is one in
        let here = subst (λ (y : Object). OwnsObject n s y (structure l.data_words section kids)) (sym struct_is) named in
        subst (λ (d : ℕ). OwnsObject n s (object_of_struct p) (structure d section kids)) (sym words_are) here

    pub struct_replaced : (u : Segments) (new : ℕ) → ReplacesObject n s u (object_of_struct p) (structure p.data_words new kids) → ReplacesObject n s u (object_of_list l) (struct_list l.data_words l.pointers (with_element es i new kids))
    struct_replaced u new r =
        let wide = subst (λ (d : ℕ). ReplacesObject n s u (object_of_struct p) (structure d new kids)) words_are r in
        let there = subst (λ (y : Object). ReplacesObject n s u y (structure l.data_words new kids)) struct_is wide in
        let whole = list_of_element n s u (place_view l.start) l.claimed l.data_words l.pointers i new kids es (omega (arith, inside, count)) listed there in
        subst (λ (y : Object). ReplacesObject n s u y (struct_list l.data_words l.pointers (with_element es i new kids))) (sym list_is) whole
