-- What is known of an element, by the size that its list has.
use Rattle.std.proofs.Common.{◌≡◌, ℕ, zero, suc, ◌+◌, ◌*◌, ◌/◌, ◌%◌, ◌^◌, ◌<◌, ◌≤◌, ◌==◌, if◌then◌else◌, ap, sym, subst, ◌∙◌, arith}
use Rattle.capnp_model.specs.Segments.{Place, after}
use Rattle.capnp_model.specs.Trees.{size_bits}
use Rattle.capnp_units.specs.Sizes.{size_number}
use Rattle.capnp_wire.specs.Elements.{element_bits, element_pointers, step_words}
use Rattle.capnp_wire_objects.specs.Places.{place_view}
use Rattle.capnp_copy_arenas.specs.Elements.{IsInElement}
use Rattle.capnp_copy_arenas.specs.declared.init.ListPlace.{ListPlace}
use Rattle.capnp_layout_builders.specs.Elements.{EndsNear, IsAtFront, IsWithPointer, IsWholeElement}

plain_wide : (z d w : ℕ) → z < 6 → w ≤ size_bits z → w ≤ element_bits z d
plain_wide zero d w l h = h
plain_wide (suc zero) d w l h = h
plain_wide (suc (suc zero)) d w l h = h
plain_wide (suc (suc (suc zero))) d w l h = h
plain_wide (suc (suc (suc (suc zero)))) d w l h = h
plain_wide (suc (suc (suc (suc (suc zero))))) d w l h = h
plain_wide (suc (suc (suc (suc (suc (suc n)))))) d w l h = absurd (omega (arith, l))

plain_near : (z d k n : ℕ) (q : Place) → z < 6 → q.position < 2 ^ 61 → (after q (if z == 7 then 1 else 0)).position + step_words z d k * n < 2 ^ 61
plain_near zero d k n q l h = omega (arith, h)
plain_near (suc zero) d k n q l h = omega (arith, h)
plain_near (suc (suc zero)) d k n q l h = omega (arith, h)
plain_near (suc (suc (suc zero))) d k n q l h = omega (arith, h)
plain_near (suc (suc (suc (suc zero)))) d k n q l h = omega (arith, h)
plain_near (suc (suc (suc (suc (suc zero))))) d k n q l h = omega (arith, h)
plain_near (suc (suc (suc (suc (suc (suc m)))))) d k n q l h = absurd (omega (arith, l))

-- one of a list of plain elements has n bits
pub plain_front : (l : ListPlace) (i w : ℕ) → l.start.position < 2 ^ 61 → IsInElement l i w → IsAtFront l i w
plain_front l i w near h = record {
  inside = h.0;
  wide = plain_wide (size_number l.size) l.data_words w h.2 h.1;
  near = plain_near (size_number l.size) l.data_words l.pointers l.count (place_view l.start) h.2 near;
}

-- one of a list of pointers is one
pub pointer_element : (l : ListPlace) (i : ℕ) → size_number l.size ≡ 6 → l.start.position + l.count < 2 ^ 61 → i < l.count → IsWithPointer l i
pointer_element l i six near inside = record {
  inside = inside;
  wide = subst (λ (z : ℕ). 0 < element_pointers z l.pointers) (sym six) (omega arith);
  near = subst (λ (z : ℕ). (after (place_view l.start) (if z == 7 then 1 else 0)).position + step_words z l.data_words l.pointers * l.count < 2 ^ 61) (sym six) (omega (arith, near));
}

-- one of a list of structs is one
pub struct_element : (l : ListPlace) (i : ℕ) → size_number l.size ≡ 7 → l.start.position + (1 + l.claimed) < 2 ^ 61 → l.count * (l.data_words + l.pointers) ≤ l.claimed → i < l.count → IsWholeElement l i
struct_element l i seven near fits inside = record {
  inside = inside;
  whole = subst (λ (z : ℕ). element_bits z l.data_words % 64 ≡ 0) (sym seven) (omega arith);
  near = subst (λ (z : ℕ). (after (place_view l.start) (if z == 7 then 1 else 0)).position + l.count * (element_bits z l.data_words / 64 + element_pointers z l.pointers) < 2 ^ 61) (sym seven)
      (let words : l.count * (64 * l.data_words / 64 + l.pointers) ≡ l.count * (l.data_words + l.pointers) = ap (λ (d : ℕ). l.count * (d + l.pointers)) (omega arith) in omega (arith, words, near, fits));
}

-- one of a list of structs that ends near
pub composite_element : (l : ListPlace) (i : ℕ) → size_number l.size ≡ 7 → EndsNear l → i < l.count → IsWholeElement l i
composite_element l i seven near inside = record {
  inside = inside;
  whole = subst (λ (z : ℕ). element_bits z l.data_words % 64 ≡ 0) (sym seven) (omega arith);
  near = subst (λ (z : ℕ). (after (place_view l.start) (if z == 7 then 1 else 0)).position + l.count * (element_bits z l.data_words / 64 + element_pointers z l.pointers) < 2 ^ 61) (sym seven)
      (let ends = subst (λ (z : ℕ). (after (place_view l.start) (if z == 7 then 1 else 0)).position + step_words z l.data_words l.pointers * l.count < 2 ^ 61) seven near in
      let whole : 64 * l.data_words / 64 ≡ l.data_words = omega arith in
      let words : l.count * (64 * l.data_words / 64 + l.pointers) ≡ l.count * (l.data_words + l.pointers) = ap (λ (d : ℕ). l.count * (d + l.pointers)) whole in omega (arith, words, ends));
}
