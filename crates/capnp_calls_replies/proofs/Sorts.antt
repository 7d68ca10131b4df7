-- Structs and lists are shown only where their types stand.
use Rattle.std.proofs.Common.{◌≡◌, ℕ, ◌*◌, Bool, true, false, if◌then◌else◌, Option, Some, None, List, Result, Ok, refl, subst}
use Rattle.capnp_model.specs.Kinds.{Kind}
use Rattle.capnp_model.specs.Chains.{◌and_then◌}
use Rattle.capnp_model.specs.Schemas.{PlainType, bool, int, uint, «enum», width, Ty, void, plain, text, blob, untyped, interface, struct, list, Value, no_value, bits, text_bytes, blob_bytes, list_segment, struct_segment, untyped_value, interface_value, Schema}
use Rattle.capnp_model.specs.Accepted.{default_bits}
use Rattle.capnp_model.proofs.lemmas.Chaining.{ok_is, bind_ok}
use Rattle.capnp_wire.specs.Views.{PointerView, StructView, ListView, pointer_field, element_as_struct, element_number}
use Rattle.capnp_wire.specs.Reads.{is_null_pointer}
use Rattle.capnp_values.specs.Sources.{default_pointer, masked_bits}
use Rattle.capnp_values.specs.Shown.{Shown, a_number, an_enum, a_text, a_blob, a_struct, a_list, a_pointer, a_capability, number_shown, shown_behind, segment_opened, default_opened, slot_opened, slot_shown, element_shown}

-- A struct is of the type's shape, a list's elements are of its element type.
abbrev pub IsSorted : Schema → Ty → Shown → Type 0
IsSorted s ty (a_number t n) = Unit {0}
IsSorted s ty (an_enum t id n) = Unit {0}
IsSorted s ty (a_text bytes) = Unit {0}
IsSorted s ty (a_blob bytes) = Unit {0}
IsSorted s ty (a_struct t g v) = (id : ℕ) × (ty ≡ struct id) × (g ≡ s.shape_of id)
IsSorted s ty (a_list t e l) = ty ≡ list e
IsSorted s ty (a_pointer p) = Unit {0}
IsSorted s ty a_capability = Unit {0}

module _ (s : Schema) where
  bytes_sorted : (ty : Ty) (r : Result (List ℕ) Kind) (f : List ℕ → Shown) → ((bytes : List ℕ) → IsSorted s ty (f bytes)) → (x : Shown) → (r and_then λ bytes. Ok (f bytes)) ≡ Ok x → IsSorted s ty x
  bytes_sorted ty r f fit x e = let a = bind_ok r _ x e in subst (IsSorted s ty) (ok_is _ _ a.2) (fit a.0)

  struct_sorted : (r : Result StructView Kind) (id : ℕ) (x : Shown) → (r and_then λ v. Ok (a_struct s (s.shape_of id) v)) ≡ Ok x → IsSorted s (struct id) x
  struct_sorted r id x e = let a = bind_ok r _ x e in subst (IsSorted s (struct id)) (ok_is _ _ a.2) (id, refl, refl)

  list_sorted : (r : Result ListView Kind) (ty : Ty) (x : Shown) → (r and_then λ l. Ok (a_list s ty l)) ≡ Ok x → IsSorted s (list ty) x
  list_sorted r ty x e = let a = bind_ok r _ x e in subst (IsSorted s (list ty)) (ok_is _ _ a.2) refl

  opened_sorted : (ty : Ty) (p : PointerView) (x : Shown) → shown_behind s ty p ≡ Ok x → IsSorted s ty x
  opened_sorted void p x e = subst (IsSorted s void) (ok_is _ _ e) tt
  opened_sorted (plain q) p x e = subst (IsSorted s (plain q)) (ok_is _ _ e) tt
  opened_sorted text p x e = bytes_sorted text _ (λ bytes. a_text bytes) (λ bytes. tt) x e
  opened_sorted blob p x e = bytes_sorted blob _ (λ bytes. a_blob bytes) (λ bytes. tt) x e
  opened_sorted untyped p x e = subst (IsSorted s untyped) (ok_is _ _ e) tt
  opened_sorted interface p x e = subst (IsSorted s interface) (ok_is _ _ e) tt
  opened_sorted (struct id) p x e = struct_sorted _ id x e
  opened_sorted (list ty) p x e = list_sorted _ ty x e

  segment_sorted : (ty : Ty) (p : PointerView) (bytes : List ℕ) (x : Shown) → segment_opened s ty p bytes ≡ Ok x → IsSorted s ty x
  segment_sorted void p bytes x e = opened_sorted void p x e
  segment_sorted (plain q) p bytes x e = opened_sorted (plain q) p x e
  segment_sorted text p bytes x e = opened_sorted text p x e
  segment_sorted blob p bytes x e = opened_sorted blob p x e
  segment_sorted untyped p bytes x e = opened_sorted untyped p x e
  segment_sorted interface p bytes x e = opened_sorted interface p x e
  segment_sorted (struct id) p bytes x e = opened_sorted (struct id) (default_pointer bytes) x e
  segment_sorted (list ty) p bytes x e = opened_sorted (list ty) (default_pointer bytes) x e

  default_sorted : (ty : Ty) (p : PointerView) (d : Value) (x : Shown) → default_opened s ty p d ≡ Ok x → IsSorted s ty x
  default_sorted ty p no_value x e = opened_sorted ty p x e
  default_sorted ty p (bits q n) x e = opened_sorted ty p x e
  default_sorted ty p (text_bytes bytes) x e = subst (IsSorted s ty) (ok_is _ _ e) tt
  default_sorted ty p (blob_bytes bytes) x e = subst (IsSorted s ty) (ok_is _ _ e) tt
  default_sorted ty p (list_segment bytes) x e = segment_sorted ty p bytes x e
  default_sorted ty p (struct_segment bytes) x e = segment_sorted ty p bytes x e
  default_sorted ty p untyped_value x e = opened_sorted ty p x e
  default_sorted ty p interface_value x e = opened_sorted ty p x e

  slot_pointer_sorted : (ty : Ty) (d : Option Value) (p : PointerView) (x : Shown) → slot_opened s ty d p ≡ Ok x → IsSorted s ty x
  slot_pointer_sorted ty None p x e = opened_sorted ty p x e
  slot_pointer_sorted ty (Some d) p x e = by (is_null_pointer p) e
    where
      by : (b : Bool) → (if b then default_opened s ty p d else shown_behind s ty p) ≡ Ok x → IsSorted s ty x
      by true h = default_sorted ty p d x h
      by false h = opened_sorted ty p x h

  number_sorted : (ty : Ty) (p : PlainType) (n : ℕ) → IsSorted s ty (number_shown s p n)
  number_sorted ty bool n = tt
  number_sorted ty (int w) n = tt
  number_sorted ty (uint w) n = tt
  number_sorted ty («enum» id) n = tt

  -- what a slot shows
  pub slot_sorted : (ty : Ty) (v : StructView) (offset : ℕ) (d : Option Value) (x : Shown) → slot_shown s v offset ty d ≡ Ok x → IsSorted s ty x
  slot_sorted void v offset d x e = subst (IsSorted s void) (ok_is _ _ e) tt
  slot_sorted (plain p) v offset d x e = subst (IsSorted s (plain p)) (ok_is _ _ e) (number_sorted (plain p) p (masked_bits v (width p * offset) (width p) (default_bits d)))
  slot_sorted text v offset d x e = slot_pointer_sorted text d (pointer_field v offset) x e
  slot_sorted blob v offset d x e = slot_pointer_sorted blob d (pointer_field v offset) x e
  slot_sorted untyped v offset d x e = slot_pointer_sorted untyped d (pointer_field v offset) x e
  slot_sorted interface v offset d x e = slot_pointer_sorted interface d (pointer_field v offset) x e
  slot_sorted (struct id) v offset d x e = slot_pointer_sorted (struct id) d (pointer_field v offset) x e
  slot_sorted (list ty) v offset d x e = slot_pointer_sorted (list ty) d (pointer_field v offset) x e

  -- what an element shows
  pub element_sorted : (ty : Ty) (l : ListView) (i : ℕ) (x : Shown) → element_shown s ty l i ≡ Ok x → IsSorted s ty x
  element_sorted void l i x e = subst (IsSorted s void) (ok_is _ _ e) tt
  element_sorted (plain p) l i x e = subst (IsSorted s (plain p)) (ok_is _ _ e) (number_sorted (plain p) p (element_number l i (width p)))
  element_sorted text l i x e = opened_sorted text (pointer_field (element_as_struct l i) 0) x e
  element_sorted blob l i x e = opened_sorted blob (pointer_field (element_as_struct l i) 0) x e
  element_sorted untyped l i x e = opened_sorted untyped (pointer_field (element_as_struct l i) 0) x e
  element_sorted interface l i x e = opened_sorted interface (pointer_field (element_as_struct l i) 0) x e
  element_sorted (struct id) l i x e = subst (IsSorted s (struct id)) (ok_is _ _ e) (id, refl, refl)
  element_sorted (list ty) l i x e = opened_sorted (list ty) (pointer_field (element_as_struct l i) 0) x e
