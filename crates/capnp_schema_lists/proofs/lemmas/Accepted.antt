-- What elements have that are accepted as ones of a type.
use Rattle.std.proofs.Common.{◌≡◌, ◌≢◌, ℕ, zero, suc, ◌*◌, ◌<◌, ◌≤◌, ◌&&◌, nat_le, true, None, refl, ap, sym, subst, arith}
use Rattle.capnp_model.specs.Readings.{is_accepted_as, expected_size}
use Rattle.capnp_model.specs.Schemas.{Ty, lists_of}
use Rattle.capnp_model.specs.Trees.{size_bits}
use Rattle.capnp_model.proofs.lemmas.Tests.{and_left, and_right, le_is}
use Rattle.capnp_units.specs.declared.sizes.ElementSize.{ElementSize}
use Rattle.capnp_units.specs.declared.sizes.ElementSize.TheVariants.{Void, Bit, Byte, TwoBytes, FourBytes, EightBytes, Pointer, InlineComposite}
use Rattle.capnp_units.specs.Sizes.{size_number}
use Rattle.capnp_wire.specs.Reads.{list_head}
use Rattle.capnp_copy_arenas.specs.declared.init.ListPlace.{ListPlace}
use Rattle.capnp_values_queries.specs.Types.{ty_of_base}
use Rattle.capnp_values_queries.specs.declared.introspect.Base.{Base}
use Rattle.capnp_values_queries.specs.declared.introspect.Base.TheVariants as B
use Rattle.capnp_schema_structs.specs.Inits.{struct_named}
use Rattle.capnp_schema_lists.specs.Lists.{HasElementBits, HasPointer}
use Rattle.capnp_schema_lists.specs.Elements.{Holds}

-- ---- what elements of a size have

-- plain ones of so many bits
pub plain_room : (o : ListPlace) (k w : ℕ) → size_number o.size ≡ k → k < 6 → w ≤ size_bits k → HasElementBits o w
plain_room o k w e l b = record {
  plain = λ other. (subst (λ x. x < 6) (sym e) l, subst (λ x. w ≤ size_bits x) (sym e) b);
  structs = λ seven. absurd (omega (arith, e, seven, l));
}

-- structs with a data word
pub struct_room : (o : ListPlace) (w : ℕ) → size_number o.size ≡ 7 → 0 < o.data_words → w ≤ 64 → HasElementBits o w
struct_room o w e l b = record { plain = λ other. absurd (other e); structs = λ seven. (l, b) }

some_words : (w d k : ℕ) → 0 < w → (nat_le w (64 * d) && nat_le 0 k) ≡ true → 0 < d
some_words w d k some h = let l = le_is w (64 * d) (and_left (nat_le w (64 * d)) (nat_le 0 k) h) in omega (arith, l, some)

pub bit_room : (o : ListPlace) (size : ElementSize) → o.size ≡ size → is_accepted_as 1 (list_head size o.data_words o.pointers) ≡ true → HasElementBits o 1
bit_room o Void e h = absurd (cc h)
bit_room o Bit e h = plain_room o 1 1 (ap size_number e) (omega arith) (omega arith)
bit_room o Byte e h = plain_room o 2 1 (ap size_number e) (omega arith) (omega arith)
bit_room o TwoBytes e h = plain_room o 3 1 (ap size_number e) (omega arith) (omega arith)
bit_room o FourBytes e h = plain_room o 4 1 (ap size_number e) (omega arith) (omega arith)
bit_room o EightBytes e h = plain_room o 5 1 (ap size_number e) (omega arith) (omega arith)
bit_room o Pointer e h = absurd (cc h)
bit_room o InlineComposite e h = absurd (cc h)

pub byte_room : (o : ListPlace) (size : ElementSize) → o.size ≡ size → is_accepted_as 2 (list_head size o.data_words o.pointers) ≡ true → HasElementBits o 8
byte_room o Void e h = absurd (cc h)
byte_room o Bit e h = absurd (cc h)
byte_room o Byte e h = plain_room o 2 8 (ap size_number e) (omega arith) (omega arith)
byte_room o TwoBytes e h = plain_room o 3 8 (ap size_number e) (omega arith) (omega arith)
byte_room o FourBytes e h = plain_room o 4 8 (ap size_number e) (omega arith) (omega arith)
byte_room o EightBytes e h = plain_room o 5 8 (ap size_number e) (omega arith) (omega arith)
byte_room o Pointer e h = absurd (cc h)
byte_room o InlineComposite e h = struct_room o 8 (ap size_number e) (some_words 8 o.data_words o.pointers (omega arith) h) (omega arith)

pub two_bytes_room : (o : ListPlace) (size : ElementSize) → o.size ≡ size → is_accepted_as 3 (list_head size o.data_words o.pointers) ≡ true → HasElementBits o 16
two_bytes_room o Void e h = absurd (cc h)
two_bytes_room o Bit e h = absurd (cc h)
two_bytes_room o Byte e h = absurd (cc h)
two_bytes_room o TwoBytes e h = plain_room o 3 16 (ap size_number e) (omega arith) (omega arith)
two_bytes_room o FourBytes e h = plain_room o 4 16 (ap size_number e) (omega arith) (omega arith)
two_bytes_room o EightBytes e h = plain_room o 5 16 (ap size_number e) (omega arith) (omega arith)
two_bytes_room o Pointer e h = absurd (cc h)
two_bytes_room o InlineComposite e h = struct_room o 16 (ap size_number e) (some_words 16 o.data_words o.pointers (omega arith) h) (omega arith)

pub four_bytes_room : (o : ListPlace) (size : ElementSize) → o.size ≡ size → is_accepted_as 4 (list_head size o.data_words o.pointers) ≡ true → HasElementBits o 32
four_bytes_room o Void e h = absurd (cc h)
four_bytes_room o Bit e h = absurd (cc h)
four_bytes_room o Byte e h = absurd (cc h)
four_bytes_room o TwoBytes e h = absurd (cc h)
four_bytes_room o FourBytes e h = plain_room o 4 32 (ap size_number e) (omega arith) (omega arith)
four_bytes_room o EightBytes e h = plain_room o 5 32 (ap size_number e) (omega arith) (omega arith)
four_bytes_room o Pointer e h = absurd (cc h)
four_bytes_room o InlineComposite e h = struct_room o 32 (ap size_number e) (some_words 32 o.data_words o.pointers (omega arith) h) (omega arith)

pub eight_bytes_room : (o : ListPlace) (size : ElementSize) → o.size ≡ size → is_accepted_as 5 (list_head size o.data_words o.pointers) ≡ true → HasElementBits o 64
eight_bytes_room o Void e h = absurd (cc h)
eight_bytes_room o Bit e h = absurd (cc h)
eight_bytes_room o Byte e h = absurd (cc h)
eight_bytes_room o TwoBytes e h = absurd (cc h)
eight_bytes_room o FourBytes e h = absurd (cc h)
eight_bytes_room o EightBytes e h = plain_room o 5 64 (ap size_number e) (omega arith) (omega arith)
eight_bytes_room o Pointer e h = absurd (cc h)
eight_bytes_room o InlineComposite e h = struct_room o 64 (ap size_number e) (some_words 64 o.data_words o.pointers (omega arith) h) (omega arith)

pub pointer_room : (o : ListPlace) (size : ElementSize) → o.size ≡ size → is_accepted_as 6 (list_head size o.data_words o.pointers) ≡ true → HasPointer o
pointer_room o Void e h = absurd (cc h)
pointer_room o Bit e h = absurd (cc h)
pointer_room o Byte e h = absurd (cc h)
pointer_room o TwoBytes e h = absurd (cc h)
pointer_room o FourBytes e h = absurd (cc h)
pointer_room o EightBytes e h = absurd (cc h)
pointer_room o Pointer e h = record { pointers = λ other. ap size_number e; structs = λ seven. absurd (let n : size_number o.size ≡ 6 = ap size_number e in omega (arith, n, seven)) }
pointer_room o InlineComposite e h =
    let n : size_number o.size ≡ 7 = ap size_number e in
    let l = le_is 1 o.pointers (and_right (nat_le 0 (64 * o.data_words)) (nat_le 1 o.pointers) h) in
    record { pointers = λ other. absurd (other n); structs = λ seven. omega (arith, l) }

-- ---- by the type of the elements

module _ (o : ListPlace) where
  abbrev IsExpected : Ty → Type 0
  IsExpected ty = is_accepted_as (expected_size ty) (list_head o.size o.data_words o.pointers) ≡ true

  base_holds : (b : Base) → struct_named (ty_of_base b) ≡ None → IsExpected (ty_of_base b) → Holds o (ty_of_base b)
  base_holds B.Void n h = tt
  base_holds B.Bool n h = bit_room o o.size refl h
  base_holds B.Int8 n h = byte_room o o.size refl h
  base_holds B.Int16 n h = two_bytes_room o o.size refl h
  base_holds B.Int32 n h = four_bytes_room o o.size refl h
  base_holds B.Int64 n h = eight_bytes_room o o.size refl h
  base_holds B.UInt8 n h = byte_room o o.size refl h
  base_holds B.UInt16 n h = two_bytes_room o o.size refl h
  base_holds B.UInt32 n h = four_bytes_room o o.size refl h
  base_holds B.UInt64 n h = eight_bytes_room o o.size refl h
  base_holds B.Text n h = pointer_room o o.size refl h
  base_holds B.Data n h = pointer_room o o.size refl h
  base_holds (B.Struct raw) n h = tt
  base_holds B.AnyPointer n h = pointer_room o o.size refl h
  base_holds B.Capability n h = pointer_room o o.size refl h
  base_holds (B.Enum raw) n h = two_bytes_room o o.size refl h

  pub expected_holds : (b : Base) (count : ℕ) → let ty = lists_of count (ty_of_base b) in struct_named ty ≡ None → IsExpected ty → Holds o ty
  expected_holds b zero n h = base_holds b n h
  expected_holds b (suc k) n h = pointer_room o o.size refl h
