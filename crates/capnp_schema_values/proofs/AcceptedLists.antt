-- Lists that are taken as ones of a type have elements of this type.
use Rattle.std.proofs.Common.{◌≡◌, ℕ, zero, suc, ◌<◌, ◌==◌, if◌then◌else◌, Bool, true, false, None, refl, arith}
use Rattle.capnp_model.specs.Schemas.{Schema, width, Ty, void, plain, text, blob, untyped, interface, struct, list, lists_of}
use Rattle.capnp_units.specs.declared.sizes.ElementSize.{ElementSize}
use Rattle.capnp_units.specs.declared.sizes.ElementSize.TheVariants.{Bit, Byte, TwoBytes, FourBytes, EightBytes}
use Rattle.capnp_units.specs.Sizes.{size_number}
use Rattle.capnp_copy_arenas.specs.declared.init.ListPlace.{ListPlace}
use Rattle.capnp_copy_widening.specs.Got.{is_taken_by}
use Rattle.capnp_copy_widening.specs.declared.lists.Taker.TheVariants as taker
use Rattle.capnp_values_queries.specs.Types.{ty_of_base}
use Rattle.capnp_values_queries.specs.declared.introspect.Base.{Base}
use Rattle.capnp_values_queries.specs.declared.introspect.Base.TheVariants as B
use Rattle.capnp_values.specs.ListSizes.{size_of}
use Rattle.capnp_schema_structs.specs.Inits.{struct_named}
use Rattle.capnp_schema_lists.specs.Elements.{Holds, HoldsStructs}
use Rattle.capnp_schema_lists.proofs.lemmas.Accepted.{bit_room, byte_room, two_bytes_room, four_bytes_room, eight_bytes_room, pointer_room}
use Rattle.capnp_schema_lists.specs.Readers.{IsBytewise}
use Rattle.capnp_schema_values.specs.Plain.{IsPlainType}

-- ---- by the type of the elements

module _ (o : ListPlace) where
  -- The list is taken as one of elements of the type.
  abbrev pub IsTaken : Ty → Type 0
  IsTaken ty = is_taken_by taker.Builder (size_of ty) o ≡ true

  base_holds : (b : Base) → struct_named (ty_of_base b) ≡ None → IsTaken (ty_of_base b) → Holds o (ty_of_base b)
  base_holds B.Void n h = tt
  base_holds B.Bool n h = bit_room o o.size refl h
  base_holds B.Int8 n h = byte_room o o.size refl h
  base_holds B.Int16 n h = two_bytes_room o o.size refl h
  base_holds B.Int32 n h = four_bytes_room o o.size refl h
  base_holds B.Int64 n h = eight_bytes_room o o.size refl h
  base_holds B.UInt8 n h = byte_room o o.size refl h
  base_holds B.UInt16 n h = two_bytes_room o o.size refl h
  base_holds B.UInt32 n h = four_bytes_room o o.size refl h
  base_holds B.UInt64 n h = eight_bytes_room o o.size refl h
  base_holds B.Text n h = pointer_room o o.size refl h
  base_holds B.Data n h = pointer_room o o.size refl h
  base_holds (B.Struct raw) n h = tt
  base_holds B.AnyPointer n h = pointer_room o o.size refl h
  base_holds B.Capability n h = pointer_room o o.size refl h
  base_holds (B.Enum raw) n h = two_bytes_room o o.size refl h

  pub holds : (b : Base) (count : ℕ) → let ty = lists_of count (ty_of_base b) in struct_named ty ≡ None → IsTaken ty → Holds o ty
  holds b zero n h = base_holds b n h
  holds b (suc k) n h = pointer_room o o.size refl h

  pub holds_no_structs : (s : Schema) (ty : Ty) → struct_named ty ≡ None → HoldsStructs s o ty
  holds_no_structs s void n = tt
  holds_no_structs s (plain p) n = tt
  holds_no_structs s text n = tt
  holds_no_structs s blob n = tt
  holds_no_structs s untyped n = tt
  holds_no_structs s interface n = tt
  holds_no_structs s (struct id) n = absurd (cc n)
  holds_no_structs s (list ty) n = tt

  -- only structs are asked for with size 7
  smaller : (n : ℕ) → n < 7 → n ≡ 7 → ⊥
  smaller n l seven = omega (arith, l, seven)

  plain_smaller : (a b c d : Bool) → size_number (if a then Bit else (if b then Byte else (if c then TwoBytes else (if d then FourBytes else EightBytes)))) ≡ 7 → ⊥
  plain_smaller true b c d = smaller 1 (omega arith)
  plain_smaller false true c d = smaller 2 (omega arith)
  plain_smaller false false true d = smaller 3 (omega arith)
  plain_smaller false false false true = smaller 4 (omega arith)
  plain_smaller false false false false = smaller 5 (omega arith)

  pub bytewise : (ty : Ty) → struct_named ty ≡ None → IsBytewise o ty
  bytewise void n = λ seven one. smaller 0 (omega arith) seven
  bytewise (plain p) n = λ seven one. plain_smaller (width p == 1) (width p == 8) (width p == 16) (width p == 32) seven
  bytewise text n = λ seven one. smaller 6 (omega arith) seven
  bytewise blob n = λ seven one. smaller 6 (omega arith) seven
  bytewise untyped n = λ seven one. smaller 6 (omega arith) seven
  bytewise interface n = λ seven one. smaller 6 (omega arith) seven
  bytewise (struct id) n = absurd (cc n)
  bytewise (list ty) n = λ seven one. smaller 6 (omega arith) seven

  pub plain_bytewise : (ty : Ty) → IsPlainType ty → IsBytewise o ty
  plain_bytewise void is_plain = absurd is_plain
  plain_bytewise (plain p) is_plain = bytewise (plain p) refl
  plain_bytewise text is_plain = absurd is_plain
  plain_bytewise blob is_plain = absurd is_plain
  plain_bytewise untyped is_plain = absurd is_plain
  plain_bytewise interface is_plain = absurd is_plain
  plain_bytewise (struct id) is_plain = absurd is_plain
  plain_bytewise (list ty) is_plain = absurd is_plain
