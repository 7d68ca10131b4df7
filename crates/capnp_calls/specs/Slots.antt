-- The sizes of structs and the defaults of their fields, as contracts see them. (Encoding, "Structs")
use Rattle.std.specs.Prelude.{◌≡◌, true, Option, Some, IsSome}
use Rattle.capnp_model.specs.Schemas.{Ty, Value, text_bytes, blob_bytes, list_segment, struct_segment}
use Rattle.capnp_model.specs.Decoding.{decode}
use Rattle.capnp_model.specs.Accepted.{is_default_of, opens_as, is_good_value}

-- A default is one of the type; a segment is null or reads as the type.
pub record IsWellTypedDefault (ty : Ty) (default : Option Value) : Type 0 where
  pub is : is_default_of ty default ≡ true
  pub reads : is_good_value (λ t. opens_as t ty) default ≡ true

-- A default, if there is one, is a segment that can be read.
abbrev pub IsReadableDefault : Option Value → Type 0
IsReadableDefault (Some (list_segment bs)) = IsSome (decode bs)
IsReadableDefault (Some (struct_segment bs)) = IsSome (decode bs)
IsReadableDefault (Some (text_bytes bs)) = ⊥
IsReadableDefault (Some (blob_bytes bs)) = ⊥
IsReadableDefault _ = Unit {0}
