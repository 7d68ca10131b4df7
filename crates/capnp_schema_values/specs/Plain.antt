-- Plain values that are got. (Encoding, "Value Encoding")
use Rattle.std.specs.Prelude.{Option, Some, None}
use Rattle.std.specs.Int.{w8, w16, w32, w64, cast_unsigned}
use Rattle.capnp_model.specs.Accepted.{schema_of}
use Rattle.capnp_model.specs.Schemas.{bool, int, uint, Ty, void, plain, text, blob, untyped, interface, struct, list}
use Rattle.capnp_wire.specs.Views.{bit_of_bool}
use Rattle.capnp_values_queries.specs.Enums.{nodes_of_enum, enum_id}
use Rattle.capnp_values.specs.Shown.{Shown, a_number, an_enum}
use Rattle.capnp_schema_values.specs.declared.placed.Placed.{Placed}
use Rattle.capnp_schema_values.specs.declared.placed.Placed.TheVariants as placed

-- What a plain value shows, as a reader of it does.
abbrev pub placed_shown : Placed → Option Shown
placed_shown placed.Void = Some (a_number void 0)
placed_shown (placed.Bool b) = Some (a_number (plain bool) (bit_of_bool b))
placed_shown (placed.Int8 z) = Some (a_number (plain (int 8)) (cast_unsigned w8 z))
placed_shown (placed.Int16 z) = Some (a_number (plain (int 16)) (cast_unsigned w16 z))
placed_shown (placed.Int32 z) = Some (a_number (plain (int 32)) (cast_unsigned w32 z))
placed_shown (placed.Int64 z) = Some (a_number (plain (int 64)) (cast_unsigned w64 z))
placed_shown (placed.UInt8 n) = Some (a_number (plain (uint 8)) n)
placed_shown (placed.UInt16 n) = Some (a_number (plain (uint 16)) n)
placed_shown (placed.UInt32 n) = Some (a_number (plain (uint 32)) n)
placed_shown (placed.UInt64 n) = Some (a_number (plain (uint 64)) n)
placed_shown (placed.Enum e) = Some (an_enum (schema_of (nodes_of_enum e.schema)) (enum_id e.schema) e.value)
placed_shown _ = None

-- The type is a plain one.
abbrev pub IsPlainType : Ty → Type 0
IsPlainType void = ⊥
IsPlainType (plain p) = Unit {0}
IsPlainType text = ⊥
IsPlainType blob = ⊥
IsPlainType untyped = ⊥
IsPlainType interface = ⊥
IsPlainType (struct id) = ⊥
IsPlainType (list ty) = ⊥
