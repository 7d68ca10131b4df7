-- Which fields of a struct are printed. (Encoding, "Structs")
use Rattle.std.specs.Prelude.{ℕ, ◌≡◌, Bool, Option, Some}
use Rattle.capnp_model.specs.Schemas.{Schema}
use Rattle.capnp_model.specs.Readings.{Reading, just_bits, is_active, only_if, body_of}
use Rattle.capnp_model.specs.Printing.{is_shown}
use Rattle.capnp_values_queries.specs.Fields.{Entry, field_at}
use Rattle.capnp_values_queries.specs.Structs.{fields_of_struct}
use Rattle.capnp_values_queries.specs.declared.structs.StructSchema.{StructSchema}
use Rattle.capnp_wire.specs.Views.{StructView}
use Rattle.capnp_values_print.specs.ShownReadings.{children_read, reading_within, levels_left}

-- The fields that are active under a discriminant are those that are so under the active member's value.
abbrev pub AreActive : StructSchema → Option ℕ → Option ℕ → Type 0
AreActive s d active = (i : ℕ) (e : Entry) → field_at (fields_of_struct s) i ≡ Some e → is_active e.member active ≡ is_active e.member d

-- What a field of a struct reads as under a discriminant.
abbrev pub field_read : Schema → StructView → Option ℕ → Entry → Reading
field_read s v d e = only_if (is_active e.member d) (body_of e.body (just_bits v.bits) v.section (children_read (reading_within (levels_left v.levels)) s v))

-- Whether it is printed.
abbrev pub field_shown : Schema → StructView → Option ℕ → Entry → Bool
field_shown s v d e = is_shown e.member (field_read s v d e)
