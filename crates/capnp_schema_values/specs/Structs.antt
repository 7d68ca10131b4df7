-- Structs that are got to be written, with a default in place of null. (Encoding, "Structs" and "Default Values")
use Rattle.std.specs.Prelude.{◌≡◌, ℕ, List, Option}
use Rattle.capnp_model.specs.Segments.{Segments}
use Rattle.capnp_model.specs.Schemas.{Shape}
use Rattle.capnp_units.specs.declared.errors.Error.{Error}
use Rattle.capnp_wire_objects.specs.declared.place.Place as code
use Rattle.capnp_wire_objects.specs.Places.{place_view}
use Rattle.capnp_layout_builders.specs.Gets.{StructGot, NoStructGot}
use Rattle.capnp_values_queries.specs.Structs.{shape_of_struct}
use Rattle.capnp_values_queries.specs.declared.structs.StructSchema.{StructSchema}
use Rattle.capnp_schema_structs.specs.Inside.{size_of_shape}
use Rattle.capnp_schema_structs.specs.Edits.{IsThere, HoldsShape}
use Rattle.capnp_schema_structs.specs.declared.init.Part.{Part}

-- A struct is got as one of a schema: it is there, and wide enough.
pub record PartGot (default : Option (List (List ℕ))) (s u : Segments) (slot : code.Place) (schema : StructSchema) (part : Part) : Type 0 where
  pub got : StructGot default s u (place_view slot) (size_of_shape (shape_of_struct schema)) part.place
  pub schema_is : part.schema ≡ schema
  pub there : IsThere u part.place
  pub wide : HoldsShape part.place (shape_of_struct schema)

-- Why it isn't given, and what stands then.
abbrev pub NoPartGot : Option (List (List ℕ)) → Segments → Segments → code.Place → Shape → Error → Type 0
NoPartGot default s u slot g = NoStructGot default s u (place_view slot) (size_of_shape g)
