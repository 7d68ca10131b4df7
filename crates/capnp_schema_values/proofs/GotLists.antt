-- Lists that are got, by the type of their elements.
use Rattle.std.proofs.Common.{◌≡◌, ℕ, ◌+◌, ◌^◌, ◌<◌, List, Option, Some, None, Result, Ok, Err, IfOk, sym, subst}
use Rattle.capnp_model.specs.Segments.{Segments}
use Rattle.capnp_model.specs.Schemas.{Ty, struct, Schema}
use Rattle.capnp_units.specs.declared.errors.Error.{Error}
use Rattle.capnp_units.specs.declared.sizes.ElementSize.{ElementSize}
use Rattle.capnp_units.specs.declared.sizes.StructSize.{StructSize}
use Rattle.capnp_wire_objects.specs.declared.place.Place as code
use Rattle.capnp_copy_arenas.specs.declared.init.ListPlace.{ListPlace}
use Rattle.capnp_layout_builders.specs.Gets.{ListGot, StructListGot}
use Rattle.capnp_values_queries.specs.Structs.{schema_around, shape_of_struct, id_of}
use Rattle.capnp_values_queries.specs.Types.{ty_of}
use Rattle.capnp_values_queries.specs.declared.introspect.«Type».{«Type» as SchemaType}
use Rattle.capnp_values_queries.specs.declared.structs.StructSchema.{StructSchema}
use Rattle.capnp_values.specs.ListSizes.{size_of}
use Rattle.capnp_schema_structs.specs.Inits.{struct_named}
use Rattle.capnp_schema_structs.specs.Inside.{size_of_shape}
use Rattle.capnp_schema_structs.proofs.lemmas.StructTypes.{type_is}
use Rattle.capnp_schema_values.specs.Lists.{sized, PlaceGot}
use Rattle.capnp_schema_values.proofs.FoundLists.{plain_placed, structs_placed}

module _ (around : Schema) (ty : Ty) (schema : StructSchema) (named : Some (id_of schema) ≡ struct_named ty) (same : schema_around schema ≡ around) (default : Option (List (List ℕ))) (s u : Segments) (slot : code.Place) (size : StructSize) (is : size ≡ size_of_shape (shape_of_struct schema)) where
  pub structs_got : (o : ListPlace) → slot.position + 1 < 2 ^ 61 → StructListGot default s u slot size o → PlaceGot (record { slot = slot; around = around; ty = ty; default = default }) s u (sized (shape_of_struct schema) o)
  structs_got o near got =
      let g = shape_of_struct schema in
      let first = structs_placed (schema_around schema) (id_of schema) default s u slot o near (subst (λ z. StructListGot default s u slot z o) is got) in
      let second : PlaceGot (record { slot = slot; around = around; ty = struct (id_of schema); default = default }) s u (sized g o) = subst (λ a. PlaceGot (record { slot = slot; around = a; ty = struct (id_of schema); default = default }) s u (sized g o)) same first in
      subst (λ t. PlaceGot (record { slot = slot; around = around; ty = t; default = default }) s u (sized g o)) (sym (type_is ty (id_of schema) (sym named))) second

module _ (around : Schema) (t : SchemaType) (none : struct_named (ty_of t) ≡ None) (default : Option (List (List ℕ))) (s u : Segments) (slot : code.Place) (expected : ElementSize) (is : expected ≡ size_of (ty_of t)) where
  pub others_got : (r : Result ListPlace Error) → slot.position + 1 < 2 ^ 61 → IfOk r (ListGot default s u slot expected) → IfOk r (PlaceGot (record { slot = slot; around = around; ty = ty_of t; default = default }) s u)
  others_got (Ok o) near got = plain_placed around t.base t.list_count default s u slot o none near (subst (λ z. ListGot default s u slot z o) is got)
  others_got (Err e) near got = tt
