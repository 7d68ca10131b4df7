-- Lists that are got to be written, with a default in place of null. (Encoding, "Lists" and "Default Values")
use Rattle.std.specs.Prelude.{◌≡◌, ℕ, max, true, List, Option, Some, None}
use Rattle.capnp_model.specs.Segments.{Segments}
use Rattle.capnp_model.specs.Schemas.{Ty, Shape, Schema, words_of_shape, pointers_of_shape}
use Rattle.capnp_units.specs.declared.errors.Error.{Error}
use Rattle.capnp_wire_objects.specs.declared.place.Place as code
use Rattle.capnp_copy_arenas.specs.declared.init.ListPlace.{ListPlace}
use Rattle.capnp_layout_builders.specs.Gets.{ListGot, NoListGot, StructListGot, NoStructListGot}
use Rattle.capnp_records.specs.Sets.{nodes_of}
use Rattle.capnp_model.specs.Accepted.{schema_of}
use Rattle.capnp_values_queries.specs.Types.{ty_of, is_type_of}
use Rattle.capnp_values.specs.ListSizes.{size_of}
use Rattle.capnp_schema_structs.specs.Inits.{struct_named}
use Rattle.capnp_schema_structs.specs.Inside.{size_of_shape}
use Rattle.capnp_schema_lists.specs.Lists.{IsListThere}
use Rattle.capnp_schema_lists.specs.Elements.{Holds, HoldsStructs}
use Rattle.capnp_schema_lists.specs.Readers.{IsBytewise}
use Rattle.capnp_schema_values.specs.declared.placed.ListPart.{ListPart}

-- The place of a list of structs, whose empty list of null has the sizes of a shape too.
abbrev pub sized : Shape → ListPlace → ListPlace
sized g o = record o { data_words = max o.data_words (words_of_shape g); pointers = max o.pointers (pointers_of_shape g) }

-- A list of structs of a shape is got: one that is narrower is widened.
abbrev pub ShapedStructsGot : Shape → Option (List (List ℕ)) → Segments → Segments → code.Place → ListPlace → Type 0
ShapedStructsGot g default s u slot o = (found : ListPlace) × (o ≡ sized g found) × StructListGot default s u slot (size_of_shape g) found

-- A pointer's slot, the schema and type by which the elements of its list are read, and the words of its default.
pub record ListRead : Type 0 where
  pub slot : code.Place
  pub around : Schema
  pub ty : Ty
  pub default : Option (List (List ℕ))

-- That by its parts, in the order of the record.
abbrev pub list_read : code.Place → Schema → Ty → Option (List (List ℕ)) → ListRead
list_read slot around ty default = record { slot = slot; around = around; ty = ty; default = default }

-- A list of elements of a type is got: of structs, whose id is told, as such, any other as it lies.
abbrev pub ElementsGot : Option ℕ → ListRead → Segments → Segments → ListPlace → Type 0
ElementsGot (Some id) x s u o = ShapedStructsGot (x.around.shape_of id) x.default s u x.slot o
ElementsGot None x s u o = ListGot x.default s u x.slot (size_of x.ty) o

-- It lies in the message, with elements of its type; those that are structs aren't bits.
pub record PlaceGot (x : ListRead) (s u : Segments) (o : ListPlace) : Type 0 where
  pub got : ElementsGot (struct_named x.ty) x s u o
  pub there : IsListThere u o
  pub holds : Holds o x.ty
  pub sizes : HoldsStructs x.around o x.ty
  pub bytewise : IsBytewise o x.ty

-- It lies in the message, with elements of its type, which is told with the set that it is of.
pub record ListPartGot (x : ListRead) (s u : Segments) (part : ListPart) : Type 0 where
  pub place : PlaceGot x s u part.place
  pub set : schema_of (nodes_of part.set.now) ≡ x.around
  pub type_is : ty_of part.element_type ≡ x.ty
  pub known : is_type_of (nodes_of part.set.now) part.element_type ≡ true

-- Why it isn't given, and what stands then.
abbrev pub NoElementsGot : Option ℕ → ListRead → Segments → Segments → Error → Type 0
NoElementsGot (Some id) x s u = NoStructListGot x.default s u x.slot (size_of_shape (x.around.shape_of id))
NoElementsGot None x s u = NoListGot x.default s u x.slot (size_of x.ty)

abbrev pub NoListPartGot : ListRead → Segments → Segments → Error → Type 0
NoListPartGot x = NoElementsGot (struct_named x.ty) x
