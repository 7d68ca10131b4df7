-- What the variants of values that are built hold.
use Rattle.std.specs.Prelude.{Bool, false, Option, Some, None}
use Rattle.capnp_model.specs.Schemas.{Ty}
use Rattle.capnp_values_queries.specs.Structs.{id_of}
use Rattle.capnp_values.specs.Variants.{is_struct_of}
use Rattle.capnp_layout_builders.specs.declared.text_builder.TextBuilder.{TextBuilder}
use Rattle.capnp_layout_builders.specs.declared.data_builder.DataBuilder.{DataBuilder}
use Rattle.capnp_values.specs.declared.dynamic_value.Enum.{Enum}
use Rattle.capnp_schema_structs.specs.declared.dynamic_struct.Builder.{Builder as DynamicStruct}
use Rattle.capnp_schema_lists.specs.declared.dynamic_list.Builder.{Builder as DynamicList}
use Rattle.capnp_schema_values.specs.declared.any_pointer.Builder.{Builder as Untyped}
use Rattle.capnp_schema_values.specs.declared.dynamic_value.Builder.{Builder}
use Rattle.capnp_schema_values.specs.declared.dynamic_value.Builder.TheVariants as value

-- The value of an enum.
abbrev pub built_enum : {A : Type 0} → Builder A → Option Enum
built_enum (value.Enum x) = Some x
built_enum _ = None

-- The text.
abbrev pub built_text : {A : Type 0} → Builder A → Option (TextBuilder A)
built_text (value.Text x) = Some x
built_text _ = None

-- The data.
abbrev pub built_data : {A : Type 0} → Builder A → Option (DataBuilder A)
built_data (value.Data x) = Some x
built_data _ = None

-- The list.
abbrev pub built_list : {A : Type 0} → Builder A → Option (DynamicList A)
built_list (value.List x) = Some x
built_list _ = None

-- The struct.
abbrev pub built_struct : {A : Type 0} → Builder A → Option (DynamicStruct A)
built_struct (value.Struct x) = Some x
built_struct _ = None

-- The untyped pointer.
abbrev pub built_untyped : {A : Type 0} → Builder A → Option (Untyped A)
built_untyped (value.AnyPointer x) = Some x
built_untyped _ = None

-- The value is a struct of the type, by its id.
abbrev pub built_struct_fits : {A : Type 0} → Ty → Builder A → Bool
built_struct_fits ty v = elim (built_struct v) [ None ↦ false | Some b ↦ is_struct_of (id_of b.schema) ty ]
