-- What the variants of dynamic values hold.
use Rattle.std.specs.Prelude.{ℕ, ℤ, Bool, false, ◌==◌, List, ◌≡◌, Option, Some, None, option_map, ⊤}
use Rattle.std.specs.Borrow.{Bor}
use Rattle.capnp_model.specs.Schemas.{Ty, void, plain, text, blob, untyped, interface, struct, list}
use Rattle.capnp_wire.specs.declared.structs.StructReader.{StructReader}
use Rattle.capnp_values_queries.specs.Structs.{id_of}
use Rattle.capnp_text.specs.declared.text.Reader.{Reader as Text}
use Rattle.capnp_values.specs.declared.any_pointer.Reader.{Reader as Untyped}
use Rattle.capnp_values.specs.declared.dynamic_list.Reader.{Reader as DynamicList}
use Rattle.capnp_values.specs.declared.dynamic_struct.Reader.{Reader as DynamicStruct}
use Rattle.capnp_values.specs.declared.source.StructSource.{StructSource}
use Rattle.capnp_values.specs.declared.source.StructSource.TheVariants as structure
use Rattle.capnp_values.specs.declared.dynamic_value.Enum.{Enum}
use Rattle.capnp_values.specs.declared.dynamic_value.Reader.{Reader}
use Rattle.capnp_values.specs.declared.dynamic_value.Reader.TheVariants as value

-- Nothing, of Void.
abbrev pub void_in : {A : Type 0} → Reader A → Option ⊤
void_in value.Void = Some tt
void_in _ = None

-- The truth value.
abbrev pub bool_in : {A : Type 0} → Reader A → Option Bool
bool_in (value.Bool x) = Some x
bool_in _ = None

-- The number of Int8.
abbrev pub int8_in : {A : Type 0} → Reader A → Option ℤ
int8_in (value.Int8 x) = Some x
int8_in _ = None

-- The number of Int16.
abbrev pub int16_in : {A : Type 0} → Reader A → Option ℤ
int16_in (value.Int16 x) = Some x
int16_in _ = None

-- The number of Int32.
abbrev pub int32_in : {A : Type 0} → Reader A → Option ℤ
int32_in (value.Int32 x) = Some x
int32_in _ = None

-- The number of Int64.
abbrev pub int64_in : {A : Type 0} → Reader A → Option ℤ
int64_in (value.Int64 x) = Some x
int64_in _ = None

-- The number of UInt8.
abbrev pub uint8_in : {A : Type 0} → Reader A → Option ℕ
uint8_in (value.UInt8 x) = Some x
uint8_in _ = None

-- The number of UInt16.
abbrev pub uint16_in : {A : Type 0} → Reader A → Option ℕ
uint16_in (value.UInt16 x) = Some x
uint16_in _ = None

-- The number of UInt32.
abbrev pub uint32_in : {A : Type 0} → Reader A → Option ℕ
uint32_in (value.UInt32 x) = Some x
uint32_in _ = None

-- The number of UInt64.
abbrev pub uint64_in : {A : Type 0} → Reader A → Option ℕ
uint64_in (value.UInt64 x) = Some x
uint64_in _ = None

-- The value of an enum.
abbrev pub enum_in : {A : Type 0} → Reader A → Option Enum
enum_in (value.Enum x) = Some x
enum_in _ = None

-- The text.
abbrev pub text_in : {A : Type 0} → Reader A → Option Text
text_in (value.Text x) = Some x
text_in _ = None

-- The data.
abbrev pub data_in : {A : Type 0} → Reader A → Option (Bor (List ℕ))
data_in (value.Data x) = Some x
data_in _ = None

-- The list.
abbrev pub list_in : {A : Type 0} → Reader A → Option (DynamicList A)
list_in (value.List x) = Some x
list_in _ = None

-- The struct.
abbrev pub struct_in : {A : Type 0} → Reader A → Option (DynamicStruct A)
struct_in (value.Struct x) = Some x
struct_in _ = None

-- The untyped pointer.
abbrev pub untyped_in : {A : Type 0} → Reader A → Option (Untyped A)
untyped_in (value.AnyPointer x) = Some x
untyped_in _ = None

-- The value is a text of these bytes.
abbrev pub IsTextOf : {A : Type 0} → List ℕ → Reader A → Type 0
IsTextOf bytes v = option_map (λ t. t.0.now) (text_in v) ≡ Some bytes

-- ---- structs as callers' types

-- The struct's reader, where it is a message's.
abbrev pub message_struct : {A : Type 0} → StructSource A → Option (StructReader A)
message_struct (structure.Message s) = Some s
message_struct (structure.Default s) = None

-- The type is that of the struct of an id.
abbrev pub is_struct_of : ℕ → Ty → Bool
is_struct_of id void = false
is_struct_of id (plain p) = false
is_struct_of id text = false
is_struct_of id blob = false
is_struct_of id untyped = false
is_struct_of id interface = false
is_struct_of id (struct i) = i == id
is_struct_of id (list ty) = false

-- The struct is a message's, and of the type by its id.
abbrev pub fits_type : {A : Type 0} → Ty → DynamicStruct A → Bool
fits_type ty r = elim (message_struct r.source) [ None ↦ false | Some s ↦ is_struct_of (id_of r.schema) ty ]

-- The value is such a struct.
abbrev pub fits_struct : {A : Type 0} → Ty → Reader A → Bool
fits_struct ty v = elim (struct_in v) [ None ↦ false | Some r ↦ fits_type ty r ]

-- The reader of the struct that the value is.
abbrev pub message_struct_in : {A : Type 0} → Reader A → Option (StructReader A)
message_struct_in v = elim (struct_in v) [ None ↦ None | Some r ↦ message_struct r.source ]
