-- Values without pointers, and what `set` puts into a slot for them. (Encoding, "Value Encoding")
use Rattle.std.specs.Prelude.{ℕ, Bool, true, false, Option, Some, None, if◌then◌else◌, List, [], ◌∷◌, ◌++◌}
use Rattle.std.specs.Int.{w8, w16, w32, w64, cast_unsigned}
use Rattle.capnp_model.specs.Kinds.{Kind, TypeMismatch, NotAStruct, CannotSetAnyPointerFieldToAPrimitiveValue, SettingDynamicCapabilitiesIsUnsupported}
use Rattle.capnp_model.specs.Schemas.{PlainType, bool, int, uint, «enum», Ty, void, plain, text, blob, untyped, interface, struct, list, Body, void_slot, plain_slot, pointer_slot, group_slot}
use Rattle.capnp_model.specs.Accepted.{same_plain}
use Rattle.capnp_model.specs.Calls.{Content, refused_by, bits_of, object, blob_tree}
use Rattle.capnp_model.specs.Edits.{Edit, mark, put_content}
use Rattle.capnp_wire.specs.Views.{bit_of_bool}
use Rattle.capnp_values_queries.specs.Fields.{Entry, union_in}
use Rattle.capnp_values_queries.specs.Structs.{shape_of_struct}
use Rattle.capnp_values_queries.specs.Enums.{enum_id}
use Rattle.capnp_values_queries.specs.Handles.{entry_of_field}
use Rattle.capnp_values_queries.specs.declared.fields.Field.{Field}
use Rattle.capnp_values.specs.declared.dynamic_value.Reader.{Reader}
use Rattle.capnp_values.specs.declared.dynamic_value.Reader.TheVariants as value

-- The value has no pointers: it is Void, a truth value, a number, an enum's, a text or data.
abbrev pub is_flat : {A : Type 0} → Reader A → Bool
is_flat value.Void = true
is_flat (value.Bool b) = true
is_flat (value.Int8 z) = true
is_flat (value.Int16 z) = true
is_flat (value.Int32 z) = true
is_flat (value.Int64 z) = true
is_flat (value.UInt8 n) = true
is_flat (value.UInt16 n) = true
is_flat (value.UInt32 n) = true
is_flat (value.UInt64 n) = true
is_flat (value.Enum e) = true
is_flat (value.Text t) = true
is_flat (value.Data d) = true
is_flat (value.Struct r) = false
is_flat (value.List l) = false
is_flat (value.AnyPointer p) = false
is_flat (value.Capability c) = false

-- A plain value: its type and its bits.
abbrev pub plain_given : {A : Type 0} → Reader A → Option (PlainType × ℕ)
plain_given value.Void = None
plain_given (value.Bool b) = Some (bool, bit_of_bool b)
plain_given (value.Int8 z) = Some (int 8, cast_unsigned w8 z)
plain_given (value.Int16 z) = Some (int 16, cast_unsigned w16 z)
plain_given (value.Int32 z) = Some (int 32, cast_unsigned w32 z)
plain_given (value.Int64 z) = Some (int 64, cast_unsigned w64 z)
plain_given (value.UInt8 n) = Some (uint 8, n)
plain_given (value.UInt16 n) = Some (uint 16, n)
plain_given (value.UInt32 n) = Some (uint 32, n)
plain_given (value.UInt64 n) = Some (uint 64, n)
plain_given (value.Enum e) = Some («enum» (enum_id e.schema), e.value)
plain_given (value.Text t) = None
plain_given (value.Data d) = None
plain_given (value.Struct r) = None
plain_given (value.List l) = None
plain_given (value.AnyPointer p) = None
plain_given (value.Capability c) = None

-- The bits of a value of a type; one of any enum is one of each.
abbrev pub bits_given : PlainType → Option (PlainType × ℕ) → Option ℕ
bits_given p None = None
bits_given p (Some v) = if same_plain p v.0 then Some v.1 else None

-- A slot of the type takes texts.
abbrev pub takes_text : Ty → Bool
takes_text void = false
takes_text (plain p) = false
takes_text text = true
takes_text blob = false
takes_text untyped = true
takes_text interface = false
takes_text (struct id) = false
takes_text (list ty) = false

-- A slot of the type takes data.
abbrev pub takes_data : Ty → Bool
takes_data void = false
takes_data (plain p) = false
takes_data text = false
takes_data blob = true
takes_data untyped = true
takes_data interface = false
takes_data (struct id) = false
takes_data (list ty) = false

-- The bytes of the list that a text or data become in a slot of the type, if it takes them: a text's with a zero behind them. (Encoding, "Blobs")
abbrev pub bytes_given : {A : Type 0} → Reader A → Ty → Option (List ℕ)
bytes_given value.Void ty = None
bytes_given (value.Bool b) ty = None
bytes_given (value.Int8 z) ty = None
bytes_given (value.Int16 z) ty = None
bytes_given (value.Int32 z) ty = None
bytes_given (value.Int64 z) ty = None
bytes_given (value.UInt8 n) ty = None
bytes_given (value.UInt16 n) ty = None
bytes_given (value.UInt32 n) ty = None
bytes_given (value.UInt64 n) ty = None
bytes_given (value.Enum e) ty = None
bytes_given (value.Text t) ty = if takes_text ty then Some (t.0.now ++ 0 ∷ []) else None
bytes_given (value.Data d) ty = if takes_data ty then Some d.now else None
bytes_given (value.Struct r) ty = None
bytes_given (value.List l) ty = None
bytes_given (value.AnyPointer p) ty = None
bytes_given (value.Capability c) ty = None

-- Why a slot of a pointer's type takes no such value.
abbrev pub pointer_refusal : Ty → Kind
pointer_refusal void = TypeMismatch
pointer_refusal (plain p) = TypeMismatch
pointer_refusal text = TypeMismatch
pointer_refusal blob = TypeMismatch
pointer_refusal untyped = CannotSetAnyPointerFieldToAPrimitiveValue
pointer_refusal interface = SettingDynamicCapabilitiesIsUnsupported
pointer_refusal (struct id) = TypeMismatch
pointer_refusal (list ty) = TypeMismatch

-- What `set` puts into a slot for such a value: bits of the slot's type, or the list of a text's or
-- data's bytes. A Void slot takes each value, and nothing is put. A group takes structs alone.
abbrev pub flat_content : {A : Type 0} → Reader A → Body → Content
flat_content v (void_slot j) = bits_of 0
flat_content v (plain_slot p at d) = elim (bits_given p (plain_given v)) [ None ↦ refused_by TypeMismatch | Some n ↦ bits_of n ]
flat_content v (pointer_slot i ty d) = elim (bytes_given v ty) [ None ↦ refused_by (pointer_refusal ty) | Some bytes ↦ object (blob_tree bytes) ]
flat_content v (group_slot g) = refused_by NotAStruct

-- What `set` puts into a field for such a value.
abbrev pub set_content : {A : Type 0} → Reader A → Option Entry → Content
set_content v None = refused_by TypeMismatch
set_content v (Some e) = flat_content v e.body

-- The union is marked, and then the value put.
abbrev pub set_entry : {A : Type 0} → Option ℕ → Reader A → Option Entry → Edit
set_entry union v None c = c
set_entry union v (Some e) c = put_content e.body (flat_content v e.body) (mark union e.member c)

abbrev pub set_edit : {A : Type 0} → Field → Reader A → Edit
set_edit f v = set_entry (union_in (shape_of_struct f.parent)) v (entry_of_field f)
