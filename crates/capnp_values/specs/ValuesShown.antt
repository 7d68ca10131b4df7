-- What values of node records show, as annotations have them. (Schema language, "Annotations")
use Rattle.std.specs.Prelude.{◌≡◌, if◌then◌else◌, Bool, true, false, Some, Result, Ok, Err}
use Rattle.capnp_model.specs.Kinds.{Kind, TypeMismatch}
use Rattle.capnp_model.specs.Schemas.{Ty, void, plain, text, blob, untyped, interface, struct, list, Value, no_value, bits, text_bytes, blob_bytes, list_segment, struct_segment, untyped_value, interface_value, Schema, default_or_null}
use Rattle.capnp_model.specs.Trees.{null}
use Rattle.capnp_model.specs.Readings.{Reading, number, text_of, blob_of, opaque, read}
use Rattle.capnp_model.specs.Decoding.{decode}
use Rattle.capnp_model.specs.Accepted.{same_plain, is_good_value}
use Rattle.capnp_values.specs.Sources.{null_default, default_pointer}
use Rattle.capnp_values.specs.Shown.{Shown, a_number, a_text, a_blob, a_pointer, a_capability, number_shown, shown_behind}
use Rattle.capnp_values.specs.Standing.{null_as_empty, Answers}

-- What a value shows under a type of its sort; an untyped one is null. Under one of another sort it is refused.
abbrev pub value_shown : Schema → Ty → Value → Result Shown Kind
value_shown s void no_value = Ok (a_number void 0)
value_shown s (plain p) (bits q n) = if same_plain p q then Ok (number_shown s p n) else Err TypeMismatch
value_shown s text (text_bytes bytes) = Ok (a_text bytes)
value_shown s blob (blob_bytes bytes) = Ok (a_blob bytes)
value_shown s untyped untyped_value = Ok (a_pointer null_default)
value_shown s interface interface_value = Ok a_capability
value_shown s (struct id) (struct_segment bytes) = shown_behind s (struct id) (default_pointer bytes)
value_shown s (list ty) (list_segment bytes) = shown_behind s (list ty) (default_pointer bytes)
value_shown s ty v = Err TypeMismatch

-- The value is of the type's sort.
abbrev pub is_of_sort : Ty → Value → Bool
is_of_sort void no_value = true
is_of_sort (plain p) (bits q n) = same_plain p q
is_of_sort text (text_bytes bytes) = true
is_of_sort blob (blob_bytes bytes) = true
is_of_sort untyped untyped_value = true
is_of_sort interface interface_value = true
is_of_sort (struct id) (struct_segment bytes) = true
is_of_sort (list ty) (list_segment bytes) = true
is_of_sort ty v = false

-- What the value reads as; null as the empty value of the type.
abbrev pub value_reading : Schema → Ty → Value → Reading
value_reading s ty no_value = number 0
value_reading s ty (bits p n) = number n
value_reading s ty (text_bytes bytes) = text_of bytes
value_reading s ty (blob_bytes bytes) = blob_of bytes
value_reading s ty (list_segment bytes) = null_as_empty s ty (read s (default_or_null (decode bytes)) ty)
value_reading s ty (struct_segment bytes) = null_as_empty s ty (read s (default_or_null (decode bytes)) ty)
value_reading s ty untyped_value = opaque null
value_reading s ty interface_value = opaque null

-- What a value of a node record shows under a type of its sort is what the model reads of it, where its bytes are canonical.
abbrev pub ValuesAreRead : Type 0
ValuesAreRead = (s : Schema) (ty : Ty) (d : Value) → is_of_sort ty d ≡ true → is_good_value (λ t. true) (Some d) ≡ true → Answers s (value_shown s ty d) (value_reading s ty d)
