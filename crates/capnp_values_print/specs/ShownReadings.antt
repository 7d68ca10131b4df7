-- What a dynamic reader shows, with all that it leads to, as a reading. (Encoding, "Value Encoding")
use Rattle.std.specs.Prelude.{ℕ, zero, suc, if◌then◌else◌, Option, Some, None, Result, Ok, Err}
use Rattle.capnp_model.specs.Kinds.{Kind, NestingLimitExceeded}
use Rattle.capnp_model.specs.Trees.{null}
use Rattle.capnp_model.specs.Schemas.{width, Ty, void, plain, text, blob, untyped, interface, struct, list, Shape, Schema}
use Rattle.capnp_model.specs.Readings.{Reading, null_pointer, fault, number, text_of, blob_of, list_of, record_as, opaque, Readings, no_readings, ◌▹◌, Record, just_bits, Children, shape_record}
use Rattle.capnp_wire.specs.Views.{PointerView, StructView, ListView, pointer_field, element_as_struct, element_number}
use Rattle.capnp_wire.specs.Reads.{is_null_pointer}
use Rattle.capnp_values.specs.Shown.{Shown, a_number, an_enum, a_text, a_blob, a_struct, a_list, a_pointer, a_capability, shown_behind}

-- What is read of what is shown, else the fault.
abbrev pub read_or_fault : (Shown → Reading) → Result Shown Kind → Reading
read_or_fault below (Ok x) = below x
read_or_fault below (Err kind) = fault kind

-- What a pointer reads as under a type, by how what is behind it is read.
abbrev pub pointer_reading : (Shown → Reading) → Schema → PointerView → Ty → Reading
pointer_reading below s p ty = if is_null_pointer p then null_pointer else read_or_fault below (shown_behind s ty p)

-- What the pointers of a struct read as.
abbrev pub children_read : (Shown → Reading) → Schema → StructView → Children
children_read below s v i ty = pointer_reading below s (pointer_field v i) ty

-- The record of a struct or a group.
abbrev pub record_read : (Shown → Reading) → Schema → Shape → StructView → Record
record_read below s g v = shape_record g (just_bits v.bits) v.section (children_read below s v)

-- What an element of a list reads as.
abbrev pub element_read : (Shown → Reading) → Schema → Ty → ListView → ℕ → Reading
element_read below s void l i = number 0
element_read below s (plain p) l i = number (element_number l i (width p))
element_read below s (struct id) l i = record_as (record_read below s (s.shape_of id) (element_as_struct l i))
element_read below s text l i = children_read below s (element_as_struct l i) 0 text
element_read below s blob l i = children_read below s (element_as_struct l i) 0 blob
element_read below s untyped l i = children_read below s (element_as_struct l i) 0 untyped
element_read below s interface l i = children_read below s (element_as_struct l i) 0 interface
element_read below s (list ty) l i = children_read below s (element_as_struct l i) 0 (list ty)

-- What n elements read as, from the index i on.
unfoldable pub elements_read : (Shown → Reading) → Schema → Ty → ListView → ℕ → ℕ → Readings
elements_read below s ty l i zero = no_readings
elements_read below s ty l i (suc n) = element_read below s ty l i ▹ elements_read below s ty l (suc i) n

-- What is shown, by how what is behind its pointers is read. The values of untyped pointers aren't looked at.
abbrev pub reading_by : (Shown → Reading) → Shown → Reading
reading_by below (a_number ty n) = number n
reading_by below (an_enum s id n) = number n
reading_by below (a_text bytes) = text_of bytes
reading_by below (a_blob bytes) = blob_of bytes
reading_by below (a_struct s g v) = record_as (record_read below s g v)
reading_by below (a_list s ty l) = list_of (elements_read below s ty l 0 l.count)
reading_by below (a_pointer p) = opaque null
reading_by below a_capability = opaque null

-- What is shown, as above, where structs and lists stand at most n levels deep.
unfoldable pub reading_within : ℕ → Shown → Reading
reading_within zero = reading_by (λ x. fault NestingLimitExceeded)
reading_within (suc n) = reading_by (reading_within n)

-- The levels that are left; under a negative limit there are none.
abbrev pub levels_left : Option ℕ → ℕ
levels_left None = 0
levels_left (Some n) = n

-- The levels of what is shown, its own with those that are left behind it.
abbrev pub levels_of : Shown → ℕ
levels_of (a_number ty n) = 0
levels_of (an_enum s id n) = 0
levels_of (a_text bytes) = 0
levels_of (a_blob bytes) = 0
levels_of (a_struct s g v) = suc (levels_left v.levels)
levels_of (a_list s ty l) = suc (levels_left l.levels)
levels_of (a_pointer p) = 0
levels_of a_capability = 0

-- What is shown, as a whole.
abbrev pub reading_of : Shown → Reading
reading_of x = reading_within (levels_of x) x
