-- What a tree reads as under a schema.
use Rattle.std.specs.Prelude.{ℕ, zero, suc, ◌+◌, ◌*◌, Bool, true, false, not, ◌&&◌, ◌==◌, nat_lt, nat_le, if◌then◌else◌, bit_xor, Option, Some, None, List, [], ◌∷◌, length, take, slice_index}
use Rattle.capnp_model.specs.Kinds.{Kind, WrongPointerKind, WrongElementSize, TextWithoutZeroByte}
use Rattle.capnp_model.specs.Sections.{bits_at}
use Rattle.capnp_model.specs.Trees.{Tree, null, capability, structure, plain_list, pointer_list, struct_list, Trees, none, ◌▸◌, Elements, no_elements, element, size_bits, size_of_width, plain_elements}
use Rattle.capnp_model.specs.Trimming.{trim}
use Rattle.capnp_model.specs.Schemas.{width, Ty, void, plain, text, blob, untyped, interface, struct, list, Shape, shape, Fields, no_fields, field, Body, void_slot, plain_slot, pointer_slot, group_slot, Schema}

-- ---- records

mutual
  -- What a field or an element reads as.
  pub data Reading : Type 0 where
    -- a union member that isn't the active one
    inactive : Reading
    null_pointer : Reading
    fault : Kind → Reading
    -- a plain value by its bits; Void by 0
    number : ℕ → Reading
    text_of : List ℕ → Reading
    blob_of : List ℕ → Reading
    list_of : Readings → Reading
    -- a struct or a group
    record_as : Record → Reading
    -- the trimmed tree of an untyped or capability pointer
    opaque : Tree → Reading

  -- What the elements of a list read as.
  pub data Readings : Type 0 where
    no_readings : Readings
    ◌▹◌ : Reading → Readings → Readings

  -- The fields of a struct in index order, each with its name.
  pub data Record : Type 0 where
    no_more : Record
    entry : List ℕ → Reading → Record → Record

infixr 35 ◌▹◌
-- What the children of a struct read as: the child's place and the type.
abbrev pub Children : Type 0
Children = ℕ → Ty → Reading

-- No child: each place is null.
abbrev pub no_children : Children
no_children i ty = null_pointer

-- One child at the first place.
abbrev pub only_child : (Ty → Reading) → Children
only_child r zero ty = r ty
only_child r (suc i) ty = null_pointer

-- ---- the fields of a struct

-- How far a data section goes. Behind the words of a struct there are zeros, since the section is a
-- number; an element of a plain list has exactly its bits.
pub data Extent : Type 0 where
  whole_words : Extent
  just_bits : ℕ → Extent

-- The bits of a field: zero unless they lie wholly in the section.
abbrev pub field_bits : Extent → ℕ → ℕ → ℕ → ℕ
field_bits whole_words section at width = bits_at at width section
field_bits (just_bits size) section at width = if nat_le (at + width) size then bits_at at width section else 0

-- The value of the discriminant, if there is a union.
abbrev pub discriminant : Option ℕ → Extent → ℕ → Option ℕ
discriminant None size section = None
discriminant (Some at) size section = Some (field_bits size section at 16)

-- A field that is no member, or the active one.
abbrev pub is_active : Option ℕ → Option ℕ → Bool
is_active None d = true
is_active (Some m) None = false
is_active (Some m) (Some d) = m == d

-- A reading, where the field is active.
abbrev pub only_if : Bool → Reading → Reading
only_if true r = r
only_if false r = inactive

unfoldable mutual
  -- The record of a struct or a group: its extent, section and children.
  pub shape_record : Shape → Extent → ℕ → Children → Record
  shape_record (shape nid words pointers union fs) size section kids = fields_of fs (discriminant union size section) size section kids

  -- The record of fields under a discriminant.
  pub fields_of : Fields → Option ℕ → Extent → ℕ → Children → Record
  fields_of no_fields d size section kids = no_more
  fields_of (field name member body fs) d size section kids =
      entry name (only_if (is_active member d) (body_of body size section kids)) (fields_of fs d size section kids)

  -- What a field reads as.
  pub body_of : Body → Extent → ℕ → Children → Reading
  body_of (void_slot j) size section kids = number 0
  body_of (plain_slot p at default) size section kids = number (bit_xor (field_bits size section at (width p)) default)
  body_of (pointer_slot i ty default) size section kids = kids i ty
  body_of (group_slot g) size section kids = record_as (shape_record g size section kids)

-- ---- lists

-- The element size that lists of the type are written with: 0 to 5 of plain bits, 6 of pointers, 7 of structs. (Encoding, "Lists")
abbrev pub expected_size : Ty → ℕ
expected_size void = 0
expected_size (plain p) = size_of_width (width p)
expected_size (struct id) = 7
expected_size _ = 6

-- Elements of n bits and pointers can be read as elements of the expected size; those of structs
-- need nothing.
abbrev pub have_room : ℕ → ℕ → ℕ → Bool
have_room bits pointers expected = nat_le (if nat_lt expected 6 then size_bits expected else 0) bits && nat_le (if expected == 6 then 1 else 0) pointers

-- The list is accepted where elements of the size are expected. Only single bits are read from a list of single bits,
-- and never from structs.
abbrev pub is_accepted_as : ℕ → Tree → Bool
is_accepted_as expected (plain_list size n section) = if size == 1 then expected == 1 else have_room (size_bits size) 0 expected
is_accepted_as expected (pointer_list ts) = have_room 0 1 expected
is_accepted_as expected (struct_list words pointers es) = not (expected == 1) && have_room (64 * words) pointers expected
is_accepted_as expected _ = false

-- The elements of the list can be read as the type.
abbrev pub is_list_of : Tree → Ty → Bool
is_list_of t ty = is_accepted_as (expected_size ty) t

-- ---- pointers

-- An element, whatever the list's kind, has a data section and children, as a struct has.
abbrev pub element_as : Schema → Ty → Extent → ℕ → Children → Reading
element_as s void size section kids = number 0
element_as s (plain p) size section kids = number (bits_at 0 (width p) section)
element_as s (struct id) size section kids = record_as (shape_record (s.shape_of id) size section kids)
element_as s ty size section kids = kids 0 ty

-- A text is a byte list whose last byte is zero.
abbrev pub text_reading : List ℕ → Reading
text_reading [] = fault TextWithoutZeroByte
text_reading (b ∷ bs) = if slice_index (b ∷ bs) (length bs) == 0 then text_of (take (length bs) (b ∷ bs)) else fault TextWithoutZeroByte

-- A list, where its elements can be read as the type.
abbrev pub list_reading : Bool → Readings → Reading
list_reading true rs = list_of rs
list_reading false rs = fault WrongElementSize

-- What plain elements read as.
abbrev pub plain_readings : Schema → ℕ → List ℕ → Ty → Readings
plain_readings s size [] ty = no_readings
plain_readings s size (x ∷ xs) ty = element_as s ty (just_bits size) x no_children ▹ plain_readings s size xs ty

-- What a struct reads as.
abbrev pub struct_reading : Schema → Tree → ℕ → Children → Ty → Reading
struct_reading s t section kids (struct id) = record_as (shape_record (s.shape_of id) whole_words section kids)
struct_reading s t section kids untyped = opaque (trim t)
struct_reading s t section kids interface = opaque (trim t)
struct_reading s t section kids _ = fault WrongPointerKind

-- What a list of plain elements reads as.
abbrev pub plain_list_reading : Schema → Tree → ℕ → List ℕ → Ty → Reading
plain_list_reading s t size xs text = if size == 2 then text_reading xs else fault WrongElementSize
plain_list_reading s t size xs blob = if size == 2 then blob_of xs else fault WrongElementSize
plain_list_reading s t size xs (list ty) = list_reading (is_list_of t ty) (plain_readings s (size_bits size) xs ty)
plain_list_reading s t size xs untyped = opaque t
plain_list_reading s t size xs interface = opaque t
plain_list_reading s t size xs _ = fault WrongPointerKind

-- A list of children or of structs, with what its elements read as.
abbrev pub other_list_reading : Tree → (Ty → Readings) → Ty → Reading
other_list_reading t elements (list ty) = list_reading (is_list_of t ty) (elements ty)
other_list_reading t elements untyped = opaque (trim t)
other_list_reading t elements interface = opaque (trim t)
other_list_reading t elements text = fault WrongElementSize
other_list_reading t elements blob = fault WrongElementSize
other_list_reading t elements _ = fault WrongPointerKind

-- What a capability reads as.
abbrev pub capability_reading : ℕ → Ty → Reading
capability_reading i untyped = opaque (capability i)
capability_reading i interface = opaque (capability i)
capability_reading i _ = fault WrongPointerKind

unfoldable mutual
  -- What a pointer reads as.
  pub read : Schema → Tree → Ty → Reading
  read s null ty = null_pointer
  read s (capability i) ty = capability_reading i ty
  read s (structure words section kids) ty = struct_reading s (structure words section kids) section (read_child s kids) ty
  read s (plain_list size n section) ty = plain_list_reading s (plain_list size n section) size (plain_elements size n section) ty
  read s (pointer_list ts) ty = other_list_reading (pointer_list ts) (pointer_elements s ts) ty
  read s (struct_list words pointers es) ty = other_list_reading (struct_list words pointers es) (struct_elements s es) ty

  -- What a child reads as.
  pub read_child : Schema → Trees → ℕ → Ty → Reading
  read_child s none i ty = null_pointer
  read_child s (t ▸ ts) zero ty = read s t ty
  read_child s (t ▸ ts) (suc i) ty = read_child s ts i ty

  -- What the elements of a list of children read as.
  pub pointer_elements : Schema → Trees → Ty → Readings
  pointer_elements s none ty = no_readings
  pointer_elements s (t ▸ ts) ty = element_as s ty (just_bits 0) 0 (only_child (read s t)) ▹ pointer_elements s ts ty

  -- What the elements of a list of structs read as.
  pub struct_elements : Schema → Elements → Ty → Readings
  struct_elements s no_elements ty = no_readings
  struct_elements s (element section kids es) ty = element_as s ty whole_words section (read_child s kids) ▹ struct_elements s es ty

-- ---- the record of a struct

-- A null counts as the empty struct.
unfoldable pub record_by_shape : Schema → Shape → Tree → Record
record_by_shape s g (structure words section kids) = shape_record g whole_words section (read_child s kids)
record_by_shape s g _ = shape_record g whole_words 0 no_children

-- The record of a struct under the schema of an id.
unfoldable pub record_of : Schema → ℕ → Tree → Record
unfolding record_by_shape
record_of s id t = record_by_shape s (s.shape_of id) t
