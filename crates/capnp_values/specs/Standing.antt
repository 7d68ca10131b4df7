-- Where what is shown stands at a value, and what it reads as there. (Encoding, "Value Encoding")
use Rattle.std.specs.Prelude.{ℕ, ◌≡◌, ◌*◌, ◌^◌, ◌<◌, ◌≤◌, [], Option, Some, option_map, Result, Ok, Err}
use Rattle.capnp_model.specs.Kinds.{Kind}
use Rattle.capnp_model.specs.Trees.{Tree, null, is_null, Trees, child}
use Rattle.capnp_model.specs.Trimming.{trim}
use Rattle.capnp_model.specs.Traversal.{tree_at}
use Rattle.capnp_model.specs.Schemas.{TypeRecord, type_of, Ty, void, plain, text, blob, untyped, interface, struct, list, FieldKind, slot, group, Shape, Schema, Body, void_slot, plain_slot, pointer_slot, group_slot, default_or_null}
use Rattle.capnp_model.specs.Accepted.{field_body}
use Rattle.capnp_model.specs.Readings.{Reading, inactive, null_pointer, fault, number, text_of, blob_of, list_of, record_as, opaque, Readings, no_readings, Extent, whole_words, just_bits, no_children, discriminant, shape_record, body_of, read, read_child}
use Rattle.capnp_model.specs.ActiveMembers.{element_of as reading_of}
use Rattle.capnp_wire.specs.Views.{PointerView, StructView, ListView, pointer_field}
use Rattle.capnp_wire.specs.Reads.{is_null_pointer as pointer_is_null}
use Rattle.capnp_wire.specs.Laws.{reads_behind, ShowsList}
use Rattle.capnp_values.specs.GoodDefaults.{IsGoodDefault}
use Rattle.capnp_values.specs.Shown.{Shown, a_number, an_enum, a_text, a_blob, a_struct, a_list, a_pointer, a_capability, shown_behind, kind_shown, element_shown}

-- The pointer leads to a value of n levels at most, and they are left.
pub record LeadsToValue (n : ℕ) (p : PointerView) (t : Tree) : Type 0 where
  pub left : ℕ
  pub levels : p.levels ≡ Some left
  pub enough : n ≤ left
  pub tree : reads_behind (tree_at n p.basis.segments) p.place ≡ Some t

-- The data section goes so far.
abbrev pub IsExtent : Extent → StructView → Type 0
IsExtent (just_bits size) v = v.bits ≡ size
IsExtent whole_words v = (words : ℕ) × (v.bits ≡ 64 * words) × (v.section < 2 ^ (64 * words))

-- The struct has this section, and the pointer at each index leads to the child there; past the last to null.
pub record HasSectionAndChildren (n : ℕ) (v : StructView) (e : Extent) (section : ℕ) (kids : Trees) : Type 0 where
  pub extent : IsExtent e v
  pub same : v.section ≡ section
  pub children : (i : ℕ) → LeadsToValue n (pointer_field v i) (child kids i)

-- The list shows a value of n levels at most, and they are left.
pub record Lists (n : ℕ) (l : ListView) (t : Tree) : Type 0 where
  pub left : ℕ
  pub levels : l.levels ≡ Some left
  pub enough : n ≤ left
  pub shows : ShowsList (tree_at n l.basis.segments) l t

-- The empty value of a type.
abbrev pub empty_value : Schema → Ty → Reading
empty_value s void = number 0
empty_value s (plain p) = number 0
empty_value s text = text_of []
empty_value s blob = blob_of []
empty_value s untyped = opaque null
empty_value s interface = opaque null
empty_value s (struct id) = record_as (shape_record (s.shape_of id) whole_words 0 no_children)
empty_value s (list ty) = list_of no_readings

-- A reading, null as the empty value of the type.
abbrev pub null_as_empty : Schema → Ty → Reading → Reading
null_as_empty s ty inactive = inactive
null_as_empty s ty null_pointer = empty_value s ty
null_as_empty s ty (fault kind) = fault kind
null_as_empty s ty (number n) = number n
null_as_empty s ty (text_of bytes) = text_of bytes
null_as_empty s ty (blob_of bytes) = blob_of bytes
null_as_empty s ty (list_of rs) = list_of rs
null_as_empty s ty (record_as r) = record_as r
null_as_empty s ty (opaque t) = opaque t

-- A struct stands where its record is the reading.
pub record IsRecord (s : Schema) (g : Shape) (v : StructView) (r : Reading) : Type 0 where
  pub levels : ℕ
  pub extent : Extent
  pub section : ℕ
  pub kids : Trees
  pub stands : HasSectionAndChildren levels v extent section kids
  pub is : r ≡ record_as (shape_record g extent section (read_child s kids))

-- A list stands where its elements are the reading.
pub record AreItems (s : Schema) (ty : Ty) (l : ListView) (r : Reading) : Type 0 where
  pub levels : ℕ
  pub tree : Tree
  pub lists : Lists levels l tree
  pub items : Readings
  pub reads : null_as_empty s (list ty) (read s tree (list ty)) ≡ list_of items
  pub is : r ≡ list_of items

-- A pointer leads to the reading's value.
pub record IsOpaque (p : PointerView) (r : Reading) : Type 0 where
  pub levels : ℕ
  pub tree : Tree
  pub leads : LeadsToValue levels p tree
  pub is : r ≡ opaque (trim tree)

-- What is shown is the reading, under a schema.
abbrev pub IsReading : Schema → Shown → Reading → Type 0
IsReading s (a_number ty n) r = r ≡ number n
IsReading s (an_enum s' id n) r = (s' ≡ s) × (r ≡ number n)
IsReading s (a_text bytes) r = r ≡ text_of bytes
IsReading s (a_blob bytes) r = r ≡ blob_of bytes
IsReading s (a_struct s' g v) r = (s' ≡ s) × IsRecord s g v r
IsReading s (a_list s' ty l) r = (s' ≡ s) × AreItems s ty l r
IsReading s (a_pointer p) r = IsOpaque p r
IsReading s a_capability r = (t : Tree) × (r ≡ opaque t)

-- What is answered is the reading, or the kind of its fault.
abbrev pub Answers : Schema → Result Shown Kind → Reading → Type 0
Answers s (Ok x) r = IsReading s x r
Answers s (Err kind) r = r ≡ fault kind

-- Values of the type stand behind a pointer.
abbrev pub IsPointerType : Ty → Type 0
IsPointerType void = ⊥
IsPointerType (plain p) = ⊥
IsPointerType text = Unit {0}
IsPointerType blob = Unit {0}
IsPointerType untyped = Unit {0}
IsPointerType interface = Unit {0}
IsPointerType (struct id) = Unit {0}
IsPointerType (list ty) = Unit {0}

-- What a pointer shows is what its value reads as.
abbrev pub PointersAreRead : Type 0
PointersAreRead = (n : ℕ) (p : PointerView) (t : Tree) (s : Schema) (ty : Ty) → IsPointerType ty → LeadsToValue n p t → Answers s (shown_behind s ty p) (null_as_empty s ty (read s t ty))

-- A reading, a null pointer as its default, which is null where there is none, or else as the empty value of the type.
abbrev pub or_default : Schema → Ty → Tree → Reading → Reading
or_default s ty d inactive = inactive
or_default s ty d null_pointer = null_as_empty s ty (read s d ty)
or_default s ty d (fault kind) = fault kind
or_default s ty d (number n) = number n
or_default s ty d (text_of bytes) = text_of bytes
or_default s ty d (blob_of bytes) = blob_of bytes
or_default s ty d (list_of rs) = list_of rs
or_default s ty d (record_as r) = record_as r
or_default s ty d (opaque t) = opaque t

-- A field's reading, a null pointer as its default, else as the empty value of its type.
abbrev pub defaulted_field : Schema → Body → Reading → Reading
defaulted_field s (void_slot j) r = r
defaulted_field s (plain_slot p at d) r = r
defaulted_field s (pointer_slot i ty d) r = or_default s ty (default_or_null d) r
defaulted_field s (group_slot g) r = r

-- The field lies behind a pointer that isn't null, or its default keeps the rules.
abbrev pub HasGoodDefault : Trees → FieldKind → Type 0
HasGoodDefault kids (slot offset ty d) = child kids offset ≡ null → IsGoodDefault (type_of ty) d
HasGoodDefault kids (group id) = Unit {0}

-- What is shown of a field is what the model reads of the struct there, or of the field's default where the pointer is null.
abbrev pub FieldsAreRead : Type 0
FieldsAreRead = (n : ℕ) (v : StructView) (e : Extent) (section : ℕ) (kids : Trees) (s : Schema) (k : FieldKind) → HasSectionAndChildren n v e section kids → HasGoodDefault kids k
    → let body = field_body s.shape_of k in Answers s (kind_shown s v k) (defaulted_field s body (body_of body e section (read_child s kids)))

-- What each element of a list shows is what the value's element reads as, a null pointer as the empty value of its type; past the last there is none.
abbrev pub ElementsAreRead : Type 0
ElementsAreRead = (s : Schema) (ty : TypeRecord) (l : ListView) (r : Reading) (are : AreItems s (type_of ty) l r) (i : ℕ)
    → (i < l.count → Answers s (element_shown s (type_of ty) l i) (null_as_empty s (type_of ty) (reading_of i are.items)))
    × (l.count ≤ i → reading_of i are.items ≡ inactive)

-- The discriminant that is shown is the one that the model reads, at a place counted in 16 bits.
abbrev pub DiscriminantsAreRead : Type 0
DiscriminantsAreRead = (n : ℕ) (v : StructView) (e : Extent) (section : ℕ) (kids : Trees) (offset : Option ℕ) → HasSectionAndChildren n v e section kids
    → let at = option_map (λ o. 16 * o) offset in discriminant at (just_bits v.bits) v.section ≡ discriminant at e section

-- A pointer is null where it leads to null.
abbrev pub NullsAreRead : Type 0
NullsAreRead = (n : ℕ) (p : PointerView) (t : Tree) → LeadsToValue n p t → pointer_is_null p ≡ is_null t
