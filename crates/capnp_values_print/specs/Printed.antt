-- The text of a reading, or the first fault that is met on the way.
use Rattle.std.specs.Prelude.{ℕ, zero, suc, Bool, true, false, Option, Some, None, List, [], ◌++◌, codes, Result, Ok, Err}
use Rattle.capnp_model.specs.Kinds.{Kind, NestingLimitExceeded, WrongPointerKind, InactiveMember}
use Rattle.capnp_model.specs.Chains.{◌and_then◌}
use Rattle.capnp_model.specs.Trees.{Tree, null, is_null}
use Rattle.capnp_model.specs.Trimming.{trim}
use Rattle.capnp_model.specs.Encoding.{canonical_words}
use Rattle.capnp_model.specs.Bytes.{bytes_of_words}
use Rattle.capnp_model.specs.Schemas.{«enum», Ty, void, plain, text, blob, untyped, interface, struct, list, shape, Fields, no_fields, field, Schema}
use Rattle.capnp_model.specs.Readings.{Reading, inactive, null_pointer, fault, number, text_of, blob_of, list_of, record_as, opaque, Readings, no_readings, ◌▹◌, Record, no_more, entry, whole_words, no_children, shape_record, read}
use Rattle.capnp_model.specs.Printing.{text_text, blob_text, number_text, opaque_text, Style, inner, opening, between, closing, As, as_type, as_group, as_body, type_of_as, default_of_as, element_type, shape_as, is_shown, as_it_is}
use Rattle.capnp_values.specs.Shown.{Shown, a_number, an_enum, a_text, a_blob, a_struct, a_list, a_pointer, a_capability, shown_behind}
use Rattle.capnp_values.specs.Sources.{default_pointer, null_default}
use Rattle.capnp_values_print.specs.ShownReadings.{reading_of}

-- A text, or the kind of a fault.
abbrev pub Text : Type 0
Text = Result (List ℕ) Kind

-- What a null pointer of a type prints as, with its default.
abbrev pub NullTexts : Type 0
NullTexts = Style → Ty → Tree → Text

-- What stands in front of an item: the first one, or another.
abbrev pub item_mark : Style → Bool → List ℕ
item_mark style true = opening style
item_mark style false = between style

-- A field's text in front of the others', where the field is shown.
abbrev pub field_and_rest : Bool → List ℕ → Text → (Bool → Text) → Bool → Text
field_and_rest false front value rest first = rest first
field_and_rest true front value rest first = value and_then λ v. rest false and_then λ u. Ok (front ++ v ++ u)

-- Elements between their signs.
abbrev pub list_between : Style → Readings → Text → Text
list_between style no_readings items = Ok (codes "[]")
list_between style (r ▹ rs) items = items and_then λ t. Ok (codes "[" ++ t ++ (closing style ++ codes "]"))

-- Fields between their signs.
abbrev pub struct_between : Style → Fields → Text → Text
struct_between style no_fields items = Ok (codes "()")
struct_between style (field n m b fs) items = items and_then λ t. Ok (codes "(" ++ t ++ (closing style ++ codes ")"))

unfoldable mutual
  -- The text of a reading; an inactive member has none.
  pub printed : Schema → (List ℕ → List ℕ) → NullTexts → Style → As → Reading → Text
  printed s quoted nulls style how inactive = Err InactiveMember
  printed s quoted nulls style how null_pointer = nulls style (type_of_as how) (default_of_as how)
  printed s quoted nulls style how (fault kind) = Err kind
  printed s quoted nulls style how (number n) = Ok (number_text s (type_of_as how) n)
  printed s quoted nulls style how (text_of bytes) = Ok (text_text quoted bytes)
  printed s quoted nulls style how (blob_of bytes) = Ok (blob_text bytes)
  printed s quoted nulls style how (list_of rs) = list_between style rs (items_printed s quoted nulls style (as_type (element_type (type_of_as how)) null) true rs)
  printed s quoted nulls style how (record_as r) = struct_between style (shape_as s how) (fields_printed s quoted nulls style true (shape_as s how) r)
  printed s quoted nulls style how (opaque t) = Ok (opaque_text (type_of_as how))

  -- The texts of elements, each behind its mark.
  pub items_printed : Schema → (List ℕ → List ℕ) → NullTexts → Style → As → Bool → Readings → Text
  items_printed s quoted nulls style how first no_readings = Ok []
  items_printed s quoted nulls style how first (r ▹ rs) =
      printed s quoted nulls (inner style) how r and_then λ t. items_printed s quoted nulls style how false rs and_then λ u. Ok (item_mark style first ++ t ++ u)

  -- The texts of the fields that are shown, each behind its mark and its name.
  pub fields_printed : Schema → (List ℕ → List ℕ) → NullTexts → Style → Bool → Fields → Record → Text
  fields_printed s quoted nulls style first no_fields r = Ok []
  fields_printed s quoted nulls style first (field name member body fs) no_more = Ok []
  fields_printed s quoted nulls style first (field name member body fs) (entry n r rest) =
      field_and_rest (is_shown member r) (item_mark style first ++ name ++ codes " = ") (printed s quoted nulls (inner style) (as_body body) r) (λ b. fields_printed s quoted nulls style b fs rest) first

-- The empty value of a type. The empty struct shows no pointer, so its nulls are never asked for.
abbrev pub empty_printed : Schema → (List ℕ → List ℕ) → Style → Ty → Text
empty_printed s quoted style text = Ok (codes "\"\"")
empty_printed s quoted style blob = Ok (codes "0x\"\"")
empty_printed s quoted style (list ty) = Ok (codes "[]")
empty_printed s quoted style (struct id) = printed s quoted (λ st ty d. Err NestingLimitExceeded) style (as_type (struct id) null) (record_as (shape_record (s.shape_of id) whole_words 0 no_children))
empty_printed s quoted style void = Ok (opaque_text void)
empty_printed s quoted style (plain p) = Ok (opaque_text (plain p))
empty_printed s quoted style untyped = Ok (opaque_text untyped)
empty_printed s quoted style interface = Ok (opaque_text interface)

-- ---- what is shown

-- A schema without nodes, under which what names none is printed.
abbrev pub no_schema : Schema
no_schema = record { is_group = λ id. false; shape_of = λ id. shape 0 0 0 None no_fields; names_of = λ id. [] }

-- The schema that explains what is shown.
abbrev pub schema_shown : Shown → Schema
schema_shown (a_number ty n) = no_schema
schema_shown (an_enum s id n) = s
schema_shown (a_text bytes) = no_schema
schema_shown (a_blob bytes) = no_schema
schema_shown (a_struct s g v) = s
schema_shown (a_list s ty l) = s
schema_shown (a_pointer p) = no_schema
schema_shown a_capability = no_schema

-- How what is shown is to be understood.
abbrev pub as_shown : Shown → As
as_shown (a_number ty n) = as_type ty null
as_shown (an_enum s id n) = as_type (plain («enum» id)) null
as_shown (a_text bytes) = as_type text null
as_shown (a_blob bytes) = as_type blob null
as_shown (a_struct s g v) = as_group g
as_shown (a_list s ty l) = as_type (list ty) null
as_shown (a_pointer p) = as_type untyped null
as_shown a_capability = as_type interface null

-- ---- null pointers

-- A text or data as it is shown, or the fault in its place.
abbrev pub bytes_shown : Reading → Result Shown Kind
bytes_shown (text_of bytes) = Ok (a_text bytes)
bytes_shown (blob_of bytes) = Ok (a_blob bytes)
bytes_shown (fault kind) = Err kind
bytes_shown _ = Err WrongPointerKind

-- What a default shows: a text or data its bytes, a struct or a list what stands in its canonical words.
abbrev pub default_shown : Schema → Ty → Tree → Result Shown Kind
default_shown s text d = bytes_shown (read s d text)
default_shown s blob d = bytes_shown (read s d blob)
default_shown s (struct id) d = shown_behind s (struct id) (default_pointer (bytes_of_words (canonical_words (trim d))))
default_shown s (list ty) d = shown_behind s (list ty) (default_pointer (bytes_of_words (canonical_words (trim d))))
default_shown s void d = Ok (a_number void 0)
default_shown s (plain p) d = Ok (a_number void 0)
default_shown s untyped d = Ok (a_pointer null_default)
default_shown s interface d = Ok a_capability

-- The text of what is shown, or its fault, where null pointers print so.
abbrev pub text_shown : (Schema → NullTexts) → (List ℕ → List ℕ) → Style → Result Shown Kind → Text
text_shown nulls quoted style (Ok x) = printed (schema_shown x) quoted (nulls (schema_shown x)) style (as_shown x) (reading_of x)
text_shown nulls quoted style (Err kind) = Err kind

-- A null prints as its default, else as the empty value; at most `left` defaults are entered, and the next is a fault.
unfoldable pub null_printed : Schema → (List ℕ → List ℕ) → ℕ → NullTexts
null_printed s quoted zero style ty d = elim (is_null d) [ true ↦ empty_printed s quoted style ty | false ↦ Err NestingLimitExceeded ]
null_printed s quoted (suc left) style ty d =
    elim (is_null d) [ true ↦ empty_printed s quoted style ty | false ↦ text_shown (λ around. null_printed around quoted left) quoted style (default_shown s ty d) ]

-- The text of what is shown, where n defaults may still be entered.
abbrev pub shown_text : ℕ → Style → Shown → Text
shown_text left style x = let s = schema_shown x in printed s as_it_is (null_printed s as_it_is left) style (as_shown x) (reading_of x)

-- The text, if there is one.
abbrev pub text_if_any : Text → Option (List ℕ)
text_if_any (Ok t) = Some t
text_if_any (Err kind) = None
