-- The text of a value, plain or in the alternate form.
use Rattle.std.specs.Prelude.{ℕ, zero, suc, ◌-◌, ◌*◌, ◌/◌, ◌%◌, ◌^◌, Bool, true, false, ◌==◌, nat_lt, if◌then◌else◌, Option, Some, None, option_map, List, [], ◌∷◌, ◌++◌, map, slice_get, unwrap_or, codes, decimal, replicate}
use Rattle.std.specs.Fmt.{digits}
use Rattle.std.specs.List.{flat_map, list_all}
use Rattle.std.specs.Str.{is_utf8}
use Rattle.capnp_model.specs.Trees.{Tree, null, is_null}
use Rattle.capnp_model.specs.Schemas.{bool, int, uint, «enum», Ty, void, plain, text, blob, interface, struct, list, Shape, shape, Fields, no_fields, field, Body, void_slot, plain_slot, pointer_slot, group_slot, Schema, default_or_null}
use Rattle.capnp_model.specs.Readings.{Reading, inactive, null_pointer, fault, number, text_of, blob_of, list_of, record_as, opaque, Readings, no_readings, ◌▹◌, Record, no_more, entry, no_children, whole_words, shape_record, read}

-- ---- single values

-- A character between quotes.
abbrev pub escaped : ℕ → List ℕ
escaped c =
    if c == 34 then codes "\\\"" else
    (if c == 92 then codes "\\\\" else
    (if c == 10 then codes "\\n" else
    (if c == 13 then codes "\\r" else
    (if c == 9 then codes "\\t" else
    (if c == 0 then codes "\\0" else
    (if nat_lt c 32 then codes "\\u{" ++ digits 16 false c ++ codes "}" else
    (if c == 127 then codes "\\u{7f}" else c ∷ [])))))))

-- The items with the separator between each two.
abbrev pub joined : List ℕ → List (List ℕ) → List ℕ
joined sep [] = []
joined sep (x ∷ []) = x
joined sep (x ∷ y ∷ ys) = x ++ sep ++ joined sep (y ∷ ys)

-- What stands between the quotes of a text past ASCII, as replies and printed values have it: its ASCII characters as in any text, the others as they are.
abbrev pub as_it_is : List ℕ → List ℕ
as_it_is bs = flat_map escaped bs

-- A text; `quoted` is what stands between the quotes of one past ASCII, which is left open.
abbrev pub text_text : (List ℕ → List ℕ) → List ℕ → List ℕ
text_text quoted bs =
    if is_utf8 bs then codes "\"" ++ (if list_all (λ b. nat_lt b 128) bs then flat_map escaped bs else quoted bs) ++ codes "\""
    else codes "<invalid utf-8: [" ++ joined (codes ", ") (map decimal bs) ++ codes "]>"

-- A byte in hex.
abbrev pub hex_byte : ℕ → List ℕ
hex_byte b = digits 16 false (b / 16) ++ digits 16 false (b % 16)

-- Data.
abbrev pub blob_text : List ℕ → List ℕ
blob_text bs = codes "0x\"" ++ flat_map hex_byte bs ++ codes "\""

-- A plain value.
abbrev pub number_text : Schema → Ty → ℕ → List ℕ
number_text s (plain bool) n = if n == 0 then codes "false" else codes "true"
number_text s (plain (uint w)) n = decimal n
number_text s (plain (int w)) n = if nat_lt n (2 ^ (w - 1)) then decimal n else codes "-" ++ decimal (2 ^ w - n)
number_text s (plain («enum» id)) n = unwrap_or (slice_get (s.names_of id) n) (decimal n)
number_text s _ n = codes "()"

-- An untyped pointer or a capability.
abbrev pub opaque_text : Ty → List ℕ
opaque_text interface = codes "<external capability>"
opaque_text _ = codes "<opaque pointer>"

-- ---- the two forms

-- The form of a text.
pub data Style : Type 0 where
  on_one_line : Style
  -- at n levels
  indented : ℕ → Style

-- The form one level deeper.
abbrev pub inner : Style → Style
inner on_one_line = on_one_line
inner (indented n) = indented (suc n)

-- A line feed and two blanks for each level.
abbrev pub line_at : ℕ → List ℕ
line_at n = 10 ∷ replicate (2 * n) 32

-- What stands behind an opening sign.
abbrev pub opening : Style → List ℕ
opening on_one_line = []
opening (indented n) = line_at (suc n)

-- What stands between two items.
abbrev pub between : Style → List ℕ
between on_one_line = codes ", "
between (indented n) = codes "," ++ line_at (suc n)

-- What stands in front of a closing sign.
abbrev pub closing : Style → List ℕ
closing on_one_line = []
closing (indented n) = line_at n

-- Items between two signs; without an item nothing stands behind the opening sign.
abbrev pub enclosed : Style → List ℕ → List ℕ → List (List ℕ) → List ℕ
enclosed style sign sign' [] = sign ++ closing style ++ sign'
enclosed style sign sign' (x ∷ xs) = sign ++ opening style ++ joined (between style) (x ∷ xs) ++ closing style ++ sign'

-- A list.
abbrev pub list_text : Style → List (List ℕ) → List ℕ
list_text style [] = codes "[]"
list_text style (x ∷ xs) = enclosed style (codes "[") (codes "]") (x ∷ xs)

-- A struct.
abbrev pub struct_text : Style → Fields → List (List ℕ) → List ℕ
struct_text style no_fields items = codes "()"
struct_text style (field n m b fs) items = enclosed style (codes "(") (codes ")") items

-- ---- values

-- How a reading is to be understood: under a type with the default of its field, or as a group.
pub data As : Type 0 where
  as_type : Ty → Tree → As
  as_group : Shape → As

-- How a field's reading is to be understood.
abbrev pub as_body : Body → As
as_body (void_slot j) = as_type void null
as_body (plain_slot p at d) = as_type (plain p) null
as_body (pointer_slot i ty d) = as_type ty (default_or_null d)
as_body (group_slot g) = as_group g

-- The type, if it is one.
abbrev pub type_of_as : As → Ty
type_of_as (as_type ty d) = ty
type_of_as (as_group g) = void

-- The default, if there is one.
abbrev pub default_of_as : As → Tree
default_of_as (as_type ty d) = d
default_of_as (as_group g) = null

-- The type of a list's elements.
abbrev pub element_type : Ty → Ty
element_type (list ty) = ty
element_type _ = void

-- The fields of a shape.
abbrev pub fields_in : Shape → Fields
fields_in (shape nid w p u fs) = fs

-- The fields of what is understood as a struct or a group.
abbrev pub shape_as : Schema → As → Fields
shape_as s (as_group g) = fields_in g
shape_as s (as_type (struct id) d) = fields_in (s.shape_of id)
shape_as s (as_type _ d) = no_fields

-- A union member is shown where it is active, with discriminant 0 only where it is no null pointer;
-- another field only where it is no null pointer.
abbrev pub is_shown : Option ℕ → Reading → Bool
is_shown m inactive = false
is_shown (Some (suc m)) null_pointer = true
is_shown _ null_pointer = false
is_shown m r = true

-- An item in front of others, where it is shown.
abbrev pub cons_if : Bool → Option (List ℕ) → Option (List (List ℕ)) → Option (List (List ℕ))
cons_if false x xs = xs
cons_if true None xs = None
cons_if true (Some x) xs = option_map (λ ys. x ∷ ys) xs

-- What a null pointer of a type prints as, with its default.
abbrev pub Nulls : Type 0
Nulls = Style → Ty → Tree → Option (List ℕ)

unfoldable mutual
  -- The text of a reading, or `None` where a fault is met.
  pub print : Schema → (List ℕ → List ℕ) → Nulls → Style → As → Reading → Option (List ℕ)
  print s quoted nulls style how inactive = None
  print s quoted nulls style how null_pointer = nulls style (type_of_as how) (default_of_as how)
  print s quoted nulls style how (fault k) = None
  print s quoted nulls style how (number n) = Some (number_text s (type_of_as how) n)
  print s quoted nulls style how (text_of bs) = Some (text_text quoted bs)
  print s quoted nulls style how (blob_of bs) = Some (blob_text bs)
  print s quoted nulls style how (list_of rs) =
      option_map (list_text style) (print_items s quoted nulls (inner style) (as_type (element_type (type_of_as how)) null) rs)
  print s quoted nulls style how (record_as r) =
      option_map (struct_text style (shape_as s how)) (print_fields s quoted nulls (inner style) (shape_as s how) r)
  print s quoted nulls style how (opaque t) = Some (opaque_text (type_of_as how))

  -- The texts of items.
  pub print_items : Schema → (List ℕ → List ℕ) → Nulls → Style → As → Readings → Option (List (List ℕ))
  print_items s quoted nulls style how no_readings = Some []
  print_items s quoted nulls style how (r ▹ rs) =
      cons_if true (print s quoted nulls style how r) (print_items s quoted nulls style how rs)

  -- The texts of the fields that are shown.
  pub print_fields : Schema → (List ℕ → List ℕ) → Nulls → Style → Fields → Record → Option (List (List ℕ))
  print_fields s quoted nulls style no_fields r = Some []
  print_fields s quoted nulls style (field name member body fs) no_more = Some []
  print_fields s quoted nulls style (field name member body fs) (entry n r rest) =
      cons_if (is_shown member r) (option_map (λ v. name ++ codes " = " ++ v) (print s quoted nulls style (as_body body) r)) (print_fields s quoted nulls style fs rest)

-- The empty value of a type. The empty struct shows no pointer, so its nulls are never asked for.
abbrev pub empty_text : Schema → (List ℕ → List ℕ) → Style → Ty → Option (List ℕ)
empty_text s quoted style text = Some (codes "\"\"")
empty_text s quoted style blob = Some (codes "0x\"\"")
empty_text s quoted style (list ty) = Some (codes "[]")
empty_text s quoted style (struct id) = print s quoted (λ st ty d. None) style (as_type (struct id) null) (record_as (shape_record (s.shape_of id) whole_words 0 no_children))
empty_text s quoted style ty = Some (opaque_text ty)

-- A null prints as its default, else as the empty value; at most `left` defaults are entered.
unfoldable pub nulls_as : Schema → (List ℕ → List ℕ) → ℕ → Nulls
nulls_as s quoted zero style ty d = elim (is_null d) [ true ↦ empty_text s quoted style ty | false ↦ None ]
nulls_as s quoted (suc left) style ty d =
    elim (is_null d) [ true ↦ empty_text s quoted style ty | false ↦ print s quoted (nulls_as s quoted left) style (as_type ty null) (read s d ty) ]

-- The text of a record.
unfoldable pub record_text : Schema → (List ℕ → List ℕ) → Style → ℕ → Record → Option (List ℕ)
record_text s quoted style id r = print s quoted (nulls_as s quoted 64) style (as_type (struct id) null) (record_as r)
