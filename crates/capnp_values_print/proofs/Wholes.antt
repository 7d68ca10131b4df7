-- Structs and lists print as their parts do.
use Rattle.std.proofs.Common.{◌≡◌, ℕ, zero, suc, ◌+◌, ◌<◌, ◌≤◌, ◌==◌, ◌&&◌, not, Bool, true, false, Option, Some, List, [], ◌++◌, Result, Ok, Err, refl, ap, sym, ◌∙◌, arith}
use Rattle.std.specs.Prelude.{codes}
use Rattle.std.proofs.lemmas.Bool.Decides.{nat_tests}
use Rattle.capnp_model.specs.Kinds.{Kind, NestingLimitExceeded}
use Rattle.capnp_model.specs.Chains.{◌and_then◌}
use Rattle.capnp_model.specs.Schemas.{Ty, Field as FieldNode, Schema, Fields, no_fields, field}
use Rattle.capnp_model.specs.Readings.{just_bits, is_active, only_if}
use Rattle.capnp_model.specs.Printing.{Style, inner, closing, as_group, as_body, as_it_is}
use Rattle.capnp_model.specs.Accepted.{field_body}
use Rattle.capnp_values_queries.specs.Fields.{Entry, entry_in, field_at, field_count}
use Rattle.capnp_values_queries.specs.Structs.{schema_around, shape_of_struct, fields_of_struct}
use Rattle.capnp_values_queries.specs.Handles.{entry_of_field, IsFieldRecord}
use Rattle.capnp_values_queries.specs.declared.structs.StructSchema.{StructSchema}
use Rattle.capnp_values_queries.specs.declared.fields.Field.{Field}
use Rattle.capnp_wire.specs.Views.{StructView, ListView}
use Rattle.capnp_values.specs.GoodDefaults.{KeepsDefault}
use Rattle.capnp_values.specs.Standing.{NullsAreRead}
use Rattle.capnp_values.specs.Shown.{Shown, a_struct, a_list, kind_shown, discriminant_shown, is_null_slot, element_shown}
use Rattle.capnp_values_print.specs.ShownReadings.{children_read, elements_read, reading_within, levels_left}
use Rattle.capnp_values_print.specs.Defaults.{enters}
use Rattle.capnp_values_print.specs.Members.{field_read, field_shown}
use Rattle.capnp_values_print.specs.Parts.{fields_text, member_text, elements_text, enters_there}
use Rattle.capnp_values_print.specs.Printed.{Text, item_mark, list_between, struct_between, printed, null_printed, shown_text}
use Rattle.capnp_values_print.proofs.lemmas.Children.{within}
use Rattle.capnp_values_print.proofs.DefaultTexts.{field_entered, field_refused, field_empty}
use Rattle.capnp_values_print.proofs.lemmas.ElementTexts.{text_or_fault, element_text}
use Rattle.capnp_values_print.proofs.FieldTexts.{field_there}
use Rattle.capnp_values_print.proofs.Loops.{Left, Rest, Going, begins, record_is, fields_after, left_out, left_in, none_left, element_next, elements_end, list_text_is, list_text_empty, struct_text_is, struct_text_empty}
use Rattle.capnp_values_print.proofs.lemmas.Shows.{Read}

module _ (left : ℕ) (style : Style) where
  struct_whole : (s : StructSchema) (v : StructView) → shown_text left style (a_struct (schema_around s) (shape_of_struct s) v) ≡ struct_between style (fields_of_struct s) (fields_text left style s v)
  unfolding printed
  struct_whole s v =
      ap (printed (schema_around s) as_it_is (null_printed (schema_around s) as_it_is left) style (as_group (shape_of_struct s))) (within (suc (levels_left v.levels)) (a_struct (schema_around s) (shape_of_struct s) v))

  pub struct_empty : (s : StructSchema) (v : StructView) → field_count (fields_of_struct s) ≡ 0 → shown_text left style (a_struct (schema_around s) (shape_of_struct s) v) ≡ Ok (codes "()")
  struct_empty s v e = struct_whole s v ∙ struct_text_empty style (fields_of_struct s) (fields_text left style s v) e

  pub struct_some : (s : StructSchema) (v : StructView) → (field_count (fields_of_struct s) ≡ 0 → ⊥)
      → shown_text left style (a_struct (schema_around s) (shape_of_struct s) v) ≡ (fields_text left style s v and_then λ t. Ok ((codes "(" ++ t) ++ (closing style ++ codes ")")))
  struct_some s v e = struct_whole s v ∙ struct_text_is style (fields_of_struct s) (fields_text left style s v) e

  list_whole : (s : Schema) (ty : Ty) (l : ListView) → shown_text left style (a_list s ty l) ≡ list_between style (elements_read (reading_within (levels_left l.levels)) s ty l 0 l.count) (elements_text left style s ty l)
  unfolding printed
  list_whole s ty l = ap (printed s as_it_is (null_printed s as_it_is left) style _) (within (suc (levels_left l.levels)) (a_list s ty l))

  pub list_empty : (s : Schema) (ty : Ty) (l : ListView) → l.count ≡ 0 → shown_text left style (a_list s ty l) ≡ Ok (codes "[]")
  list_empty s ty l e = list_whole s ty l ∙ list_text_empty s style (reading_within (levels_left l.levels)) ty l l.count (elements_text left style s ty l) e

  pub list_some : (s : Schema) (ty : Ty) (l : ListView) → (l.count ≡ 0 → ⊥) → shown_text left style (a_list s ty l) ≡ (elements_text left style s ty l and_then λ t. Ok ((codes "[" ++ t) ++ (closing style ++ codes "]")))
  list_some s ty l e = list_whole s ty l ∙ list_text_is s as_it_is (null_printed s as_it_is left) style (reading_within (levels_left l.levels)) ty l l.count (elements_text left style s ty l) e

pub told_empty : (n : ℕ) (b : Bool) → b ≡ (n == 0) → b ≡ true → n ≡ 0
told_empty n b e f = let g : (n == 0) ≡ true = sym e ∙ f in grind (arith, nat_tests)

pub told_some : (n : ℕ) (b : Bool) → b ≡ (n == 0) → b ≡ false → n ≡ 0 → ⊥
told_some n b e f = let g : (n == 0) ≡ false = sym e ∙ f in λ h. absurd (grind (arith, nat_tests))

-- ---- fields

module _ (s : StructSchema) (v : StructView) (left : ℕ) (style : Style) where
  -- the fields that are left of a struct
  abbrev pub FieldsLeft : ℕ → Bool → Text
  FieldsLeft i first = Left (schema_around s) as_it_is (null_printed (schema_around s) as_it_is left) style (discriminant_shown s v) (just_bits v.bits) v.section (children_read (reading_within (levels_left v.levels)) (schema_around s) v) (fields_after i (fields_of_struct s)) first

  pub fields_begin : (old : List ℕ) → Going (fields_text left style s v) (FieldsLeft 0 true) old old
  fields_begin old = begins (fields_text left style s v) (FieldsLeft 0 true) old (record_is (schema_around s) as_it_is (null_printed (schema_around s) as_it_is left) style (shape_of_struct s) (just_bits v.bits) v.section (children_read (reading_within (levels_left v.levels)) (schema_around s) v))

  pub field_left_out : (i j : ℕ) (e : Entry) (first : Bool) → j ≡ i + 1 → field_at (fields_of_struct s) i ≡ Some e → field_shown (schema_around s) v (discriminant_shown s v) e ≡ false → FieldsLeft i first ≡ FieldsLeft j first
  field_left_out i j e first next at hidden =
      left_out (schema_around s) as_it_is (null_printed (schema_around s) as_it_is left) style (discriminant_shown s v) (just_bits v.bits) v.section (children_read (reading_within (levels_left v.levels)) (schema_around s) v) i (fields_of_struct s) e first at hidden
      ∙ ap (λ k. FieldsLeft k first) (let same : suc i ≡ j = omega arith in same)

  pub field_left_in : (i j : ℕ) (e : Entry) (first : Bool) → j ≡ i + 1 → field_at (fields_of_struct s) i ≡ Some e → field_shown (schema_around s) v (discriminant_shown s v) e ≡ true
      → FieldsLeft i first ≡ (member_text left (inner style) s v e and_then λ t. FieldsLeft j false and_then λ u. Ok (((item_mark style first ++ e.name) ++ codes " = ") ++ t ++ u))
  field_left_in i j e first next at shown =
      left_in (schema_around s) as_it_is (null_printed (schema_around s) as_it_is left) style (discriminant_shown s v) (just_bits v.bits) v.section (children_read (reading_within (levels_left v.levels)) (schema_around s) v) i (fields_of_struct s) e first at shown
      ∙ ap (λ k. member_text left (inner style) s v e and_then λ t. FieldsLeft k false and_then λ u. Ok (((item_mark style first ++ e.name) ++ codes " = ") ++ t ++ u)) (let same : suc i ≡ j = omega arith in same)

  pub fields_end : (i : ℕ) (first : Bool) → field_count (fields_of_struct s) ≤ i → FieldsLeft i first ≡ Ok []
  fields_end i first h = none_left (schema_around s) as_it_is (null_printed (schema_around s) as_it_is left) style (discriminant_shown s v) (just_bits v.bits) v.section (children_read (reading_within (levels_left v.levels)) (schema_around s) v) i (fields_of_struct s) first h

-- ---- elements

module _ (s : Schema) (ty : Ty) (l : ListView) (left : ℕ) (style : Style) where
  -- the elements that are left of a list
  abbrev pub ElementsLeft : ℕ → ℕ → Text
  ElementsLeft i n = Rest s as_it_is (null_printed s as_it_is left) style (reading_within (levels_left l.levels)) ty l i n

  pub element_left : (i j n k : ℕ) → j ≡ i + 1 → n ≡ suc k → ElementsLeft i n ≡ (text_or_fault left (inner style) (element_shown s ty l i) and_then λ t. ElementsLeft j k and_then λ u. Ok (item_mark style (i == 0) ++ t ++ u))
  element_left i j n k next more =
      element_next s as_it_is (null_printed s as_it_is left) style (reading_within (levels_left l.levels)) ty l i n k more
      ∙ ap (λ m. m and_then λ t. ElementsLeft (suc i) k and_then λ u. Ok (item_mark style (i == 0) ++ t ++ u)) (sym (element_text left (inner style) s ty l i))
      ∙ ap (λ m. text_or_fault left (inner style) (element_shown s ty l i) and_then λ t. ElementsLeft m k and_then λ u. Ok (item_mark style (i == 0) ++ t ++ u)) (let same : suc i ≡ j = omega arith in same)

  pub no_elements_left : (i n : ℕ) → n ≡ 0 → ElementsLeft i n ≡ Ok []
  no_elements_left i n e = ap (ElementsLeft i) e ∙ elements_end s as_it_is (null_printed s as_it_is left) style (reading_within (levels_left l.levels)) ty l i

-- ---- members

module _ (s : StructSchema) (v : StructView) (f : Field) (said : FieldNode) (parent : f.parent ≡ s) (is : IsFieldRecord f.parent f.index said) (e : Entry) (at : entry_of_field f ≡ Some e) where
  entry_same : e ≡ entry_in (schema_around f.parent) said
  entry_same = first (entry_of_field f) e _ at is.entry
    where
      first : (o : Option Entry) (x y : Entry) → o ≡ Some x → o ≡ Some y → x ≡ y
      first o x y p q = cc

  -- what the field is, by its record
  body_same : e.body ≡ field_body (schema_around f.parent).shape_of said.kind
  body_same = ap (λ (x : Entry). x.body) entry_same

  -- the reading of a field that is no member, or the active one
  read_same : is_active e.member (discriminant_shown s v) ≡ true → field_read (schema_around s) v (discriminant_shown s v) e ≡ Read (levels_left v.levels) (schema_around s) v e.body
  read_same h = ap (λ a. only_if a (Read (levels_left v.levels) (schema_around s) v e.body)) h

  -- its text
  pub member_is : (left : ℕ) (style : Style) → is_active e.member (discriminant_shown s v) ≡ true
      → member_text left style s v e ≡ printed (schema_around f.parent) as_it_is (null_printed (schema_around f.parent) as_it_is left) style (as_body (field_body (schema_around f.parent).shape_of said.kind)) (Read (levels_left v.levels) (schema_around f.parent) v (field_body (schema_around f.parent).shape_of said.kind))
  member_is left style h =
      ap (printed (schema_around s) as_it_is (null_printed (schema_around s) as_it_is left) style (as_body e.body)) (read_same h)
      ∙ ap (λ b. printed (schema_around s) as_it_is (null_printed (schema_around s) as_it_is left) style (as_body b) (Read (levels_left v.levels) (schema_around s) v b)) body_same
      ∙ ap (λ (z : StructSchema). printed (schema_around z) as_it_is (null_printed (schema_around z) as_it_is left) style (as_body (field_body (schema_around f.parent).shape_of said.kind)) (Read (levels_left v.levels) (schema_around z) v (field_body (schema_around f.parent).shape_of said.kind))) (sym parent)

module _ (nulls : NullsAreRead) (s : StructSchema) (v : StructView) (f : Field) (said : FieldNode) (parent : f.parent ≡ s) (is : IsFieldRecord f.parent f.index said) (good : KeepsDefault said.kind) (e : Entry) (at : entry_of_field f ≡ Some e) where
  -- one that isn't entered
  pub member_here : (left : ℕ) (style : Style) → is_active e.member (discriminant_shown s v) ≡ true → enters_there v (schema_around f.parent) said.kind ≡ false → text_or_fault left style (kind_shown (schema_around f.parent) v said.kind) ≡ member_text left style s v e
  member_here left style h not = by (is_null_slot v (Some (field_body (schema_around f.parent).shape_of said.kind))) refl (enters said.kind) refl not ∙ sym (member_is s v f said parent is e at left style h)
    where
      by : (n : Bool) → is_null_slot v (Some (field_body (schema_around f.parent).shape_of said.kind)) ≡ n → (m : Bool) → enters said.kind ≡ m → (is_null_slot v (Some (field_body (schema_around f.parent).shape_of said.kind)) && enters said.kind) ≡ false
          → text_or_fault left style (kind_shown (schema_around f.parent) v said.kind) ≡ printed (schema_around f.parent) as_it_is (null_printed (schema_around f.parent) as_it_is left) style (as_body (field_body (schema_around f.parent).shape_of said.kind)) (Read (levels_left v.levels) (schema_around f.parent) v (field_body (schema_around f.parent).shape_of said.kind))
      by false p m q r = field_there left style (schema_around f.parent) v said.kind p
      by true p false q r = field_empty nulls (schema_around f.parent) v left style said.kind (p, q) good
      by true p true q r = let both : (is_null_slot v (Some (field_body (schema_around f.parent).shape_of said.kind)) && enters said.kind) ≡ true = ap (λ x. x && enters said.kind) p ∙ ap (λ x. true && x) q in absurd cc

  both_true : (a b : Bool) → (a && b) ≡ true → (a ≡ true) × (b ≡ true)
  both_true true true h = (refl, refl)
  both_true true false h = absurd cc
  both_true false b h = absurd cc

  -- one that is
  pub member_entered : (left : ℕ) (style : Style) → is_active e.member (discriminant_shown s v) ≡ true → enters_there v (schema_around f.parent) said.kind ≡ true → text_or_fault left style (kind_shown (schema_around f.parent) v said.kind) ≡ member_text (suc left) style s v e
  member_entered left style h told = field_entered nulls (schema_around f.parent) v left style said.kind (both_true _ _ told) good ∙ sym (member_is s v f said parent is e at (suc left) style h)

  pub member_refused : (style : Style) → is_active e.member (discriminant_shown s v) ≡ true → enters_there v (schema_around f.parent) said.kind ≡ true → member_text 0 style s v e ≡ Err NestingLimitExceeded
  member_refused style h told = member_is s v f said parent is e at 0 style h ∙ field_refused nulls (schema_around f.parent) v style said.kind (both_true _ _ told) good

-- ---- steps of loops

pub entry_exists : (fs : Fields) (i : ℕ) → i < field_count fs → (e : Entry) × (field_at fs i ≡ Some e)
entry_exists no_fields i h = absurd (omega arith)
entry_exists (field n m b fs) zero h = (record { name = n; member = m; body = b }, refl)
entry_exists (field n m b fs) (suc i) h = entry_exists fs i (omega arith)

pub entry_at : (s : StructSchema) (f : Field) (i : ℕ) (e : Entry) → f.parent ≡ s → f.index ≡ i → field_at (fields_of_struct s) i ≡ Some e → entry_of_field f ≡ Some e
entry_at s f i e parent index at = ap (λ (z : StructSchema). field_at (fields_of_struct z) f.index) parent ∙ ap (field_at (fields_of_struct s)) index ∙ at

pub name_is : (f : Field) (said : FieldNode) (e : Entry) → IsFieldRecord f.parent f.index said → entry_of_field f ≡ Some e → e.name ≡ said.name
name_is f said e is at = ap (λ (x : Entry). x.name) (first (entry_of_field f) e _ at is.entry)
  where
    first : (o : Option Entry) (x y : Entry) → o ≡ Some x → o ≡ Some y → x ≡ y
    first o x y p q = cc

module _ (s : Schema) (ty : Ty) (l : ListView) (left : ℕ) (style : Style) where
  pub elements_begin : (n : ℕ) (old : List ℕ) → n ≡ l.count → Going (elements_text left style s ty l) (ElementsLeft s ty l left style 0 n) old old
  elements_begin n old e = begins (elements_text left style s ty l) (ElementsLeft s ty l left style 0 n) old (ap (ElementsLeft s ty l left style 0) (sym e))

-- what a value prints as is the text of what shows it
pub shown_same : (left : ℕ) (deeper style : Style) (x : Shown) (r : Result Shown Kind) → deeper ≡ style → Ok x ≡ r → shown_text left deeper x ≡ text_or_fault left style r
shown_same left deeper style x r e f = ap (λ st. shown_text left st x) e ∙ ap (text_or_fault left style) f
