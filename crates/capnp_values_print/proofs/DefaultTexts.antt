-- A null pointer prints as its default.
use Rattle.std.proofs.Common.{◌≡◌, ℕ, suc, ◌^◌, ◌<◌, not, Bool, true, false, if◌then◌else◌, Option, Some, None, List, [], ◌∷◌, ◌++◌, Result, Ok, Err, refl, ap, sym, ◌∙◌}
use Rattle.std.specs.List.{AllByRecursion}
use Rattle.capnp_model.specs.Kinds.{Kind, NestingLimitExceeded}
use Rattle.capnp_model.specs.Trees.{Tree, is_null as is_null_tree}
use Rattle.capnp_model.specs.Trimming.{trim}
use Rattle.capnp_model.specs.Encoding.{canonical_words}
use Rattle.capnp_model.specs.Bytes.{bytes_of_words}
use Rattle.capnp_model.specs.Decoding.{decode}
use Rattle.capnp_model.specs.Calls.{text_tree, blob_tree}
use Rattle.capnp_model.specs.Schemas.{Ty, void, plain, text, blob, untyped, interface, struct, list, type_of, Value, no_value, bits, text_bytes, blob_bytes, list_segment, struct_segment, untyped_value, interface_value, FieldKind, slot, group, pointer_slot, Schema, default_or_null}
use Rattle.capnp_model.specs.Readings.{null_pointer, text_of, blob_of, body_of, read, text_reading}
use Rattle.capnp_model.specs.Printing.{Style, as_type, as_body, as_it_is}
use Rattle.capnp_model.specs.Accepted.{slot_body, field_body, default_tree, is_good_segment, opens_as}
use Rattle.capnp_model.proofs.lemmas.Numbers.{numbers_in-number_of}
use Rattle.capnp_wire.specs.Views.{PointerView, StructView, pointer_field}
use Rattle.capnp_wire.specs.Reads.{is_null_pointer}
use Rattle.capnp_values.specs.GoodDefaults.{IsGoodDefault, KeepsDefault}
use Rattle.capnp_values.specs.Sources.{default_pointer, null_default}
use Rattle.capnp_values.specs.Standing.{IsPointerType, NullsAreRead}
use Rattle.capnp_values.specs.Shown.{Shown, shown_behind, segment_opened, default_opened, slot_opened, slot_shown, kind_shown, is_null_slot}
use Rattle.capnp_values.proofs.lemmas.DefaultReadings.{text_is, with_zero, decoded, encoded}
use Rattle.capnp_values_print.specs.ShownReadings.{read_or_fault, reading_within, levels_left}
use Rattle.capnp_values_print.specs.Defaults.{is_null_segment, is_entered, enters}
use Rattle.capnp_values_print.specs.Printed.{printed, empty_printed, bytes_shown, default_shown, text_shown, null_printed}
use Rattle.capnp_values_print.proofs.DefaultRoots.{segment_null, null_pointed, null_is_null}
use Rattle.capnp_values_print.proofs.lemmas.ElementTexts.{text_or_fault}
use Rattle.capnp_values_print.proofs.FieldTexts.{Prints, field_without}
use Rattle.capnp_values_print.proofs.NullTexts.{null_opened, empty_text_shown, no_default, a_default, no_more_defaults}
use Rattle.capnp_values_print.proofs.lemmas.Shows.{Read}

-- ---- texts and data as defaults

text_read : (s : Schema) (bs : List ℕ) → AllByRecursion (λ b. b < 2 ^ 8) bs → read s (text_tree bs) text ≡ text_of bs
unfolding read
text_read s bs h = ap text_reading (numbers_in-number_of 8 (bs ++ 0 ∷ []) (with_zero bs h)) ∙ text_is bs

blob_read : (s : Schema) (bs : List ℕ) → AllByRecursion (λ b. b < 2 ^ 8) bs → read s (blob_tree bs) blob ≡ blob_of bs
unfolding read
blob_read s bs h = ap blob_of (numbers_in-number_of 8 bs h)

-- ---- defaults that are entered

not_false : (b : Bool) → not b ≡ false → b ≡ true
not_false true h = refl
not_false false h = absurd cc

segment_is : (s : Schema) (ty : Ty) (test : Tree → Bool) (bs : List ℕ) → is_good_segment test bs ≡ true → shown_behind s ty (default_pointer bs) ≡ shown_behind s ty (default_pointer (bytes_of_words (canonical_words (trim (default_or_null (decode bs))))))
segment_is s ty test bs good =
    let d = decoded test bs good in
    let c = encoded bs d.0 d.1 in
    ap (λ x. shown_behind s ty (default_pointer x)) (sym c.same ∙ ap (λ (o : Option Tree). bytes_of_words (canonical_words (trim (default_or_null o)))) (sym d.1))

-- what a default shows is what it is said to show
default_is : (s : Schema) (ty : Ty) (p : PointerView) (d : Value) → IsPointerType ty → IsGoodDefault ty (Some d) → is_entered (Some d) ≡ true → default_opened s ty p d ≡ default_shown s ty (default_or_null (default_tree (Some d)))
default_is s void p d pointer good e = absurd pointer
default_is s (plain q) p d pointer good e = absurd pointer
default_is s ty p no_value pointer good e = absurd (cc e)
default_is s ty p (bits q n) pointer good e = absurd (cc e)
default_is s ty p untyped_value pointer good e = absurd (cc e)
default_is s ty p interface_value pointer good e = absurd (cc e)
default_is s text p (text_bytes bs) pointer good e = ap bytes_shown (sym (text_read s bs good.2))
default_is s text p (blob_bytes bs) pointer good e = absurd (cc (good.0))
default_is s text p (list_segment bs) pointer good e = absurd (cc (good.0))
default_is s text p (struct_segment bs) pointer good e = absurd (cc (good.0))
default_is s blob p (text_bytes bs) pointer good e = absurd (cc (good.0))
default_is s blob p (blob_bytes bs) pointer good e = ap bytes_shown (sym (blob_read s bs good.2))
default_is s blob p (list_segment bs) pointer good e = absurd (cc (good.0))
default_is s blob p (struct_segment bs) pointer good e = absurd (cc (good.0))
default_is s untyped p (text_bytes bs) pointer good e = absurd (cc (good.0))
default_is s untyped p (blob_bytes bs) pointer good e = absurd (cc (good.0))
default_is s untyped p (list_segment bs) pointer good e = absurd (cc (good.0))
default_is s untyped p (struct_segment bs) pointer good e = absurd (cc (good.0))
default_is s interface p (text_bytes bs) pointer good e = absurd (cc (good.0))
default_is s interface p (blob_bytes bs) pointer good e = absurd (cc (good.0))
default_is s interface p (list_segment bs) pointer good e = absurd (cc (good.0))
default_is s interface p (struct_segment bs) pointer good e = absurd (cc (good.0))
default_is s (struct id) p (text_bytes bs) pointer good e = absurd (cc (good.0))
default_is s (struct id) p (blob_bytes bs) pointer good e = absurd (cc (good.0))
default_is s (struct id) p (list_segment bs) pointer good e = absurd (cc (good.0))
default_is s (struct id) p (struct_segment bs) pointer good e = segment_is s (struct id) (λ t. opens_as t (struct id)) bs good.1
default_is s (list ty) p (text_bytes bs) pointer good e = absurd (cc (good.0))
default_is s (list ty) p (blob_bytes bs) pointer good e = absurd (cc (good.0))
default_is s (list ty) p (list_segment bs) pointer good e = segment_is s (list ty) (λ t. opens_as t (list ty)) bs good.1
default_is s (list ty) p (struct_segment bs) pointer good e = absurd (cc (good.0))

same_text : (left : ℕ) (style : Style) (r : Result Shown Kind) → text_or_fault left style r ≡ text_shown (λ around. null_printed around as_it_is left) as_it_is style r
same_text left style (Ok x) = refl
same_text left style (Err kind) = refl

turned : (a b : Bool) → not a ≡ b → a ≡ not b
turned true true e = absurd (cc e)
turned true false e = refl
turned false true e = refl
turned false false e = absurd (cc e)

module _ (nulls : NullsAreRead) where
  segment_value : (ty : Ty) (b : Bool) (bs : List ℕ) → is_good_segment (λ t. opens_as t ty) bs ≡ true → not (is_null_segment bs) ≡ b → is_null_tree (default_or_null (decode bs)) ≡ not b
  segment_value ty b bs good e =
      let d = decoded (λ t. opens_as t ty) bs good in
      let c = encoded bs d.0 d.1 in
      let same : is_null_tree (default_or_null (decode bs)) ≡ is_null_segment bs = ap (λ (o : Option Tree). is_null_tree (default_or_null o)) d.1 ∙ sym (segment_null nulls bs d.0 c) in
      same ∙ turned (is_null_segment bs) b e

  -- the value of a default is empty just where it isn't entered
  value_null : (ty : Ty) (d : Value) (b : Bool) → IsGoodDefault ty (Some d) → is_entered (Some d) ≡ b → is_null_tree (default_or_null (default_tree (Some d))) ≡ not b
  value_null ty no_value b good e = ap not e
  value_null ty (bits q n) b good e = ap not e
  value_null ty untyped_value b good e = ap not e
  value_null ty interface_value b good e = ap not e
  value_null ty (text_bytes bs) b good e = ap not e
  value_null ty (blob_bytes bs) b good e = ap not e
  value_null ty (list_segment bs) b good e = segment_value ty b bs good.1 e
  value_null ty (struct_segment bs) b good e = segment_value ty b bs good.1 e

  module _ (s : Schema) (v : StructView) where
    reads_null : (ty : Ty) (i : ℕ) (d : Option Tree) → is_null_pointer (pointer_field v i) ≡ true → Read (levels_left v.levels) s v (pointer_slot i ty d) ≡ null_pointer
    unfolding body_of
    reads_null ty i d e = ap (λ b. if b then null_pointer else read_or_fault (reading_within (levels_left v.levels)) (shown_behind s ty (pointer_field v i))) e

    opens_default : (ty : Ty) (i : ℕ) (d : Value) → is_null_pointer (pointer_field v i) ≡ true → slot_opened s ty (Some d) (pointer_field v i) ≡ default_opened s ty (pointer_field v i) d
    opens_default ty i d e = ap (λ b. if b then default_opened s ty (pointer_field v i) d else shown_behind s ty (pointer_field v i)) e

    prints_null : (left : ℕ) (style : Style) (ty : Ty) (i : ℕ) (d : Value) → is_null_pointer (pointer_field v i) ≡ true
        → printed s as_it_is (null_printed s as_it_is left) style (as_body (pointer_slot i ty (default_tree (Some d)))) (Read (levels_left v.levels) s v (pointer_slot i ty (default_tree (Some d)))) ≡ null_printed s as_it_is left style ty (default_or_null (default_tree (Some d)))
    unfolding printed
    prints_null left style ty i d e = ap (printed s as_it_is (null_printed s as_it_is left) style (as_type ty (default_or_null (default_tree (Some d))))) (reads_null ty i (default_tree (Some d)) e)

    -- one that may be entered
    entered_text : (left : ℕ) (style : Style) (ty : Ty) (i : ℕ) (d : Value) → IsPointerType ty → is_null_pointer (pointer_field v i) ≡ true → IsGoodDefault ty (Some d) → is_entered (Some d) ≡ true
        → text_or_fault left style (slot_opened s ty (Some d) (pointer_field v i))
        ≡ printed s as_it_is (null_printed s as_it_is (suc left)) style (as_body (pointer_slot i ty (default_tree (Some d)))) (Read (levels_left v.levels) s v (pointer_slot i ty (default_tree (Some d))))
    entered_text left style ty i d pointer empty good e =
        ap (text_or_fault left style) (opens_default ty i d empty ∙ default_is s ty (pointer_field v i) d pointer good e)
        ∙ same_text left style (default_shown s ty (default_or_null (default_tree (Some d))))
        ∙ sym (a_default s as_it_is left style ty (default_or_null (default_tree (Some d))) (value_null ty d true good e))
        ∙ sym (prints_null (suc left) style ty i d empty)

    -- one that may not
    refused_text : (style : Style) (ty : Ty) (i : ℕ) (d : Value) → is_null_pointer (pointer_field v i) ≡ true → IsGoodDefault ty (Some d) → is_entered (Some d) ≡ true
        → printed s as_it_is (null_printed s as_it_is 0) style (as_body (pointer_slot i ty (default_tree (Some d)))) (Read (levels_left v.levels) s v (pointer_slot i ty (default_tree (Some d)))) ≡ Err NestingLimitExceeded
    refused_text style ty i d empty good e = prints_null 0 style ty i d empty ∙ no_more_defaults s as_it_is style ty (default_or_null (default_tree (Some d))) (value_null ty d true good e)

    -- ---- defaults that aren't

    opened_empty : (left : ℕ) (style : Style) (ty : Ty) (p : PointerView) → IsPointerType ty → is_null_pointer p ≡ true → text_or_fault left style (shown_behind s ty p) ≡ empty_printed s as_it_is style ty
    opened_empty left style ty p pointer e = ap (text_or_fault left style) (null_opened s ty p e) ∙ empty_text_shown left style s ty p pointer

    segment_empty : (left : ℕ) (style : Style) (ty : Ty) (p : PointerView) (bs : List ℕ) → IsPointerType ty → is_null_pointer p ≡ true → default_pointer bs ≡ null_default → text_or_fault left style (segment_opened s ty p bs) ≡ empty_printed s as_it_is style ty
    segment_empty left style void p bs pointer e h = absurd pointer
    segment_empty left style (plain q) p bs pointer e h = absurd pointer
    segment_empty left style text p bs pointer e h = opened_empty left style text p tt e
    segment_empty left style blob p bs pointer e h = opened_empty left style blob p tt e
    segment_empty left style untyped p bs pointer e h = opened_empty left style untyped p tt e
    segment_empty left style interface p bs pointer e h = opened_empty left style interface p tt e
    segment_empty left style (struct id) p bs pointer e h = ap (λ z. text_or_fault left style (shown_behind s (struct id) z)) h ∙ opened_empty left style (struct id) null_default tt null_is_null
    segment_empty left style (list ty) p bs pointer e h = ap (λ z. text_or_fault left style (shown_behind s (list ty) z)) h ∙ opened_empty left style (list ty) null_default tt null_is_null

    rooted : (ty : Ty) (bs : List ℕ) → is_good_segment (λ t. opens_as t ty) bs ≡ true → not (is_null_segment bs) ≡ false → default_pointer bs ≡ null_default
    rooted ty bs good e =
        let d = decoded (λ t. opens_as t ty) bs good in
        let c = encoded bs d.0 d.1 in
        null_pointed nulls bs d.0 c (sym (segment_null nulls bs d.0 c) ∙ not_false (is_null_segment bs) e)

    default_empty : (left : ℕ) (style : Style) (ty : Ty) (p : PointerView) (d : Value) → IsPointerType ty → is_null_pointer p ≡ true → IsGoodDefault ty (Some d) → is_entered (Some d) ≡ false → text_or_fault left style (default_opened s ty p d) ≡ empty_printed s as_it_is style ty
    default_empty left style ty p no_value pointer e good not = opened_empty left style ty p pointer e
    default_empty left style ty p (bits q n) pointer e good not = opened_empty left style ty p pointer e
    default_empty left style ty p untyped_value pointer e good not = opened_empty left style ty p pointer e
    default_empty left style ty p interface_value pointer e good not = opened_empty left style ty p pointer e
    default_empty left style ty p (text_bytes bs) pointer e good not = absurd (cc not)
    default_empty left style ty p (blob_bytes bs) pointer e good not = absurd (cc not)
    default_empty left style ty p (list_segment bs) pointer e good not = segment_empty left style ty p bs pointer e (rooted ty bs good.1 not)
    default_empty left style ty p (struct_segment bs) pointer e good not = segment_empty left style ty p bs pointer e (rooted ty bs good.1 not)

    empty_text : (left : ℕ) (style : Style) (ty : Ty) (i : ℕ) (d : Value) → IsPointerType ty → is_null_pointer (pointer_field v i) ≡ true → IsGoodDefault ty (Some d) → is_entered (Some d) ≡ false
        → text_or_fault left style (slot_opened s ty (Some d) (pointer_field v i))
        ≡ printed s as_it_is (null_printed s as_it_is left) style (as_body (pointer_slot i ty (default_tree (Some d)))) (Read (levels_left v.levels) s v (pointer_slot i ty (default_tree (Some d))))
    empty_text left style ty i d pointer empty good not =
        ap (text_or_fault left style) (opens_default ty i d empty) ∙ default_empty left style ty (pointer_field v i) d pointer empty good not
        ∙ sym (no_default s as_it_is left style ty (default_or_null (default_tree (Some d))) (value_null ty d false good not)) ∙ sym (prints_null left style ty i d empty)

    -- ---- fields

    -- the field's pointer is empty, and its default is entered or not
    abbrev IsNullField : FieldKind → Bool → Type 0
    IsNullField k b = (is_null_slot v (Some (field_body s.shape_of k)) ≡ true) × (enters k ≡ b)

    slot_entered : (left : ℕ) (style : Style) (o : ℕ) (ty : Ty) (d : Option Value) → is_null_slot v (Some (slot_body o ty d)) ≡ true → IsGoodDefault ty d → is_entered d ≡ true
        → text_or_fault left style (slot_shown s v o ty d) ≡ printed s as_it_is (null_printed s as_it_is (suc left)) style (as_body (slot_body o ty d)) (Read (levels_left v.levels) s v (slot_body o ty d))
    slot_entered left style o ty None empty good e = absurd (cc e)
    slot_entered left style o void (Some d) empty good e = absurd (cc empty)
    slot_entered left style o (plain p) (Some d) empty good e = absurd (cc empty)
    slot_entered left style o text (Some d) empty good e = entered_text left style text o d tt empty good e
    slot_entered left style o blob (Some d) empty good e = entered_text left style blob o d tt empty good e
    slot_entered left style o untyped (Some d) empty good e = entered_text left style untyped o d tt empty good e
    slot_entered left style o interface (Some d) empty good e = entered_text left style interface o d tt empty good e
    slot_entered left style o (struct id) (Some d) empty good e = entered_text left style (struct id) o d tt empty good e
    slot_entered left style o (list ty) (Some d) empty good e = entered_text left style (list ty) o d tt empty good e

    slot_refused : (style : Style) (o : ℕ) (ty : Ty) (d : Option Value) → is_null_slot v (Some (slot_body o ty d)) ≡ true → IsGoodDefault ty d → is_entered d ≡ true
        → printed s as_it_is (null_printed s as_it_is 0) style (as_body (slot_body o ty d)) (Read (levels_left v.levels) s v (slot_body o ty d)) ≡ Err NestingLimitExceeded
    slot_refused style o ty None empty good e = absurd (cc e)
    slot_refused style o void (Some d) empty good e = absurd (cc empty)
    slot_refused style o (plain p) (Some d) empty good e = absurd (cc empty)
    slot_refused style o text (Some d) empty good e = refused_text style text o d empty good e
    slot_refused style o blob (Some d) empty good e = refused_text style blob o d empty good e
    slot_refused style o untyped (Some d) empty good e = refused_text style untyped o d empty good e
    slot_refused style o interface (Some d) empty good e = refused_text style interface o d empty good e
    slot_refused style o (struct id) (Some d) empty good e = refused_text style (struct id) o d empty good e
    slot_refused style o (list ty) (Some d) empty good e = refused_text style (list ty) o d empty good e

    slot_empty : (left : ℕ) (style : Style) (o : ℕ) (ty : Ty) (d : Value) → is_null_slot v (Some (slot_body o ty (Some d))) ≡ true → IsGoodDefault ty (Some d) → is_entered (Some d) ≡ false
        → Prints left style s v (slot_body o ty (Some d)) (slot_shown s v o ty (Some d))
    slot_empty left style o void d empty good e = absurd (cc empty)
    slot_empty left style o (plain p) d empty good e = absurd (cc empty)
    slot_empty left style o text d empty good e = empty_text left style text o d tt empty good e
    slot_empty left style o blob d empty good e = empty_text left style blob o d tt empty good e
    slot_empty left style o untyped d empty good e = empty_text left style untyped o d tt empty good e
    slot_empty left style o interface d empty good e = empty_text left style interface o d tt empty good e
    slot_empty left style o (struct id) d empty good e = empty_text left style (struct id) o d tt empty good e
    slot_empty left style o (list ty) d empty good e = empty_text left style (list ty) o d tt empty good e

    pub field_entered : (left : ℕ) (style : Style) (k : FieldKind) → IsNullField k true → KeepsDefault k
        → text_or_fault left style (kind_shown s v k) ≡ printed s as_it_is (null_printed s as_it_is (suc left)) style (as_body (field_body s.shape_of k)) (Read (levels_left v.levels) s v (field_body s.shape_of k))
    field_entered left style (slot o ty d) h good = slot_entered left style o (type_of ty) d h.0 good h.1
    field_entered left style (group id) h good = absurd (cc (h.0))

    pub field_refused : (style : Style) (k : FieldKind) → IsNullField k true → KeepsDefault k
        → printed s as_it_is (null_printed s as_it_is 0) style (as_body (field_body s.shape_of k)) (Read (levels_left v.levels) s v (field_body s.shape_of k)) ≡ Err NestingLimitExceeded
    field_refused style (slot o ty d) h good = slot_refused style o (type_of ty) d h.0 good h.1
    field_refused style (group id) h good = absurd (cc (h.0))

    pub field_empty : (left : ℕ) (style : Style) (k : FieldKind) → IsNullField k false → KeepsDefault k → Prints left style s v (field_body s.shape_of k) (kind_shown s v k)
    field_empty left style (slot o ty None) h good = field_without left style s v o ty
    field_empty left style (slot o ty (Some d)) h good = slot_empty left style o (type_of ty) d h.0 good h.1
    field_empty left style (group id) h good = absurd (cc (h.0))
