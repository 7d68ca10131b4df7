-- A field of a struct prints as what it reads as.
use Rattle.std.proofs.Common.{◌≡◌, ℕ, suc, false, if◌then◌else◌, Option, Some, None, Result, refl, ap, sym, ◌∙◌}
use Rattle.capnp_model.specs.Kinds.{Kind}
use Rattle.capnp_model.specs.Trees.{null}
use Rattle.capnp_model.specs.Schemas.{Ty, void, plain, text, blob, untyped, interface, struct, list, TypeRecord, type_of, Value, FieldKind, slot, group, Body, pointer_slot, Schema, default_or_null}
use Rattle.capnp_model.specs.Readings.{null_pointer, body_of}
use Rattle.capnp_model.specs.Printing.{Style, as_type, as_body, as_it_is}
use Rattle.capnp_model.specs.Accepted.{slot_body, field_body, default_tree}
use Rattle.capnp_wire.specs.Views.{PointerView, StructView, pointer_field}
use Rattle.capnp_wire.specs.Reads.{is_null_pointer}
use Rattle.capnp_values.specs.Shown.{Shown, a_number, a_struct, shown_behind, default_opened, slot_opened, slot_shown, kind_shown, is_null_slot}
use Rattle.capnp_values.specs.Standing.{IsPointerType}
use Rattle.capnp_values_print.specs.ShownReadings.{read_or_fault, reading_within, levels_left}
use Rattle.capnp_values_print.specs.Printed.{printed, null_printed}
use Rattle.capnp_values_print.proofs.lemmas.Children.{within, number_shown_text}
use Rattle.capnp_values_print.proofs.lemmas.ElementTexts.{text_or_fault, there_text, pointer_text}
use Rattle.capnp_values_print.proofs.lemmas.Shows.{Read}

module _ (left : ℕ) (style : Style) (s : Schema) (v : StructView) where
  -- the field prints as its reading
  abbrev pub Prints : Body → Result Shown Kind → Type 0
  Prints b r = text_or_fault left style r ≡ printed s as_it_is (null_printed s as_it_is left) style (as_body b) (Read (levels_left v.levels) s v b)

  there : (ty : Ty) (i : ℕ) (d : Option Value) → IsPointerType ty → is_null_pointer (pointer_field v i) ≡ false → Prints (pointer_slot i ty (default_tree d)) (slot_opened s ty d (pointer_field v i))
  unfolding body_of printed
  there ty i d pointer some = by d
    where
      p : PointerView
      p = pointer_field v i

      by : (d : Option Value) → text_or_fault left style (slot_opened s ty d (pointer_field v i))
          ≡ printed s as_it_is (null_printed s as_it_is left) style (as_type ty (default_or_null (default_tree d))) (if is_null_pointer (pointer_field v i) then null_pointer else read_or_fault (reading_within (levels_left v.levels)) (shown_behind s ty (pointer_field v i)))
      by None =
          there_text left style s ty (default_or_null (default_tree None)) (pointer_field v i) pointer (shown_behind s ty (pointer_field v i)) refl
          ∙ ap (λ b. printed s as_it_is (null_printed s as_it_is left) style (as_type ty (default_or_null (default_tree None))) (if b then null_pointer else read_or_fault (reading_within (levels_left v.levels)) (shown_behind s ty (pointer_field v i)))) (sym some)
      by (Some x) =
          ap (λ b. text_or_fault left style (if b then default_opened s ty (pointer_field v i) x else shown_behind s ty (pointer_field v i))) some
          ∙ there_text left style s ty (default_or_null (default_tree (Some x))) (pointer_field v i) pointer (shown_behind s ty (pointer_field v i)) refl
          ∙ ap (λ b. printed s as_it_is (null_printed s as_it_is left) style (as_type ty (default_or_null (default_tree (Some x)))) (if b then null_pointer else read_or_fault (reading_within (levels_left v.levels)) (shown_behind s ty (pointer_field v i)))) (sym some)

  without : (ty : Ty) (i : ℕ) → IsPointerType ty → Prints (pointer_slot i ty None) (slot_opened s ty None (pointer_field v i))
  unfolding body_of
  without ty i pointer = pointer_text left style s ty null (pointer_field v i) pointer refl

  -- a slot whose pointer isn't null
  slot_there : (o : ℕ) (ty : Ty) (d : Option Value) → is_null_slot v (Some (slot_body o ty d)) ≡ false → Prints (slot_body o ty d) (slot_shown s v o ty d)
  unfolding body_of printed
  slot_there o void d h = ap (printed _ as_it_is _ style _) (within 0 (a_number void 0))
  slot_there o (plain p) d h = number_shown_text left style s p _
  slot_there o text d h = there text o d tt h
  slot_there o blob d h = there blob o d tt h
  slot_there o untyped d h = there untyped o d tt h
  slot_there o interface d h = there interface o d tt h
  slot_there o (struct id) d h = there (struct id) o d tt h
  slot_there o (list ty) d h = there (list ty) o d tt h

  -- a slot without a default
  slot_without : (o : ℕ) (ty : Ty) → Prints (slot_body o ty None) (slot_shown s v o ty None)
  unfolding body_of printed
  slot_without o void = ap (printed _ as_it_is _ style _) (within 0 (a_number void 0))
  slot_without o (plain p) = number_shown_text left style s p _
  slot_without o text = without text o tt
  slot_without o blob = without blob o tt
  slot_without o untyped = without untyped o tt
  slot_without o interface = without interface o tt
  slot_without o (struct id) = without (struct id) o tt
  slot_without o (list ty) = without (list ty) o tt

  group_text : (id : ℕ) → Prints (field_body s.shape_of (group id)) (kind_shown s v (group id))
  unfolding body_of printed
  group_text id = ap (printed s as_it_is (null_printed s as_it_is left) style _) (within (suc (levels_left v.levels)) (a_struct s (s.shape_of id) v))

  -- a field that is no null pointer
  pub field_there : (k : FieldKind) → is_null_slot v (Some (field_body s.shape_of k)) ≡ false → Prints (field_body s.shape_of k) (kind_shown s v k)
  field_there (slot o ty d) h = slot_there o (type_of ty) d h
  field_there (group id) h = group_text id

  -- a field without a default
  pub field_without : (o : ℕ) (ty : TypeRecord) → Prints (field_body s.shape_of (slot o ty None)) (kind_shown s v (slot o ty None))
  field_without o ty = slot_without o (type_of ty)
