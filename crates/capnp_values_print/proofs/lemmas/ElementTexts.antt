-- An element of a list prints as what it reads as.
use Rattle.std.proofs.Common.{◌≡◌, ℕ, suc, Bool, true, false, if◌then◌else◌, Result, Ok, Err, refl, ap, sym, ◌∙◌}
use Rattle.capnp_model.specs.Kinds.{Kind}
use Rattle.capnp_model.specs.Trees.{Tree, null, is_null as is_null_tree}
use Rattle.capnp_model.specs.Schemas.{Ty, void, plain, text, blob, untyped, interface, struct, list, Schema}
use Rattle.capnp_model.specs.Readings.{null_pointer}
use Rattle.capnp_model.specs.Printing.{Style, as_type, as_it_is}
use Rattle.capnp_wire.specs.Views.{PointerView, ListView, pointer_field, element_as_struct}
use Rattle.capnp_wire.specs.Reads.{is_null_pointer}
use Rattle.capnp_values.specs.Shown.{Shown, a_struct, shown_behind, element_shown}
use Rattle.capnp_values.specs.Standing.{IsPointerType}
use Rattle.capnp_values_print.specs.ShownReadings.{read_or_fault, pointer_reading, element_read, reading_within, levels_left}
use Rattle.capnp_values_print.specs.Printed.{Text, printed, null_printed, shown_text}
use Rattle.capnp_values_print.proofs.lemmas.Children.{within, number_shown_text, child_text}
use Rattle.capnp_values_print.proofs.NullTexts.{null_opened, empty_text_shown, no_default}

-- The text of what is shown, or its fault.
abbrev pub text_or_fault : ℕ → Style → Result Shown Kind → Text
text_or_fault left style (Ok x) = shown_text left style x
text_or_fault left style (Err kind) = Err kind

module _ (left : ℕ) (style : Style) (s : Schema) where
  -- what a pointer that isn't null shows prints as what is read there, whatever the default
  pub there_text : (ty : Ty) (d : Tree) (p : PointerView) → IsPointerType ty → (r : Result Shown Kind) → shown_behind s ty p ≡ r
      → text_or_fault left style r ≡ printed s as_it_is (null_printed s as_it_is left) style (as_type ty d) (read_or_fault (reading_within (levels_left p.levels)) r)
  unfolding printed
  there_text ty d p pointer (Ok x) e = child_text left style s ty d p x pointer e
  there_text ty d p pointer (Err kind) e = refl

  -- the same of any pointer without a default
  pub pointer_text : (ty : Ty) (d : Tree) (p : PointerView) → IsPointerType ty → is_null_tree d ≡ true
      → text_or_fault left style (shown_behind s ty p) ≡ printed s as_it_is (null_printed s as_it_is left) style (as_type ty d) (pointer_reading (reading_within (levels_left p.levels)) s p ty)
  unfolding printed
  pointer_text ty d p pointer none = by (is_null_pointer p) refl
    where
      by : (b : Bool) → is_null_pointer p ≡ b
          → text_or_fault left style (shown_behind s ty p) ≡ printed s as_it_is (null_printed s as_it_is left) style (as_type ty d) (if b then null_pointer else read_or_fault (reading_within (levels_left p.levels)) (shown_behind s ty p))
      by true e = ap (text_or_fault left style) (null_opened s ty p e) ∙ empty_text_shown left style s ty p pointer ∙ sym (no_default s as_it_is left style ty d none)
      by false e = there_text ty d p pointer (shown_behind s ty p) refl

  pub element_text : (ty : Ty) (l : ListView) (i : ℕ) → text_or_fault left style (element_shown s ty l i) ≡ printed s as_it_is (null_printed s as_it_is left) style (as_type ty null) (element_read (reading_within (levels_left l.levels)) s ty l i)
  unfolding printed
  element_text void l i = ap (printed _ as_it_is _ style _) (within 0 _)
  element_text (plain p) l i = number_shown_text left style s p _
  element_text (struct id) l i = ap (printed s as_it_is (null_printed s as_it_is left) style _) (within (suc (levels_left l.levels)) (a_struct s (s.shape_of id) (element_as_struct l i)))
  element_text text l i = pointer_text text null (pointer_field (element_as_struct l i) 0) tt refl
  element_text blob l i = pointer_text blob null (pointer_field (element_as_struct l i) 0) tt refl
  element_text untyped l i = pointer_text untyped null (pointer_field (element_as_struct l i) 0) tt refl
  element_text interface l i = pointer_text interface null (pointer_field (element_as_struct l i) 0) tt refl
  element_text (list ty) l i = pointer_text (list ty) null (pointer_field (element_as_struct l i) 0) tt refl
