-- A null pointer shows the empty value, and prints as it.
use Rattle.std.proofs.Common.{◌≡◌, ℕ, zero, suc, ◌==◌, Bool, true, false, if◌then◌else◌, Option, Some, None, List, [], Result, Ok, Err, refl, ap, ◌∙◌}
use Rattle.std.specs.Option.{ok_or}
use Rattle.std.proofs.lemmas.Str.{IsUtf8-nil}
use Rattle.capnp_model.specs.Kinds.{Kind, OutOfBounds, NestingLimitExceeded}
use Rattle.capnp_model.specs.Chains.{◌and_then◌, passes}
use Rattle.capnp_model.specs.Segments.{Segments, Place, root, word_at}
use Rattle.capnp_model.specs.Pointers as model
use Rattle.capnp_model.specs.Trees.{Tree, null, is_null as is_null_tree}
use Rattle.capnp_model.specs.Schemas.{Ty, void, plain, text, blob, untyped, interface, struct, list, Schema}
use Rattle.capnp_model.specs.Readings.{record_as, list_of}
use Rattle.capnp_model.specs.Printing.{Style, as_type, as_group, fields_in, as_it_is}
use Rattle.capnp_wire_objects.specs.declared.object.Object.TheVariants as object
use Rattle.capnp_wire_objects.specs.declared.object.Found.{Found}
use Rattle.capnp_wire_objects.specs.Objects.{object_at, whole}
use Rattle.capnp_wire.specs.Views.{PointerView, list_view}
use Rattle.capnp_wire.specs.Reads.{is_null_at, is_null_pointer, found_behind, struct_of_null, read_struct, read_list, read_blob, read_text}
use Rattle.capnp_values.specs.ListSizes.{size_of}
use Rattle.capnp_values.specs.Shown.{Shown, a_number, a_text, a_blob, a_struct, a_list, a_pointer, a_capability, shown_behind}
use Rattle.capnp_values.specs.Standing.{IsPointerType}
use Rattle.capnp_values_print.specs.ShownReadings.{levels_of}
use Rattle.capnp_values_print.specs.Printed.{Text, struct_between, printed, empty_printed, text_shown, default_shown, null_printed, shown_text}
use Rattle.capnp_values_print.proofs.Empties.{empty_same}
use Rattle.capnp_values_print.proofs.lemmas.Children.{below, within, empty_record, no_elements_read}
use Rattle.capnp_values_print.proofs.TextLemmas.{text_text-utf8}

word_null : (s : Segments) (q : Place) → is_null_at s (Some q) ≡ true → model.found_at s q ≡ Ok (record { pads = 0; object = model.nothing })
word_null s q e = by (word_at s q) e
  where
    word : (w : ℕ) (b : Bool) → (w == 0) ≡ b → b ≡ true → (if b then Ok (record { pads = 0; object = model.nothing }) else model.found_by s q (model.pointer_of w)) ≡ Ok (record { pads = 0; object = model.nothing })
    word w true f g = refl
    word w false f g = absurd cc

    by : (o : Option ℕ) → passes (λ w. w == 0) o ≡ true → (ok_or o OutOfBounds and_then λ w. if w == 0 then Ok (record { pads = 0; object = model.nothing }) else model.found_by s q (model.pointer_of w)) ≡ Ok (record { pads = 0; object = model.nothing })
    by None f = absurd cc
    by (Some w) f = word w (w == 0) refl f

null_at : (s : Segments) (o : Option Place) → is_null_at s o ≡ true → found_behind s o ≡ Ok (record { pads = 0; object = object.Null })
unfolding object_at
null_at s None e = refl
null_at s (Some q) e = ap (λ r. r and_then λ f. whole s f.object and_then λ o. Ok (record { pads = f.pads; object = o })) (word_null s q e)

-- what a null pointer shows under a type
abbrev pub empty_shown : Schema → Ty → PointerView → Shown
empty_shown s text p = a_text []
empty_shown s blob p = a_blob []
empty_shown s untyped p = a_pointer p
empty_shown s interface p = a_capability
empty_shown s (struct id) p = a_struct s (s.shape_of id) (struct_of_null p.basis p.levels)
empty_shown s (list ty) p = a_list s ty (list_view p.basis (size_of ty) 0 0 root 0 0 p.levels)
empty_shown s void p = a_number void 0
empty_shown s (plain q) p = a_number void 0

pub null_opened : (s : Schema) (ty : Ty) (p : PointerView) → is_null_pointer p ≡ true → shown_behind s ty p ≡ Ok (empty_shown s ty p)
null_opened s void p e = refl
null_opened s (plain q) p e = refl
null_opened s text p e = ap (λ (r : Result Found Kind). (r and_then λ f. read_text p.basis p.levels f.object) and_then λ bytes. Ok (a_text bytes)) (null_at p.basis.segments p.place e)
null_opened s blob p e = ap (λ (r : Result Found Kind). (r and_then λ f. read_blob p.basis p.levels f.object) and_then λ bytes. Ok (a_blob bytes)) (null_at p.basis.segments p.place e)
null_opened s untyped p e = refl
null_opened s interface p e = refl
null_opened s (struct id) p e = ap (λ (r : Result Found Kind). (r and_then λ f. read_struct p.basis p.levels f.object) and_then λ v. Ok (a_struct s (s.shape_of id) v)) (null_at p.basis.segments p.place e)
null_opened s (list ty) p e = ap (λ (r : Result Found Kind). (r and_then λ f. read_list p.basis p.levels (size_of ty) f.object) and_then λ l. Ok (a_list s ty l)) (null_at p.basis.segments p.place e)

module _ (left : ℕ) (style : Style) (s : Schema) where
  pub empty_text_shown : (ty : Ty) (p : PointerView) → IsPointerType ty → shown_text left style (empty_shown s ty p) ≡ empty_printed s as_it_is style ty
  unfolding printed
  empty_text_shown void p pointer = absurd pointer
  empty_text_shown (plain q) p pointer = absurd pointer
  empty_text_shown text p pointer = ap (printed _ as_it_is _ style _) (within 0 (a_text [])) ∙ ap (λ (t : List ℕ). Ok t) (text_text-utf8 [] IsUtf8-nil)
  empty_text_shown blob p pointer = ap (printed _ as_it_is _ style _) (within 0 (a_blob []))
  empty_text_shown untyped p pointer = ap (printed _ as_it_is _ style _) (within 0 (a_pointer p))
  empty_text_shown interface p pointer = ap (printed _ as_it_is _ style _) (within 0 a_capability)
  empty_text_shown (struct id) p pointer =
      let g = s.shape_of id in
      let x = a_struct s g (struct_of_null p.basis p.levels) in
      ap (printed s as_it_is (null_printed s as_it_is left) style (as_group g)) (within (levels_of x) x ∙ ap record_as (empty_record (below (levels_of x)) s g p.basis p.levels))
      ∙ ap (struct_between style (fields_in g)) (empty_same s as_it_is (null_printed s as_it_is left) (λ st ty d. Err NestingLimitExceeded) style true g)
  empty_text_shown (list ty) p pointer =
      let x = empty_shown s (list ty) p in
      ap (printed s as_it_is (null_printed s as_it_is left) style (as_type (list ty) null)) (within (levels_of x) x ∙ ap list_of (no_elements_read (below (levels_of x)) s ty (list_view p.basis (size_of ty) 0 0 root 0 0 p.levels) refl))

-- a null pointer without a default prints as the empty value
pub no_default : (s : Schema) (quoted : List ℕ → List ℕ) (left : ℕ) (style : Style) (ty : Ty) (d : Tree) → is_null_tree d ≡ true → null_printed s quoted left style ty d ≡ empty_printed s quoted style ty
unfolding null_printed
no_default s quoted zero style ty d e = ap (λ (b : Bool). elim b as (λ _. Text) [ true ↦ empty_printed s quoted style ty | false ↦ Err NestingLimitExceeded ]) e
no_default s quoted (suc left) style ty d e = ap (λ (b : Bool). elim b as (λ _. Text) [ true ↦ empty_printed s quoted style ty | false ↦ text_shown (λ around. null_printed around quoted left) quoted style (default_shown s ty d) ]) e

-- a null pointer with a default prints as the default, where one may be entered
pub a_default : (s : Schema) (quoted : List ℕ → List ℕ) (left : ℕ) (style : Style) (ty : Ty) (d : Tree) → is_null_tree d ≡ false
    → null_printed s quoted (suc left) style ty d ≡ text_shown (λ around. null_printed around quoted left) quoted style (default_shown s ty d)
unfolding null_printed
a_default s quoted left style ty d e = ap (λ (b : Bool). elim b as (λ _. Text) [ true ↦ empty_printed s quoted style ty | false ↦ text_shown (λ around. null_printed around quoted left) quoted style (default_shown s ty d) ]) e

-- else it is a fault
pub no_more_defaults : (s : Schema) (quoted : List ℕ → List ℕ) (style : Style) (ty : Ty) (d : Tree) → is_null_tree d ≡ false → null_printed s quoted 0 style ty d ≡ Err NestingLimitExceeded
unfolding null_printed
no_more_defaults s quoted style ty d e = ap (λ (b : Bool). elim b as (λ _. Text) [ true ↦ empty_printed s quoted style ty | false ↦ Err NestingLimitExceeded ]) e
