-- What stands behind a pointer prints as what it reads as there.
use Rattle.std.proofs.Common.{◌≡◌, ℕ, zero, suc, ◌+◌, ◌-◌, ◌*◌, ◌==◌, ◌⊎◌, inl, inr, Bool, true, false, if◌then◌else◌, nat_lt, Option, Some, None, Result, Ok, Err, refl, ap, sym, ◌∙◌, subst, arith}
use Rattle.std.proofs.lemmas.Bool.Decides.{nat_tests}
use Rattle.capnp_model.specs.Kinds.{Kind, NestingLimitExceeded, WrongElementSize}
use Rattle.capnp_model.specs.Chains.{◌and_then◌}
use Rattle.capnp_model.specs.Trees.{Tree, null}
use Rattle.capnp_model.specs.Schemas.{PlainType, bool, int, uint, «enum», Ty, void, plain, text, blob, untyped, interface, struct, list, Shape, Schema}
use Rattle.capnp_model.specs.Readings.{Reading, null_pointer, fault, record_as, list_of, no_readings, whole_words, just_bits, no_children, shape_record, is_accepted_as}
use Rattle.capnp_model.specs.Printing.{number_text, Style, as_type, as_group, as_it_is}
use Rattle.capnp_model.proofs.lemmas.Chaining.{bind_ok, ok_is, guard_ok}
use Rattle.capnp_units.specs.declared.sizes.ElementSize.{ElementSize}
use Rattle.capnp_units.specs.declared.sizes.ElementSize.TheVariants.{Pointer, InlineComposite}
use Rattle.capnp_units.specs.Sizes.{size_number}
use Rattle.capnp_wire_objects.specs.Places.{place_view}
use Rattle.capnp_wire_objects.specs.declared.object.Object.{Object}
use Rattle.capnp_wire_objects.specs.declared.object.Object.TheVariants as object
use Rattle.capnp_wire.specs.Levels.{level_below}
use Rattle.capnp_wire.specs.Views.{Ground, section_at, PointerView, StructView, ListView, list_view}
use Rattle.capnp_wire.specs.Reads.{struct_of_null, read_struct, read_list, read_elements, read_blob, read_text, object_behind, list_head}
use Rattle.capnp_values.specs.ListSizes.{size_of}
use Rattle.capnp_values.specs.Sources.{read_behind}
use Rattle.capnp_values.specs.Shown.{Shown, a_text, a_blob, a_struct, a_list, a_pointer, a_capability, number_shown, shown_behind}
use Rattle.capnp_values.specs.Standing.{IsPointerType}
use Rattle.capnp_values_print.specs.ShownReadings.{children_read, record_read, elements_read, reading_by, reading_within, levels_left, levels_of, reading_of}
use Rattle.capnp_values_print.specs.Printed.{printed, null_printed, shown_text}
use Rattle.capnp_values_print.proofs.Empties.{same_record, just_none, no_bits}

-- ---- levels

-- a level less is left
level_is : (o l : Option ℕ) → level_below o ≡ Ok l → levels_left o ≡ suc (levels_left l)
level_is None l e = absurd cc
level_is (Some n) l e = by (n == 0) refl e
  where
    by : (b : Bool) → (n == 0) ≡ b → ◌≡◌ {A = Result (Option ℕ) Kind} (if b then Err NestingLimitExceeded else Ok (Some (n - 1))) (Ok l) → n ≡ suc (levels_left l)
    by true f h = absurd cc
    by false f h =
        let is : Some (n - 1) ≡ l = cc in
        let some : n ≡ suc (n - 1) = grind (arith, nat_tests) in
        some ∙ ap (λ k. suc (levels_left k)) is

pub struct_levels : (g : Ground) (levels : Option ℕ) (o : Object) (v : StructView) → read_struct g levels o ≡ Ok v → (struct_of_null g levels ≡ v) ⊎ (levels_left levels ≡ suc (levels_left v.levels))
struct_levels g levels object.Null v e = inl (ok_is _ _ e)
struct_levels g levels (object.Struct p d k) v e =
    let a = bind_ok (level_below levels) _ v e in
    inr (level_is levels a.0 a.1 ∙ ap (λ (w : StructView). suc (levels_left w.levels)) (ok_is _ _ a.2))
struct_levels g levels (object.List p size n) v e = absurd cc
struct_levels g levels (object.PointerList p n) v e = absurd cc
struct_levels g levels (object.StructList p words n d k) v e = absurd cc
struct_levels g levels (object.Capability i) v e = absurd cc

elements_levels : (levels : Option ℕ) (expected : ElementSize) (view : Option ℕ → ListView) (size : ElementSize) (d k : ℕ) (l : ListView) → ((o : Option ℕ) → (view o).levels ≡ o)
    → read_elements levels expected view size d k ≡ Ok l → levels_left levels ≡ suc (levels_left l.levels)
elements_levels levels expected view size d k l keeps e =
    let a = bind_ok (level_below levels) _ l e in
    let b = guard_ok (is_accepted_as (size_number expected) (list_head size d k)) WrongElementSize (Ok (view a.0)) l a.2 in
    level_is levels a.0 a.1 ∙ ap (λ o. suc (levels_left o)) (sym (keeps a.0)) ∙ ap (λ (m : ListView). suc (levels_left m.levels)) (ok_is _ _ b.1)

pub list_levels : (g : Ground) (levels : Option ℕ) (expected : ElementSize) (o : Object) (l : ListView) → read_list g levels expected o ≡ Ok l → (l.count ≡ 0) ⊎ (levels_left levels ≡ suc (levels_left l.levels))
list_levels g levels expected object.Null l e = inl (ap (λ (m : ListView). m.count) (sym (ok_is _ _ e)))
list_levels g levels expected (object.List p size n) l e = inr (elements_levels levels expected _ size 0 0 l (λ o. refl) e)
list_levels g levels expected (object.PointerList p n) l e = inr (elements_levels levels expected (list_view g Pointer n 0 (place_view p) 0 0) Pointer 0 0 l (λ o. refl) e)
list_levels g levels expected (object.StructList p words n d k) l e = inr (elements_levels levels expected (list_view g InlineComposite n (section_at g.segments (place_view p) (n * (d + k))) (place_view p) d k) InlineComposite d k l (λ o. refl) e)
list_levels g levels expected (object.Struct p d k) l e = absurd cc
list_levels g levels expected (object.Capability i) l e = absurd cc

-- ---- what is read of what is shown

abbrev pub below : ℕ → Shown → Reading
below zero x = fault NestingLimitExceeded
below (suc n) x = reading_within n x

-- by how what stands deeper is read
pub within : (n : ℕ) (x : Shown) → reading_within n x ≡ reading_by (below n) x
unfolding reading_within
within zero x = refl
within (suc n) x = refl

pub no_pointer : (i : ℕ) → nat_lt i 0 ≡ false
no_pointer i = grind (arith, nat_tests)

-- a struct without sections has the record of the empty one
pub empty_record : (read : Shown → Reading) (s : Schema) (g0 : Shape) (g : Ground) (levels : Option ℕ) → record_read read s g0 (struct_of_null g levels) ≡ shape_record g0 whole_words 0 no_children
empty_record read s g0 g levels =
    same_record (just_bits 0) whole_words 0 0 (children_read read s (struct_of_null g levels)) no_children (λ at n. just_none at n ∙ sym (no_bits at n)) none g0
  where
    none : (i : ℕ) (ty : Ty) → children_read read s (struct_of_null g levels) i ty ≡ null_pointer
    none i ty = simp no_pointer

pub no_elements_read : (read : Shown → Reading) (s : Schema) (ty : Ty) (l : ListView) → l.count ≡ 0 → elements_read read s ty l 0 l.count ≡ no_readings
unfolding elements_read
no_elements_read read s ty l e = ap (elements_read read s ty l 0) e

module _ (n : ℕ) (s : Schema) where
  struct_within : (g0 : Shape) (g : Ground) (levels : Option ℕ) (v : StructView) → n ≡ levels_left levels → (struct_of_null g levels ≡ v) ⊎ (levels_left levels ≡ suc (levels_left v.levels)) → reading_within n (a_struct s g0 v) ≡ reading_of (a_struct s g0 v)
  struct_within g0 g levels v e (inl is) =
      let P : StructView → Type 0 = λ v. reading_within n (a_struct s g0 v) ≡ reading_of (a_struct s g0 v) in
      let x = a_struct s g0 (struct_of_null g levels) in
      subst P is (within n x ∙ ap record_as (empty_record (below n) s g0 g levels ∙ sym (empty_record (below (levels_of x)) s g0 g levels)) ∙ sym (within (levels_of x) x))
  struct_within g0 g levels v e (inr is) = ap (λ k. reading_within k (a_struct s g0 v)) (e ∙ is)

  list_within : (ty : Ty) (levels : Option ℕ) (l : ListView) → n ≡ levels_left levels → (l.count ≡ 0) ⊎ (levels_left levels ≡ suc (levels_left l.levels)) → reading_within n (a_list s ty l) ≡ reading_of (a_list s ty l)
  list_within ty levels l e (inl is) =
      let x = a_list s ty l in
      within n x ∙ ap list_of (no_elements_read (below n) s ty l is ∙ sym (no_elements_read (below (levels_of x)) s ty l is)) ∙ sym (within (levels_of x) x)
  list_within ty levels l e (inr is) = ap (λ k. reading_within k (a_list s ty l)) (e ∙ is)

-- ---- texts

module _ (left : ℕ) (style : Style) (s : Schema) where
  -- a plain value prints as its number
  pub number_shown_text : (p : PlainType) (n : ℕ) → shown_text left style (number_shown s p n) ≡ Ok (number_text s (plain p) n)
  unfolding printed reading_within
  number_shown_text bool n = refl
  number_shown_text (int w) n = refl
  number_shown_text (uint w) n = refl
  number_shown_text («enum» id) n = refl

  -- what stands behind a pointer prints as what it reads as
  abbrev PrintsBehind : Ty → Tree → PointerView → Shown → Type 0
  PrintsBehind ty d p x = shown_text left style x ≡ printed s as_it_is (null_printed s as_it_is left) style (as_type ty d) (reading_within (levels_left p.levels) x)

  behind : (p : PointerView) {Y : Type 0} (read : Object → Result Y Kind) (show : Y → Shown) (x : Shown) → (read_behind read p and_then λ y. Ok (show y)) ≡ Ok x → (y : Y) × (o : Object) × (read o ≡ Ok y) × (show y ≡ x)
  behind p read show x e =
      let a = bind_ok (read_behind read p) _ x e in
      let b = bind_ok (object_behind p) _ a.0 a.1 in
      (a.0, b.0.object, b.2, ok_is _ _ a.2)

  pub child_text : (ty : Ty) (d : Tree) (p : PointerView) (x : Shown) → IsPointerType ty → shown_behind s ty p ≡ Ok x → PrintsBehind ty d p x
  unfolding printed
  child_text void d p x pointer e = absurd pointer
  child_text (plain q) d p x pointer e = absurd pointer
  child_text text d p x pointer e =
      let a = behind p (read_text p.basis p.levels) a_text x e in
      subst (PrintsBehind text d p) a.3 (ap (printed _ as_it_is _ style _) (within 0 (a_text a.0)) ∙ sym (ap (printed _ as_it_is _ style _) (within (levels_left p.levels) (a_text a.0))))
  child_text blob d p x pointer e =
      let a = behind p (read_blob p.basis p.levels) a_blob x e in
      subst (PrintsBehind blob d p) a.3 (ap (printed _ as_it_is _ style _) (within 0 (a_blob a.0)) ∙ sym (ap (printed _ as_it_is _ style _) (within (levels_left p.levels) (a_blob a.0))))
  child_text untyped d p x pointer e =
      subst (PrintsBehind untyped d p) (ok_is _ _ e) (ap (printed _ as_it_is _ style _) (within 0 (a_pointer p)) ∙ sym (ap (printed _ as_it_is _ style _) (within (levels_left p.levels) (a_pointer p))))
  child_text interface d p x pointer e =
      subst (PrintsBehind interface d p) (ok_is _ _ e) (ap (printed _ as_it_is _ style _) (within 0 a_capability) ∙ sym (ap (printed _ as_it_is _ style _) (within (levels_left p.levels) a_capability)))
  child_text (struct id) d p x pointer e =
      let a = behind p (read_struct p.basis p.levels) (a_struct s (s.shape_of id)) x e in
      let y = a_struct s (s.shape_of id) a.0 in
      let same = struct_within (levels_left p.levels) s (s.shape_of id) p.basis p.levels a.0 refl (struct_levels p.basis p.levels a.1 a.0 a.2) in
      subst (PrintsBehind (struct id) d p) a.3
      (ap (printed s as_it_is (null_printed s as_it_is left) style (as_group (s.shape_of id))) (sym same ∙ within (levels_left p.levels) y)
      ∙ sym (ap (printed s as_it_is (null_printed s as_it_is left) style (as_type (struct id) d)) (within (levels_left p.levels) y)))
  child_text (list ty) d p x pointer e =
      let a = behind p (read_list p.basis p.levels (size_of ty)) (a_list s ty) x e in
      let y = a_list s ty a.0 in
      let same = list_within (levels_left p.levels) s ty p.levels a.0 refl (list_levels p.basis p.levels (size_of ty) a.1 a.0 a.2) in
      subst (PrintsBehind (list ty) d p) a.3
      (ap (printed s as_it_is (null_printed s as_it_is left) style (as_type (list ty) null)) (sym same ∙ within (levels_left p.levels) y)
      ∙ sym (ap (printed s as_it_is (null_printed s as_it_is left) style (as_type (list ty) d)) (within (levels_left p.levels) y)))
