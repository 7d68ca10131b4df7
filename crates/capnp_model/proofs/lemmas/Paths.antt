-- Calls along paths of names: where the record machine does not refuse, the record of the edited tree is its record.
use Rattle.std.proofs.Common.{◌≡◌, ℕ, zero, suc, ◌^◌, ◌<◌, ◌==◌, List, [], ◌∷◌, ◌++◌, Option, Some, None, Bool, true, false, refl, sym, ◌∙◌, ap, subst, arith}
use Rattle.std.specs.Str.{bytes_eq}
use lib.Bits.{bit_xor, xor_lt}
use Rattle.capnp_model.specs.NamedPaths.{IsInRange, IsOpen, IsSlot, EndsAtSlot, EndsBehind, AllNames}
use Rattle.capnp_model.proofs.lemmas.SoundShapes.{IsFineSchema, AllApart, MarkApart, HasPlace, Apart, IsApartFrom, AtName, IsAlone, FitsSlot, IsFine, IsFineShape, AreFineGroups, IsFineGroup}
use Rattle.capnp_model.specs.Trees.{Tree, null, capability, structure, plain_list, pointer_list, struct_list, Trees, none, ◌▸◌, child, with_child, padded_to, resized}
use Rattle.capnp_model.specs.Schemas.{width, Ty, struct, Shape, shape, Fields, no_fields, field, Body, void_slot, plain_slot, pointer_slot, group_slot, Schema, default_or_null}
use Rattle.capnp_model.specs.Readings.{Reading, inactive, null_pointer, fault, number, text_of, blob_of, list_of, record_as, opaque, Record, Children, Extent, whole_words, discriminant, is_active, only_if, shape_record, fields_of, body_of, read, read_child, record_by_shape}
use Rattle.capnp_model.specs.Printing.{fields_in, As}
use Rattle.capnp_model.specs.Accepted.{Area, bit_area, pointer_area, union_area, areas_of, areas_of_fields, areas_of_body}
use Rattle.capnp_model.specs.Calls.{Step, name, index, Verb, get, set_to, init, initn, clear, Content, refused_by, bits_of, object, slot_content}
use Rattle.capnp_model.specs.Steps.{Outcome, refused, shown, done, outcome_map, Target, no_target, target, target_if, target_of, choose, entry_of, replaced, at_target, on_name, reading_after, slot_type, at_field, got, through_field, through_value, opened, or_empty, step_field, step_element, step_path}
use Rattle.capnp_model.specs.Edits.{Cell, Edit, edit_field, edit_element, edit_target, edit_struct, edit_value, edit_through, put_field, write_path, mark, put_bits, put_child, put_content, opened_tree}
use Rattle.capnp_model.specs.Views.{SameAll}
use Rattle.capnp_model.proofs.Views.{discriminant-same}
use Rattle.capnp_model.proofs.lemmas.Bits.{xor_twice}
use Rattle.capnp_model.proofs.Writes.{discriminant_after, IsOther, AtField, IsWritten, fields_of-replaced, same_all_if_apart}
use Rattle.capnp_model.proofs.lemmas.Marks.{view_of, same_after_mark, marked_view, SameAll-trans, read_back, same_everywhere, read_child-padded_to}

-- ---- children

pub read_child-with_child : (s : Schema) (ts : Trees) (i : ℕ) (t : Tree) (ty : Ty) → read_child s (with_child ts i t) i ty ≡ read s t ty
unfolding read
read_child-with_child s none zero t ty = refl
read_child-with_child s none (suc i) t ty = read_child-with_child s none i t ty
read_child-with_child s (u ▸ ts) zero t ty = refl
read_child-with_child s (u ▸ ts) (suc i) t ty = read_child-with_child s ts i t ty

pub read_child-with_other : (s : Schema) (ts : Trees) (j i : ℕ) (t : Tree) (ty : Ty) → (j == i) ≡ false → read_child s ts j ty ≡ read_child s (with_child ts i t) j ty
unfolding read
read_child-with_other s none zero zero t ty h = absurd (cc h)
read_child-with_other s none zero (suc i) t ty h = refl
read_child-with_other s none (suc j) zero t ty h = refl
read_child-with_other s none (suc j) (suc i) t ty h = read_child-with_other s none j i t ty (less j i h)
  where
    less : (j i : ℕ) → (suc j == suc i) ≡ false → (j == i) ≡ false
    less j i h = grind arith
read_child-with_other s (u ▸ ts) zero zero t ty h = absurd (cc h)
read_child-with_other s (u ▸ ts) zero (suc i) t ty h = refl
read_child-with_other s (u ▸ ts) (suc j) zero t ty h = refl
read_child-with_other s (u ▸ ts) (suc j) (suc i) t ty h = read_child-with_other s ts j i t ty (less j i h)
  where
    less : (j i : ℕ) → (suc j == suc i) ≡ false → (j == i) ≡ false
    less j i h = grind arith

pub read_child-is : (s : Schema) (ts : Trees) (i : ℕ) (ty : Ty) → read_child s ts i ty ≡ read s (child ts i) ty
unfolding read
read_child-is s none i ty = refl
read_child-is s (t ▸ ts) zero ty = refl
read_child-is s (t ▸ ts) (suc i) ty = read_child-is s ts i ty

same_if_put : (s : Schema) (c : Cell) (i : ℕ) (t : Tree) (ys : List Area) → AllApart (pointer_area i) ys → SameAll ys (view_of s c) (view_of s (put_child i t c))
same_if_put s c i t [] h = tt
same_if_put s c i t (bit_area a n ∷ ys) h = (refl, same_if_put s c i t ys h.1)
same_if_put s c i t (pointer_area j ∷ ys) h = ((λ ty. read_child-with_other s c.kids j i t ty h.0), same_if_put s c i t ys h.1)

-- ---- what a write of a field owes

pub record IsDone (s : Schema) (u member : Option ℕ) (body : Body) (c c' : Cell) (r : Reading) : Type 0 where
  pub reads : body_of body whole_words c'.section (read_child s c'.kids) ≡ r
  pub keeps : (ys : List Area) → MarkApart u member ys → Apart (areas_of_body body) ys → SameAll ys (view_of s c) (view_of s c')
  pub marks : discriminant u whole_words c'.section ≡ discriminant_after member (discriminant u whole_words c.section)

module _ (s : Schema) (u member : Option ℕ) (body : Body) (c c' : Cell) (r : Reading) (d : IsDone s u member body c c' r) where
  other_is : (member' m : Option ℕ) (other : Body) → member ≡ member' → IsApartFrom u member' body m other → IsOther member' m other (view_of s c) (view_of s c')
  other_is (Some k) (Some m) other e h = h
  other_is (Some k) None other e h = d.keeps (areas_of_body other) (subst (λ z. MarkApart u z (areas_of_body other)) (sym e) h.0) h.1
  other_is None m other e h = d.keeps (areas_of_body other) (subst (λ z. MarkApart u z (areas_of_body other)) (sym e) h.0) h.1

  at_name : (b : Bool) (m : Option ℕ) (other : Body) → AtName u member body b m other → AtField member r b m other (view_of s c) (view_of s c')
  at_name true m other h = (h.0, ap (λ o. body_of o whole_words c'.section (read_child s c'.kids)) h.1 ∙ d.reads)
  at_name false m other h = other_is member m other refl h

  is_written : (n : List ℕ) (fs : Fields) → IsAlone n u member body fs → IsWritten n member r fs (view_of s c) (view_of s c')
  is_written n no_fields h = tt
  is_written n (field l m other fs) h = (at_name (bytes_eq l n) m other h.0, is_written n fs h.1)

  -- the record of the struct, with the field replaced
  pub struct-replaced : (n : List ℕ) (nid words pointers : ℕ) (fs : Fields) → IsAlone n u member body fs
      → shape_record (shape nid words pointers u fs) whole_words c'.section (read_child s c'.kids) ≡ replaced n member r fs (shape_record (shape nid words pointers u fs) whole_words c.section (read_child s c.kids))
  unfolding shape_record
  struct-replaced n nid words pointers fs h =
      ap (λ e. fields_of fs e whole_words c'.section (read_child s c'.kids)) d.marks
      ∙ fields_of-replaced n member (discriminant u whole_words c.section) r fs (view_of s c) (view_of s c') (is_written n fs h)

-- ---- what accepted schemas give for a field

-- the field that a name finds, where it is a group
fine_group : (s : Schema) (n : List ℕ) (fs : Fields) (member : Option ℕ) (body : Body) → target_of n fs ≡ target member body → AreFineGroups s fs → IsFineGroup s body
fine_group s n no_fields member body e h = absurd (cc e)
fine_group s n (field l m b fs) member body e h = by (bytes_eq l n) (fine_group s n fs member body) e
  where
    by : (c : Bool) → (target_of n fs ≡ target member body → AreFineGroups s fs → IsFineGroup s body) → target_if c (target m b) (target_of n fs) ≡ target member body → IsFineGroup s body
    by true more k = let is : b ≡ body = cc in subst (λ z. IsFineGroup s z) is h.0
    by false more k = more k h.1

-- ---- areas of a group

pub Apart-left : (xs ys zs : List Area) → Apart (xs ++ ys) zs → Apart xs zs
Apart-left [] ys zs h = tt
Apart-left (x ∷ xs) ys zs h = (h.0, Apart-left xs ys zs h.1)

pub Apart-right : (xs ys zs : List Area) → Apart (xs ++ ys) zs → Apart ys zs
Apart-right [] ys zs h = h
Apart-right (x ∷ xs) ys zs h = Apart-right xs ys zs h.1

pub mark_apart : (u member : Option ℕ) (zs : List Area) → Apart (union_area u) zs → MarkApart u member zs
mark_apart (Some at) (Some k) zs h = h.0
mark_apart (Some at) None zs h = tt
mark_apart None member zs h = tt

pub field_apart : (n : List ℕ) (fs : Fields) (member : Option ℕ) (body : Body) (zs : List Area) → target_of n fs ≡ target member body → Apart (areas_of_fields fs) zs → Apart (areas_of_body body) zs
unfolding areas_of
field_apart n no_fields member body zs e h = absurd (cc e)
field_apart n (field l m b fs) member body zs e h = by (bytes_eq l n) (field_apart n fs member body zs) e
  where
    by : (c : Bool) → (target_of n fs ≡ target member body → Apart (areas_of_fields fs) zs → Apart (areas_of_body body) zs) → target_if c (target m b) (target_of n fs) ≡ target member body → Apart (areas_of_body body) zs
    by true more k = let is : b ≡ body = cc in subst (λ z. Apart (areas_of_body z) zs) is (Apart-left (areas_of_body b) (areas_of_fields fs) zs h)
    by false more k = more k (Apart-right (areas_of_body b) (areas_of_fields fs) zs h)

-- ---- the end of a path

module _ (s : Schema) (u member : Option ℕ) (c : Cell) (place : HasPlace u member whole_words) where
  keeps_mark : (ys : List Area) → MarkApart u member ys → SameAll ys (view_of s c) (view_of s (mark u member c))
  keeps_mark ys h = subst (λ v. SameAll ys (view_of s c) v) (sym (marked_view s u member c)) (same_after_mark u member (view_of s c) whole_words place ys h)

pub marks_mark : (s : Schema) (u member : Option ℕ) (c : Cell) → HasPlace u member whole_words → discriminant u whole_words (mark u member c).section ≡ discriminant_after member (discriminant u whole_words c.section)
marks_mark s (Some at) (Some k) c place = ap Some (read_back at 16 k (view_of s c) place.1 tt)
marks_mark s (Some at) None c place = refl
marks_mark s None (Some k) c place = absurd place
marks_mark s None None c place = refl

-- a write behind the mark
behind_mark : (s : Schema) (u member : Option ℕ) (body : Body) (c c' : Cell) (r : Reading) → HasPlace u member whole_words
    → body_of body whole_words c'.section (read_child s c'.kids) ≡ r
    → ((ys : List Area) → Apart (areas_of_body body) ys → SameAll ys (view_of s (mark u member c)) (view_of s c'))
    → Apart (areas_of_body body) (union_area u)
    → IsDone s u member body c c' r
behind_mark s u member body c c' r place reads keeps off = record {
  reads = reads;
  keeps = λ ys h k. SameAll-trans ys (view_of s c) (view_of s (mark u member c)) (view_of s c') (keeps_mark s u member c place ys h) (keeps ys k);
  marks = sym (discriminant-same u (view_of s (mark u member c)) (view_of s c') (keeps (union_area u) off)) ∙ marks_mark s u member c place;
}

pub done_is : {A : Type 0} (x y : A) → done x ≡ done y → x ≡ y
done_is x y h = cc

leaf : (s : Schema) (u member : Option ℕ) (body : Body) (content : Content) (c : Cell) (r : Reading) → HasPlace u member whole_words → Apart (areas_of_body body) (union_area u)
    → IsSlot body → FitsSlot body content → reading_after s (slot_type body) content ≡ done r → IsDone s u member body c (put_content body content (mark u member c)) r
unfolding body_of areas_of_body
leaf s u member body (refused_by k) c r place off slot fits h = absurd (cc h)
leaf s u member (void_slot j) (bits_of m) c r place off slot fits h =
    behind_mark s u member (void_slot j) c (mark u member c) r place (ap number (sym fits) ∙ done_is _ _ h) (λ ys k. same_everywhere ys _ _ refl refl (λ i ty. refl)) off
leaf s u member (plain_slot p at d) (bits_of m) c r place off slot fits h =
    let small : bit_xor m d < 2 ^ width p = xor_lt (width p) m d fits.0 fits.1 in
    behind_mark s u member (plain_slot p at d) c (put_bits at (width p) (bit_xor m d) (mark u member c)) r place
    (ap (λ b. number (bit_xor b d)) (read_back at (width p) (bit_xor m d) (view_of s (mark u member c)) small tt) ∙ ap number (xor_twice m d) ∙ done_is _ _ h)
    (λ ys k. same_all_if_apart at (width p) (bit_xor m d) (view_of s (mark u member c)) small ys k.0) off
leaf s u member (pointer_slot i ty d) (object t) c r place off slot fits h =
    behind_mark s u member (pointer_slot i ty d) c (put_child i t (mark u member c)) r place
    (read_child-with_child s (mark u member c).kids i t ty ∙ done_is _ _ h)
    (λ ys k. same_if_put s (mark u member c) i t ys k.0) off
leaf s u member (void_slot j) (object t) c r place off slot fits h = absurd fits
leaf s u member (plain_slot p at d) (object t) c r place off slot fits h = absurd fits
leaf s u member (pointer_slot i ty d) (bits_of m) c r place off slot fits h = absurd fits
leaf s u member (group_slot g) (bits_of m) c r place off slot fits h = absurd slot
leaf s u member (group_slot g) (object t) c r place off slot fits h = absurd slot

-- ---- opening a pointer

pub record Opens (s : Schema) (id : ℕ) (t : Tree) (r : Record) : Type 0 where
  pub is : r ≡ record_by_shape s (s.shape_of id) t
  pub open' : IsOpen t

pub record_is : (r r' : Record) → record_as r ≡ record_as r' → r ≡ r'
record_is r r' h = cc

pub open_default : (s : Schema) (id : ℕ) (d : Tree) (r : Record) → or_empty s (struct id) (read s d (struct id)) ≡ record_as r → Opens s id d r
unfolding read record_by_shape
open_default s id null r h = record { is = sym (record_is _ _ h); open' = tt }
open_default s id (structure w n ts) r h = record { is = sym (record_is _ _ h); open' = tt }
open_default s id (capability k) r h = absurd (cc h)
open_default s id (plain_list k count xs) r h = absurd (cc h)
open_default s id (pointer_list ts) r h = absurd (cc h)
open_default s id (struct_list w p es) r h = absurd (cc h)

open_pointer : (s : Schema) (id : ℕ) (d t : Tree) (r : Record) → opened s (struct id) d (read s t (struct id)) ≡ record_as r → Opens s id (opened_tree (struct id) d t) r
unfolding read record_by_shape
open_pointer s id d null r h = open_default s id d r h
open_pointer s id d (structure w n ts) r h = record { is = sym (record_is _ _ h); open' = tt }
open_pointer s id d (capability k) r h = absurd (cc h)
open_pointer s id d (plain_list k count xs) r h = absurd (cc h)
open_pointer s id d (pointer_list ts) r h = absurd (cc h)
open_pointer s id d (struct_list w p es) r h = absurd (cc h)

-- ---- the reading of a field by its name

pub entry_of-fields_of : (n : List ℕ) (fs : Fields) (member : Option ℕ) (body : Body) (e : Option ℕ) (size : Extent) (section : ℕ) (kids : Children) → target_of n fs ≡ target member body
    → entry_of n (fields_of fs e size section kids) ≡ only_if (is_active member e) (body_of body size section kids)
unfolding shape_record
entry_of-fields_of n no_fields member body e size section kids h = absurd (cc h)
entry_of-fields_of n (field l m b fs) member body e size section kids h = by_name (bytes_eq l n) (entry_of-fields_of n fs member body e size section kids) h
  where
    by_name : (b' : Bool) → (target_of n fs ≡ target member body → entry_of n (fields_of fs e size section kids) ≡ only_if (is_active member e) (body_of body size section kids))
        → target_if b' (target m b) (target_of n fs) ≡ target member body
        → choose b' (only_if (is_active m e) (body_of b size section kids)) (entry_of n (fields_of fs e size section kids)) ≡ only_if (is_active member e) (body_of body size section kids)
    by_name true rest k =
        let members : m ≡ member = cc in
        let bodies : b ≡ body = cc in
        ap (λ z. only_if (is_active z e) (body_of b size section kids)) members ∙ ap (λ z. only_if (is_active member e) (body_of z size section kids)) bodies
    by_name false rest k = rest k

pub nothing_in : (s : Schema) (p i : ℕ) (ty : Ty) → read_child s (resized p none) i ty ≡ null_pointer
unfolding read
nothing_in s zero i ty = refl
nothing_in s (suc p) zero ty = refl
nothing_in s (suc p) (suc i) ty = nothing_in s p i ty

-- ---- a struct on the way

-- what the calls behind this step do to a field
abbrev pub Meets : Schema → List Step → Verb → Type 0
Meets s path verb = (n : List ℕ) (u member : Option ℕ) (body : Body) (fs : Fields) (c : Cell) (r : Reading) → IsFine s n u member body fs → IsFineGroup s body → EndsAtSlot s path body
    → step_field s path verb body (only_if (is_active member (discriminant u whole_words c.section)) (body_of body whole_words c.section (read_child s c.kids))) ≡ done r
    → IsDone s u member body c (edit_field s path verb u member body c) r

pub data IsMapped {A B : Type 0} (f : A → B) (o : Outcome A) (y : B) : Type 0 where
  mapped : (x : A) → o ≡ done x → f x ≡ y → IsMapped f o y

pub unmap : {A B : Type 0} (f : A → B) (o : Outcome A) (y : B) → outcome_map f o ≡ done y → IsMapped f o y
unmap f (refused k) y h = absurd (cc h)
unmap f (shown how t) y h = absurd (cc h)
unmap f (done x) y h = mapped x refl (done_is _ _ h)

module _ (s : Schema) (path : List Step) (verb : Verb) (meets : Meets s path verb) (n : List ℕ) where
  -- at the cell of a struct: its record, and all that stands apart from it
  in_cell : (nid words pointers : ℕ) (u : Option ℕ) (fs : Fields) (c : Cell) (r : Record) → IsFineShape s (shape nid words pointers u fs) → EndsBehind s n path fs → (t : Target) → target_of n fs ≡ t
      → at_target (step_field s path verb) n fs (shape_record (shape nid words pointers u fs) whole_words c.section (read_child s c.kids)) t ≡ done r
      → let c' = edit_target (edit_field s path verb) u t c in
      (shape_record (shape nid words pointers u fs) whole_words c'.section (read_child s c'.kids) ≡ r) × ((ys : List Area) → Apart (areas_of (shape nid words pointers u fs)) ys → SameAll ys (view_of s c) (view_of s c'))
  unfolding shape_record areas_of
  in_cell nid words pointers u fs c r fine ends no_target e h = absurd (cc h)
  in_cell nid words pointers u fs c r fine ends (target member body) e h = by_field (unmap _ _ _ h)
    where
      by_field : IsMapped (λ x. replaced n member x fs (shape_record (shape nid words pointers u fs) whole_words c.section (read_child s c.kids)))
          (step_field s path verb body (entry_of n (shape_record (shape nid words pointers u fs) whole_words c.section (read_child s c.kids)))) r
          → let c' = edit_field s path verb u member body c in
          (shape_record (shape nid words pointers u fs) whole_words c'.section (read_child s c'.kids) ≡ r) × ((ys : List Area) → Apart (areas_of (shape nid words pointers u fs)) ys → SameAll ys (view_of s c) (view_of s c'))
      by_field (mapped x k l) =
          let read_as = entry_of-fields_of n fs member body (discriminant u whole_words c.section) whole_words c.section (read_child s c.kids) e in
          let f = fine.0 n member body e in
          let d : IsDone s u member body c (edit_field s path verb u member body c) x = meets n u member body fs c x f (fine_group s n fs member body e fine.1) (ends member body e) (ap (step_field s path verb body) (sym read_as) ∙ k) in (
            struct-replaced s u member body c (edit_field s path verb u member body c) x d n nid words pointers fs f.alone ∙ l,
            (λ ys apart. d.keeps ys (mark_apart u member ys (Apart-left (union_area u) (areas_of_fields fs) ys apart)) (field_apart n fs member body ys e (Apart-right (union_area u) (areas_of_fields fs) ys apart))),
          )

  -- null children behind the others, or a struct made of a null
  same_padded : (nid words pointers : ℕ) (u : Option ℕ) (fs : Fields) (section p : ℕ) (ts : Trees) → shape_record (shape nid words pointers u fs) whole_words section (read_child s (padded_to p ts)) ≡ shape_record (shape nid words pointers u fs) whole_words section (read_child s ts)
  same_padded nid words pointers u fs section p ts = ap (shape_record (shape nid words pointers u fs) whole_words section) (λ k i ty. read_child-padded_to s p ts i ty k)

  same_resized : (nid words pointers : ℕ) (u : Option ℕ) (fs : Fields) (p : ℕ) → shape_record (shape nid words pointers u fs) whole_words 0 (read_child s (resized p none)) ≡ record_by_shape s (shape nid words pointers u fs) null
  unfolding record_by_shape
  same_resized nid words pointers u fs p = ap (shape_record (shape nid words pointers u fs) whole_words 0) (λ k i ty. nothing_in s p i ty k)

  -- at an opened pointer
  in_tree : (g : Shape) (t : Tree) (r : Record) → IsFineShape s g → EndsBehind s n path (fields_in g) → IsOpen t → on_name (step_field s path verb) n (fields_in g) (record_by_shape s g t) ≡ done r
      → record_by_shape s g (edit_struct (edit_field s path verb) n g t) ≡ r
  unfolding record_by_shape
  in_tree (shape nid words pointers u fs) null r fine ends is_open h =
      (in_cell nid words pointers u fs (record { section = 0; kids = resized pointers none }) r fine ends (target_of n fs) refl
      (ap (λ z. at_target (step_field s path verb) n fs z (target_of n fs)) (same_resized nid words pointers u fs pointers) ∙ h)).0
  in_tree (shape nid words pointers u fs) (structure w section ts) r fine ends is_open h =
      (in_cell nid words pointers u fs (record { section = section; kids = padded_to pointers ts }) r fine ends (target_of n fs) refl
      (ap (λ z. at_target (step_field s path verb) n fs z (target_of n fs)) (same_padded nid words pointers u fs section pointers ts) ∙ h)).0
  in_tree g (capability k) r fine ends is_open h = absurd is_open
  in_tree g (plain_list k count xs) r fine ends is_open h = absurd is_open
  in_tree g (pointer_list ts) r fine ends is_open h = absurd is_open
  in_tree g (struct_list w p es) r fine ends is_open h = absurd is_open

-- ---- whole paths of names

pub shown_not_done : (how : As) (x r : Reading) → got how x ≡ done r → ⊥
shown_not_done how inactive r h = cc
shown_not_done how null_pointer r h = cc
shown_not_done how (fault k) r h = cc
shown_not_done how (number k) r h = cc
shown_not_done how (text_of k) r h = cc
shown_not_done how (blob_of k) r h = cc
shown_not_done how (list_of k) r h = cc
shown_not_done how (record_as k) r h = cc
shown_not_done how (opaque k) r h = cc

pub after_call : (s : Schema) (verb : Verb) (body : Body) (x r : Reading) → IsSlot body → at_field s verb body x ≡ done r → reading_after s (slot_type body) (slot_content s verb body) ≡ done r
after_call s verb (group_slot g) x r slot h = absurd slot
after_call s get (void_slot j) x r yes' h = absurd (shown_not_done _ x r h)
after_call s get (plain_slot p at d) x r yes' h = absurd (shown_not_done _ x r h)
after_call s get (pointer_slot i ty d) x r yes' h = absurd (shown_not_done _ x r h)
after_call s (set_to v) (void_slot j) x r yes' h = h
after_call s (set_to v) (plain_slot p at d) x r yes' h = h
after_call s (set_to v) (pointer_slot i ty d) x r yes' h = h
after_call s init (void_slot j) x r yes' h = h
after_call s init (plain_slot p at d) x r yes' h = h
after_call s init (pointer_slot i ty d) x r yes' h = h
after_call s (initn k) (void_slot j) x r yes' h = h
after_call s (initn k) (plain_slot p at d) x r yes' h = h
after_call s (initn k) (pointer_slot i ty d) x r yes' h = h
after_call s clear (void_slot j) x r yes' h = h
after_call s clear (plain_slot p at d) x r yes' h = h
after_call s clear (pointer_slot i ty d) x r yes' h = h

pub put_is : (s : Schema) (verb : Verb) (body : Body) (c : Cell) → IsSlot body → put_content body (slot_content s verb body) c ≡ put_field s verb body c
put_is s verb (void_slot j) c h = refl
put_is s verb (plain_slot p at d) c h = refl
put_is s verb (pointer_slot i ty d) c h = refl
put_is s verb (group_slot g) c h = absurd h

pub still_active : (member d : Option ℕ) → is_active member d ≡ true → d ≡ discriminant_after member d
still_active None d h = refl
still_active (Some k) None h = absurd (cc h)
still_active (Some k) (Some m) h = ap Some (same k m h)
  where
    same : (k m : ℕ) → (k == m) ≡ true → m ≡ k
    same k m h = grind arith

pub data IsThrough (s : Schema) (l : List ℕ) (f : Body → Reading → Outcome Reading) (ty : Ty) (x r : Reading) : Type 0 where
  through : (id : ℕ) (old new : Record) → ty ≡ struct id → x ≡ record_as old → on_name f l (fields_in (s.shape_of id)) old ≡ done new → record_as new ≡ r → IsThrough s l f ty x r

pub to_through : (s : Schema) (l : List ℕ) (f : Body → Reading → Outcome Reading) (e : Ty → Reading → Outcome Reading) (ty : Ty) (x r : Reading) → through_value s (name l) f e ty x ≡ done r → IsThrough s l f ty x r
to_through s l f e ty (fault k) r h = absurd (cc h)
to_through s l f e (struct id) (record_as old) r h = found (unmap record_as (on_name f l (fields_in (s.shape_of id)) old) r h)
  where
    found : IsMapped record_as (on_name f l (fields_in (s.shape_of id)) old) r → IsThrough s l f (struct id) (record_as old) r
    found (mapped new k m) = through id old new refl refl k m
to_through s l f e _ _ r h = absurd (cc h)

no_longer_inactive : (s : Schema) (l : List ℕ) (f : Body → Reading → Outcome Reading) (e : Ty → Reading → Outcome Reading) (i : ℕ) (ty : Ty) (d : Option Tree) (x r : Reading)
    → through_field s (name l) f e (pointer_slot i ty d) x ≡ done r → through_value s (name l) f e ty (opened s ty (default_or_null d) x) ≡ done r
no_longer_inactive s l f e i ty d inactive r h = absurd (cc h)
no_longer_inactive s l f e i ty d null_pointer r h = h
no_longer_inactive s l f e i ty d (fault k) r h = h
no_longer_inactive s l f e i ty d (number k) r h = h
no_longer_inactive s l f e i ty d (text_of k) r h = h
no_longer_inactive s l f e i ty d (blob_of k) r h = h
no_longer_inactive s l f e i ty d (list_of k) r h = h
no_longer_inactive s l f e i ty d (record_as k) r h = h
no_longer_inactive s l f e i ty d (opaque k) r h = h

read_edited : (s : Schema) (id : ℕ) (f : Option ℕ → Option ℕ → Body → Edit) (l : List ℕ) (g : Shape) (t : Tree) → IsOpen t → read s (edit_struct f l g t) (struct id) ≡ record_as (record_by_shape s (s.shape_of id) (edit_struct f l g t))
unfolding read record_by_shape
read_edited s id f l (shape nid w p u fs) null h = refl
read_edited s id f l (shape nid w p u fs) (structure words n ts) h = refl
read_edited s id f l g (capability k) h = absurd h
read_edited s id f l g (plain_list k count xs) h = absurd h
read_edited s id f l g (pointer_list ts) h = absurd h
read_edited s id f l g (struct_list w p es) h = absurd h

module _ (s : Schema) (fine_schema : IsFineSchema s) (verb : Verb) (range : IsInRange verb) where
  through_pointer : (path : List Step) (l : List ℕ) → Meets s path verb → (n : List ℕ) (u member : Option ℕ) (i : ℕ) (ty : Ty) (d : Option Tree) (fs : Fields) (c : Cell) (r : Reading)
      → IsFineGroup s (pointer_slot i ty d) → EndsAtSlot s (name l ∷ path) (pointer_slot i ty d) → is_active member (discriminant u whole_words c.section) ≡ true
      → IsThrough s l (step_field s path verb) ty (opened s ty (default_or_null d) (read_child s c.kids i ty)) r
      → IsDone s u member (pointer_slot i ty d) c (put_child i (edit_value s (name l) (edit_field s path verb) (edit_element s path verb) ty (opened_tree ty (default_or_null d) (child c.kids i))) c) r
  unfolding body_of areas_of_body
  through_pointer path l meets n u member i ty d fs c r inner_fine ends active (through id old new is_struct is_record walked gives) =
      let to : Tree = opened_tree (struct id) (default_or_null d) (child c.kids i) in
      let at_id : opened s (struct id) (default_or_null d) (read s (child c.kids i) (struct id)) ≡ record_as old =
      subst (λ z. opened s z (default_or_null d) (read s (child c.kids i) z) ≡ record_as old) is_struct (ap (opened s ty (default_or_null d)) (sym (read_child-is s c.kids i ty)) ∙ is_record) in
      let opens : Opens s id to old = open_pointer s id (default_or_null d) (child c.kids i) old at_id in
      let inner : record_by_shape s (s.shape_of id) (edit_struct (edit_field s path verb) l (s.shape_of id) to) ≡ new =
      in_tree s path verb meets l (s.shape_of id) to new (fine_schema id (inner_fine id is_struct)) (subst (λ z. EndsAtSlot s (name l ∷ path) (pointer_slot i z d)) is_struct ends) opens.open' (ap (on_name (step_field s path verb) l (fields_in (s.shape_of id))) (sym opens.is) ∙ walked) in
      let value : Ty → Tree = λ z. edit_value s (name l) (edit_field s path verb) (edit_element s path verb) z (opened_tree z (default_or_null d) (child c.kids i)) in
      let reads : read s (value ty) ty ≡ r =
      ap (λ z. read s (value z) z) is_struct ∙ read_edited s id (edit_field s path verb) l (s.shape_of id) to opens.open' ∙ ap record_as inner ∙ gives in
      record {
        reads = read_child-with_child s c.kids i (value ty) ty ∙ reads;
        keeps = λ ys h k. same_if_put s c i (value ty) ys k.0;
        marks = still_active member (discriminant u whole_words c.section) active;
      }

  at_path : (path : List Step) (l : List ℕ) → Meets s path verb → (n : List ℕ) (u member : Option ℕ) (body : Body) (fs : Fields) (c : Cell) (r : Reading) → IsFine s n u member body fs → IsFineGroup s body → EndsAtSlot s (name l ∷ path) body
      → (b : Bool) → is_active member (discriminant u whole_words c.section) ≡ b
      → through_field s (name l) (step_field s path verb) (step_element s path verb) body (only_if b (body_of body whole_words c.section (read_child s c.kids))) ≡ done r
      → IsDone s u member body c (edit_through s (name l) (edit_field s path verb) (edit_element s path verb) body c) r
  unfolding body_of areas_of areas_of_body
  at_path path l meets n u member body fs c r fine inner ends false active h = absurd (cc h)
  at_path path l meets n u member (void_slot j) fs c r fine inner ends true active h = absurd (cc h)
  at_path path l meets n u member (plain_slot p at d) fs c r fine inner ends true active h = absurd (cc h)
  at_path path l meets n u member (pointer_slot i ty d) fs c r fine inner ends true active h =
      through_pointer path l meets n u member i ty d fs c r inner ends active
      (to_through s l (step_field s path verb) (step_element s path verb) ty _ r (no_longer_inactive s l (step_field s path verb) (step_element s path verb) i ty d (read_child s c.kids i ty) r h))
  at_path path l meets n u member (group_slot (shape nid w p v gs)) fs c r fine inner ends true active h = by (unmap _ _ _ h)
    where
      c' : Cell
      c' = edit_target (edit_field s path verb) v (target_of l gs) c

      by : IsMapped record_as (on_name (step_field s path verb) l gs (shape_record (shape nid w p v gs) whole_words c.section (read_child s c.kids))) r → IsDone s u member (group_slot (shape nid w p v gs)) c c' r
      by (mapped x k gives) =
          let both = in_cell s path verb meets l nid w p v gs c x inner ends (target_of l gs) refl k in
          record {
            reads = ap record_as both.0 ∙ gives;
            keeps = λ ys h k. both.1 ys k;
            marks = sym (discriminant-same u (view_of s c) (view_of s c') (both.1 (union_area u) fine.off_union)) ∙ still_active member (discriminant u whole_words c.section) active;
          }

  -- calls along paths of names do to the tree what they do to the record
  pub meets_all : (path : List Step) → AllNames path → Meets s path verb
  unfolding step_field edit_field
  meets_all [] names n u member body fs c r fine inner slot h =
      subst (λ z. IsDone s u member body c z r) (put_is s verb body (mark u member c) slot)
      (leaf s u member body (slot_content s verb body) c r fine.place fine.off_union slot (fine.contents verb range) (after_call s verb body _ r slot h))
  meets_all (name l ∷ path) names n u member body fs c r fine inner ends h =
      at_path path l (meets_all path names) n u member body fs c r fine inner ends (is_active member (discriminant u whole_words c.section)) refl h
  meets_all (index k ∷ path) names n u member body fs c r fine inner ends h = absurd names

-- The reading clause: at an opened struct, the record after a call that the record machine does not refuse
-- is that of the edited tree.
pub path_law : (s : Schema) → IsFineSchema s → (verb : Verb) → IsInRange verb → (id : ℕ) → s.is_group id ≡ false → (n : List ℕ) (path : List Step) (t : Tree) (r : Record) → AllNames path → EndsBehind s n path (fields_in (s.shape_of id)) → IsOpen t
    → step_path s (fields_in (s.shape_of id)) (name n ∷ path) verb (record_by_shape s (s.shape_of id) t) ≡ done r
    → record_by_shape s (s.shape_of id) (write_path s (s.shape_of id) (name n ∷ path) verb t) ≡ r
path_law s fine verb range id root n path t r names ends is_open h =
    in_tree s path verb (meets_all s fine verb range path names) n (s.shape_of id) t r (fine id root) ends is_open h
