-- A cleared group reads as one of zeros and nulls, and nothing beside it changes.
use Rattle.std.proofs.Common.{◌≡◌, ℕ, zero, suc, ◌%◌, ◌^◌, ◌<◌, ◌==◌, Bool, true, false, not, ◌&&◌, ◌||◌, inl, inr, List, Option, Some, None, refl, sym, ◌∙◌, ap, subst, arith}
use Rattle.std.proofs.Math.Nat.{zero-div, zero-mod}
use Rattle.std.proofs.lemmas.Nat.{pow_pos}
use lib.Bits.{bit_xor}
use Rattle.capnp_model.specs.Sections.{bits_at}
use Rattle.capnp_model.specs.Trees.{null, child}
use Rattle.capnp_model.specs.Schemas.{width, Ty, Shape, shape, Fields, no_fields, field, Body, void_slot, plain_slot, pointer_slot, group_slot, Schema}
use Rattle.capnp_model.specs.Readings.{Reading, number, record_as, entry, no_children, whole_words, discriminant, is_active, only_if, read, read_child, shape_record, fields_of, body_of}
use Rattle.capnp_model.specs.Accepted.{Area, union_area, areas_of, areas_of_fields, areas_of_body, are_apart, is_apart_from, has_no_overlap, fields_are_apart, body_has_no_overlap}
use Rattle.capnp_model.specs.Edits.{Cell, mark, put_child, is_kept, edit_if, cleared, cleared_fields, cleared_body}
use Rattle.capnp_model.specs.InKind.{in_kind, child_in_kind, fields_in_kind, body_in_kind, shape_in_kind}
use Rattle.capnp_model.proofs.lemmas.SoundShapes.{MarkApart, Apart}
use Rattle.capnp_model.proofs.lemmas.KeptRules.{and_three}
use Rattle.capnp_model.proofs.ApartAreas.{apart_of, Apart-sym}
use Rattle.capnp_model.proofs.lemmas.FineShapes.{IsGood, AreGood, IsGoodBody}
use Rattle.capnp_model.proofs.lemmas.Bits.{bits_at-with_bits}
use Rattle.capnp_model.proofs.Views.{body_of-same}
use Rattle.capnp_model.proofs.lemmas.Marks.{view_of}
use Rattle.capnp_model.proofs.lemmas.Paths.{read_child-is, Apart-left, Apart-right}
use Rattle.capnp_model.proofs.lemmas.KeptCells.{KeptAll, KeptAll-refl, KeptAll-trans, kept_views, child-with_child, kept_if_put, kept_if_written, child_in_kind-is, discriminant-kept, body_in_kind-kept}
use Rattle.capnp_model.proofs.FieldsApart.{IsIn, off_union_in, OfField, IsLocal, AllChosen, IsBeside, run, run_meets}
use Rattle.capnp_model.proofs.lemmas.Tests.{both, and_left, and_right, not_zero}

pub zero_bits : (at w : ℕ) → bits_at at w 0 ≡ 0
zero_bits at w = ap (λ z. z % 2 ^ w) (zero-div (2 ^ at)) ∙ zero-mod (2 ^ w)

zero_fits : (w : ℕ) → 0 < 2 ^ w
zero_fits w = pow_pos w

-- ---- what a cleared field is

-- its pointer is null
abbrev pub IsBlank : Body → Cell → Type 0
IsBlank (pointer_slot i ty d) c = child c.kids i ≡ null
IsBlank _ c = Unit {0}

pub record Blank (s : Schema) (m : Option ℕ) (b : Body) (c : Cell) : Type 0 where
  pub reads : body_of b whole_words c.section (read_child s c.kids) ≡ body_of b whole_words 0 no_children
  pub kinds : body_in_kind b c.section (child_in_kind s c.kids) ≡ true
  pub blank : IsBlank b c

pub blank_kept : (b : Body) (c c' : Cell) → KeptAll (areas_of_body b) c c' → IsBlank b c → IsBlank b c'
unfolding areas_of
blank_kept (void_slot j) c c' k h = tt
blank_kept (plain_slot p at d) c c' k h = tt
blank_kept (pointer_slot i ty d) c c' k h = sym k.0 ∙ h
blank_kept (group_slot g) c c' k h = tt

pub Blank-local : (s : Schema) → IsLocal (Blank s)
Blank-local s m b c c' k h = record {
  reads = sym (body_of-same b (view_of s c) (view_of s c') (kept_views s (areas_of_body b) c c' k)) ∙ h.reads;
  kinds = sym (body_in_kind-kept s b c c' k) ∙ h.kinds;
  blank = blank_kept b c c' k h.blank;
}

-- nothing is asked of a field
abbrev pub Any : OfField
Any m b c = Unit {0}

pub Any-local : IsLocal Any
Any-local m b c c' k h = tt

same_zero : (k j : ℕ) → is_kept (Some k) ≡ true → is_kept (Some j) ≡ true → (k == j) ≡ true
same_zero zero zero h k = refl
same_zero zero (suc j) h k = absurd (cc k)
same_zero (suc i) j h k = absurd (cc h)

-- ---- the discriminant

-- the value that clearing gives the discriminant
abbrev pub first_member : Option ℕ → Option ℕ
first_member None = None
first_member (Some at) = Some 0

pub marked_first : (u : Option ℕ) (c : Cell) → discriminant u whole_words (mark u (Some 0) c).section ≡ first_member u
marked_first None c = refl
marked_first (Some at) c = ap Some (bits_at-with_bits at 16 0 c.section (zero_fits 16))

nothing_first : (u : Option ℕ) → discriminant u whole_words 0 ≡ first_member u
nothing_first None = refl
nothing_first (Some at) = ap Some (zero_bits at 16)

place_first : (u : Option ℕ) (ys : List Area) (c : Cell) → Apart (union_area u) ys → KeptAll ys c (mark u (Some 0) c)
place_first None ys c h = KeptAll-refl ys c
place_first (Some at) ys c h = kept_if_written c at 16 0 (zero_fits 16) ys h.0

-- ---- all fields

-- fields that are members of no value but 0 read as before, others are inactive
entry_cleared : (u m : Option ℕ) (x y : Reading) → (is_kept m ≡ true → x ≡ y) → only_if (is_active m (first_member u)) x ≡ only_if (is_active m (first_member u)) y
entry_cleared u None x y h = h refl
entry_cleared u (Some zero) x y h = ap (only_if (is_active (Some zero) (first_member u))) (h refl)
entry_cleared None (Some (suc k)) x y h = refl
entry_cleared (Some at) (Some (suc k)) x y h = ap (λ z. only_if z x) (not_zero k) ∙ sym (ap (λ z. only_if z y) (not_zero k))

kind_cleared : (u m : Option ℕ) (b : Bool) → (is_kept m ≡ true → b ≡ true) → (not (is_active m (first_member u)) || b) ≡ true
kind_cleared u None b h = h refl
kind_cleared None (Some k) b h = refl
kind_cleared (Some at) (Some zero) b h = h refl
kind_cleared (Some at) (Some (suc k)) b h = ap (λ z. not z || b) (not_zero k)

fields_read : (s : Schema) (u : Option ℕ) (fs : Fields) (c : Cell) → AllChosen is_kept (Blank s) fs c → fields_of fs (first_member u) whole_words c.section (read_child s c.kids) ≡ fields_of fs (first_member u) whole_words 0 no_children
unfolding shape_record
fields_read s u no_fields c h = refl
fields_read s u (field n m b fs) c h =
    ap (λ r. entry n r (fields_of fs (first_member u) whole_words c.section (read_child s c.kids))) (entry_cleared u m _ _ (λ k. (h m b (inl (refl, refl)) k).reads))
    ∙ ap (entry n (only_if (is_active m (first_member u)) (body_of b whole_words 0 no_children))) (fields_read s u fs c (λ k x i. h k x (inr i)))

fields_cleared_in_kind : (s : Schema) (u : Option ℕ) (fs : Fields) (c : Cell) → AllChosen is_kept (Blank s) fs c → fields_in_kind fs (first_member u) c.section (child_in_kind s c.kids) ≡ true
unfolding fields_in_kind
fields_cleared_in_kind s u no_fields c h = refl
fields_cleared_in_kind s u (field n m b fs) c h =
    both _ _ (kind_cleared u m (body_in_kind b c.section (child_in_kind s c.kids)) (λ k. (h m b (inl (refl, refl)) k).kinds)) (fields_cleared_in_kind s u fs c (λ k x i. h k x (inr i)))

-- ---- groups

pub record IsCleared (s : Schema) (g : Shape) (c c' : Cell) : Type 0 where
  pub reads : shape_record g whole_words c'.section (read_child s c'.kids) ≡ shape_record g whole_words 0 no_children
  pub keeps : (ys : List Area) → Apart (areas_of g) ys → KeptAll ys c c'
  pub kinds : shape_in_kind g c'.section (child_in_kind s c'.kids) ≡ true

-- its fields, with the discriminant
pub record AreCleared (s : Schema) (u : Option ℕ) (fs : Fields) (c c' : Cell) : Type 0 where
  pub blank : AllChosen is_kept (Blank s) fs c'
  pub first : discriminant u whole_words c'.section ≡ first_member u
  pub keeps : (ys : List Area) → Apart (union_area u) ys → Apart (areas_of_fields fs) ys → KeptAll ys c c'

runs_cleared : (fs : Fields) (c : Cell) → cleared_fields fs c ≡ run is_kept (λ m b. cleared_body b) fs c
unfolding cleared
runs_cleared no_fields c = refl
runs_cleared (field n m b fs) c = runs_cleared fs (edit_if (is_kept m) (cleared_body b) c)

pub all_apart_in : (fs : Fields) (ys : List Area) → Apart (areas_of_fields fs) ys → (m : Option ℕ) (b : Body) → IsIn m b fs → Apart (areas_of_body b) ys
unfolding areas_of
all_apart_in no_fields ys h m b i = absurd i
all_apart_in (field n k x fs) ys h m b (inl e) = subst (λ z. Apart (areas_of_body z) ys) (sym e.1) (Apart-left (areas_of_body x) (areas_of_fields fs) ys h)
all_apart_in (field n k x fs) ys h m b (inr i) = all_apart_in fs ys (Apart-right (areas_of_body x) (areas_of_fields fs) ys h) m b i

-- what clearing a field does
abbrev pub ClearsBody : Schema → Option ℕ → Body → Cell → Type 0
ClearsBody s m b c = Blank s m b (cleared_body b c) × ((ys : List Area) → MarkApart None m ys → Apart (areas_of_body b) ys → KeptAll ys c (cleared_body b c))

pub union_apart : (u : Option ℕ) (fs : Fields) → (are_apart (union_area u) (areas_of_fields fs) && fields_are_apart fs) ≡ true → Apart (union_area u) (areas_of_fields fs)
union_apart u fs h = apart_of (union_area u) (areas_of_fields fs) (and_left (are_apart (union_area u) (areas_of_fields fs)) (fields_are_apart fs) h)

pub nothing_read : (s : Schema) (ty : Ty) → read s null ty ≡ no_children 0 ty
unfolding read
nothing_read s ty = refl

pub nothing_in_kind : (s : Schema) (ty : Ty) → in_kind s null ty ≡ true
unfolding in_kind
nothing_in_kind s ty = refl

fields_clear : (s : Schema) (u : Option ℕ) (fs : Fields) → AreGood s u fs → fields_are_apart fs ≡ true → Apart (union_area u) (areas_of_fields fs)
    → ((m : Option ℕ) (b : Body) → IsIn m b fs → (d : Cell) → ClearsBody s m b d) → (c : Cell) → AreCleared s u fs c (cleared_fields fs (mark u (Some 0) c))
fields_clear s u fs good apart off works c =
    let start = mark u (Some 0) c in
    let runs = run_meets s u None is_kept same_zero (λ m b. cleared_body b) Any (Blank s) Any-local (Blank-local s) fs good apart tt (λ m b i k d ready. works m b i d) start (λ m b i k. tt) in
    let keeps : (ys : List Area) → IsBeside None is_kept fs ys → KeptAll ys start (cleared_fields fs start) = λ ys h. subst (λ z. KeptAll ys start z) (sym (runs_cleared fs start)) (runs.1 ys h) in
    record {
      blank = λ m b i k. subst (λ z. Blank s m b z) (sym (runs_cleared fs start)) (runs.0 m b i k);
      first = sym (discriminant-kept u start (cleared_fields fs start) (keeps (union_area u) (λ m b i k. (tt, Apart-sym (union_area u) (areas_of_body b) (off_union_in u fs m b off i))))) ∙ marked_first u c;
      keeps = λ ys h k. KeptAll-trans ys c start (cleared_fields fs start) (place_first u ys c h) (keeps ys (λ m b i l. (tt, all_apart_in fs ys k m b i)));
    }

mutual
  unfolding cleared areas_of has_no_overlap body_of fields_in_kind

  field_cleared : (s : Schema) (u : Option ℕ) (fs : Fields) → AreGood s u fs → fields_are_apart fs ≡ true → (m : Option ℕ) (b : Body) → IsIn m b fs → (c : Cell) → ClearsBody s m b c
  field_cleared s u no_fields good apart m b i c = absurd i
  field_cleared s u (field n k x fs) good apart m b (inl e) c =
      let three = and_three (is_apart_from k (areas_of_body x) fs) (body_has_no_overlap x) (fields_are_apart fs) apart in
      subst (λ z. ClearsBody s z b c) (sym e.0) (subst (λ z. ClearsBody s k z c) (sym e.1) (body_cleared s k x good.3 three.1 c))
  field_cleared s u (field n k x fs) good apart m b (inr i) c =
      field_cleared s u fs good.4 (and_three (is_apart_from k (areas_of_body x) fs) (body_has_no_overlap x) (fields_are_apart fs) apart).2 m b i c

  body_cleared : (s : Schema) (m : Option ℕ) (b : Body) → IsGoodBody s b → body_has_no_overlap b ≡ true → (c : Cell) → ClearsBody s m b c
  body_cleared s m (void_slot j) good apart c = (record { reads = refl; kinds = refl; blank = tt }, (λ ys h k. KeptAll-refl ys c))
  body_cleared s m (plain_slot p at d) good apart c = (
    record {
      reads = ap (λ z. number (bit_xor z d)) (bits_at-with_bits at (width p) 0 c.section (zero_fits (width p)) ∙ sym (zero_bits at (width p)));
      kinds = refl;
      blank = tt;
    },
    (λ ys h k. kept_if_written c at (width p) 0 (zero_fits (width p)) ys k.0),
  )
  body_cleared s m (pointer_slot i ty d) good apart c =
      let gone : child (put_child i null c).kids i ≡ null = child-with_child c.kids i null in (
        record {
          reads = read_child-is s (put_child i null c).kids i ty ∙ ap (λ t. read s t ty) gone ∙ nothing_read s ty;
          kinds = child_in_kind-is s (put_child i null c).kids i ty ∙ ap (λ t. in_kind s t ty) gone ∙ nothing_in_kind s ty;
          blank = gone;
        },
        (λ ys h k. kept_if_put c i null ys k.0),
      )
  body_cleared s m (group_slot g) good apart c =
      let d = group_cleared s g good apart c in (
        record { reads = ap record_as d.reads; kinds = d.kinds; blank = tt },
        (λ ys h k. d.keeps ys k),
      )

  pub group_cleared : (s : Schema) (g : Shape) → IsGood s g → has_no_overlap g ≡ true → (c : Cell) → IsCleared s g c (cleared g c)
  group_cleared s (shape nid w p u fs) good apart c =
      let off = union_apart u fs apart in
      let fields = and_right (are_apart (union_area u) (areas_of_fields fs)) (fields_are_apart fs) apart in
      let d = fields_clear s u fs good fields off (λ m b i d. field_cleared s u fs good fields m b i d) c in
      let c' = cleared_fields fs (mark u (Some 0) c) in
      record {
        reads = ap (λ z. fields_of fs z whole_words c'.section (read_child s c'.kids)) d.first ∙ fields_read s u fs c' d.blank ∙ ap (λ z. fields_of fs z whole_words 0 no_children) (sym (nothing_first u));
        keeps = λ ys h. d.keeps ys (Apart-left (union_area u) (areas_of_fields fs) ys h) (Apart-right (union_area u) (areas_of_fields fs) ys h);
        kinds = ap (λ z. fields_in_kind fs z c'.section (child_in_kind s c'.kids)) d.first ∙ fields_cleared_in_kind s u fs c' d.blank;
      }

pub fields_cleared : (s : Schema) (u : Option ℕ) (fs : Fields) → AreGood s u fs → fields_are_apart fs ≡ true → Apart (union_area u) (areas_of_fields fs) → (c : Cell) → AreCleared s u fs c (cleared_fields fs (mark u (Some 0) c))
fields_cleared s u fs good apart off c = fields_clear s u fs good apart off (λ m b i d. field_cleared s u fs good apart m b i d) c
