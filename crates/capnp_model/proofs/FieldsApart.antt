-- Writes to some of the fields of a struct, one after the other.
use Rattle.std.proofs.Common.{◌≡◌, ℕ, ◌==◌, Bool, true, false, ◌||◌, ◌⊎◌, inl, inr, List, Option, Some, None, refl, sym, ◌∙◌, ap, subst}
use Rattle.capnp_model.specs.Schemas.{Fields, no_fields, field, Body, Schema}
use Rattle.capnp_model.specs.Accepted.{Area, union_area, areas_of, areas_of_fields, areas_of_body, are_members, are_apart, is_apart_from, has_no_overlap, fields_are_apart, body_has_no_overlap}
use Rattle.capnp_model.specs.Edits.{Cell, Edit, edit_if}
use Rattle.capnp_model.proofs.lemmas.SoundShapes.{MarkApart, Apart}
use Rattle.capnp_model.proofs.lemmas.KeptRules.{and_three}
use Rattle.capnp_model.proofs.ApartAreas.{apart_of, Apart-sym}
use Rattle.capnp_model.proofs.lemmas.FineShapes.{IsGoodMember, IsNewMember, AreGood, IsGoodBody, front_of, back_of}
use Rattle.capnp_model.proofs.lemmas.KeptCells.{KeptAll, KeptAll-refl, KeptAll-trans}
use Rattle.capnp_model.proofs.lemmas.Tests.{and_left, and_right}
use Rattle.capnp_model.proofs.lemmas.Paths.{mark_apart}

-- The member and the field stand among the fields.
abbrev pub IsIn : Option ℕ → Body → Fields → Type 0
IsIn m b no_fields = ⊥
IsIn m b (field n k x fs) = ((m ≡ k) × (b ≡ x)) ⊎ IsIn m b fs

-- ---- what holds of all fields holds of each

pub good_in : (s : Schema) (u : Option ℕ) (fs : Fields) (m : Option ℕ) (b : Body) → AreGood s u fs → IsIn m b fs → IsGoodMember u m × IsGoodBody s b
good_in s u no_fields m b h i = absurd i
good_in s u (field n k x fs) m b h (inl e) = (subst (λ z. IsGoodMember u z) (sym e.0) h.0, subst (λ z. IsGoodBody s z) (sym e.1) h.3)
good_in s u (field n k x fs) m b h (inr i) = good_in s u fs m b h.4 i

pub off_union_in : (u : Option ℕ) (fs : Fields) (m : Option ℕ) (b : Body) → Apart (union_area u) (areas_of_fields fs) → IsIn m b fs → Apart (union_area u) (areas_of_body b)
unfolding areas_of
off_union_in u no_fields m b h i = absurd i
off_union_in u (field n k x fs) m b h (inl e) = subst (λ z. Apart (union_area u) (areas_of_body z)) (sym e.1) (front_of u (areas_of_body x) (areas_of_fields fs) h)
off_union_in u (field n k x fs) m b h (inr i) = off_union_in u fs m b (back_of u (areas_of_body x) (areas_of_fields fs) h) i

pub beside_in : (k : Option ℕ) (x : Body) (fs : Fields) (m : Option ℕ) (b : Body) → is_apart_from k (areas_of_body x) fs ≡ true → IsIn m b fs → are_members k m ≡ false → Apart (areas_of_body x) (areas_of_body b)
beside_in k x no_fields m b h i alone = absurd i
beside_in k x (field n j y fs) m b h (inl e) alone =
    let all : (are_members k m || are_apart (areas_of_body x) (areas_of_body b)) ≡ true =
    subst (λ z. (are_members k z || are_apart (areas_of_body x) (areas_of_body b)) ≡ true) (sym e.0)
    (subst (λ z. (are_members k j || are_apart (areas_of_body x) (areas_of_body z)) ≡ true) (sym e.1) (and_left (are_members k j || are_apart (areas_of_body x) (areas_of_body y)) (is_apart_from k (areas_of_body x) fs) h)) in
    apart_of (areas_of_body x) (areas_of_body b) (ap (λ z. z || are_apart (areas_of_body x) (areas_of_body b)) (sym alone) ∙ all)
beside_in k x (field n j y fs) m b h (inr i) alone = beside_in k x fs m b (and_right (are_members k j || are_apart (areas_of_body x) (areas_of_body y)) (is_apart_from k (areas_of_body x) fs) h) i alone

pub other_member_in : (k : ℕ) (fs : Fields) (j : ℕ) (b : Body) → IsNewMember (Some k) fs → IsIn (Some j) b fs → (k == j) ≡ false
other_member_in k no_fields j b h i = absurd i
other_member_in k (field n None y fs) j b h (inl e) = absurd (cc e.0)
other_member_in k (field n None y fs) j b h (inr i) = other_member_in k fs j b h i
other_member_in k (field n (Some m) y fs) j b h (inl e) = let same : j ≡ m = cc e.0 in ap (λ z. k == z) same ∙ h.1
other_member_in k (field n (Some m) y fs) j b h (inr i) = other_member_in k fs j b h.2 i

pub apart_in : (fs : Fields) (b : Body) (k : ℕ) (x : Body) → fields_are_apart fs ≡ true → IsIn None b fs → IsIn (Some k) x fs → Apart (areas_of_body b) (areas_of_body x)
unfolding has_no_overlap
apart_in no_fields b k x h i j = absurd i
apart_in (field n m y fs) b k x h (inl e) (inl f) = absurd (cc (e.0, f.0))
apart_in (field n m y fs) b k x h (inl e) (inr j) =
    let first = and_three (is_apart_from m (areas_of_body y) fs) (body_has_no_overlap y) (fields_are_apart fs) h in
    let here : Apart (areas_of_body y) (areas_of_body x) = beside_in m y fs (Some k) x first.0 j (ap (λ z. are_members z (Some k)) (sym e.0)) in
    subst (λ z. Apart (areas_of_body z) (areas_of_body x)) (sym e.1) here
apart_in (field n m y fs) b k x h (inr i) (inl f) =
    let first = and_three (is_apart_from m (areas_of_body y) fs) (body_has_no_overlap y) (fields_are_apart fs) h in
    let here : Apart (areas_of_body y) (areas_of_body b) = beside_in m y fs None b first.0 i (ap (λ z. are_members z None) (sym f.0)) in
    subst (λ z. Apart (areas_of_body b) (areas_of_body z)) (sym f.1) (Apart-sym (areas_of_body y) (areas_of_body b) here)
apart_in (field n m y fs) b k x h (inr i) (inr j) = apart_in fs b k x (and_three (is_apart_from m (areas_of_body y) fs) (body_has_no_overlap y) (fields_are_apart fs) h).2 i j

-- ---- one write after the other

-- What holds of a field at a cell.
abbrev pub OfField : Type 1
OfField = Option ℕ → Body → Cell → Type 0

-- It stays where the field's areas are kept.
abbrev pub IsLocal : OfField → Type 0
IsLocal P = (m : Option ℕ) (b : Body) (c c' : Cell) → KeptAll (areas_of_body b) c c' → P m b c → P m b c'

-- It holds of all selected fields.
abbrev pub AllChosen : (Option ℕ → Bool) → OfField → Fields → Cell → Type 0
AllChosen chosen P fs c = (m : Option ℕ) (b : Body) → IsIn m b fs → chosen m ≡ true → P m b c

-- Areas that stand apart from all selected fields.
abbrev pub IsBeside : Option ℕ → (Option ℕ → Bool) → Fields → List Area → Type 0
IsBeside v chosen fs ys = (m : Option ℕ) (b : Body) → IsIn m b fs → chosen m ≡ true → MarkApart v m ys × Apart (areas_of_body b) ys

-- The selected fields are written in their order.
abbrev pub run : (Option ℕ → Bool) → (Option ℕ → Body → Edit) → Fields → Edit
run chosen op no_fields c = c
run chosen op (field n m b fs) c = run chosen op fs (edit_if (chosen m) (op m b) c)

module _ (s : Schema) (u v : Option ℕ) (chosen : Option ℕ → Bool) (one : (k j : ℕ) → chosen (Some k) ≡ true → chosen (Some j) ≡ true → (k == j) ≡ true) (op : Option ℕ → Body → Edit) (P Q : OfField) (P-local : IsLocal P) (Q-local : IsLocal Q) where
  -- what each write does
  abbrev pub Works : Fields → Type 0
  Works fs = (m : Option ℕ) (b : Body) → IsIn m b fs → chosen m ≡ true → (c : Cell) → P m b c
      → Q m b (op m b c) × ((ys : List Area) → MarkApart v m ys → Apart (areas_of_body b) ys → KeptAll ys c (op m b c))

  abbrev pub Runs : Fields → Cell → Type 0
  Runs fs c = AllChosen chosen Q fs (run chosen op fs c) × ((ys : List Area) → IsBeside v chosen fs ys → KeptAll ys c (run chosen op fs c))

  -- two selected fields stand apart
  two_apart : (m : Option ℕ) (x : Body) (fs : Fields) (k : Option ℕ) (b : Body) → is_apart_from m (areas_of_body x) fs ≡ true → IsNewMember m fs → chosen m ≡ true → IsIn k b fs → chosen k ≡ true → Apart (areas_of_body x) (areas_of_body b)
  two_apart None x fs k b h new c i c' = beside_in None x fs k b h i refl
  two_apart (Some m) x fs None b h new c i c' = beside_in (Some m) x fs None b h i refl
  two_apart (Some m) x fs (Some k) b h new c i c' = absurd (cc (one m k c c', other_member_in m fs k b new i))

  pub run_meets : (fs : Fields) → AreGood s u fs → fields_are_apart fs ≡ true → Apart (union_area v) (areas_of_fields fs) → Works fs → (c : Cell) → AllChosen chosen P fs c → Runs fs c
  unfolding areas_of has_no_overlap
  run_meets no_fields good apart off works c ready = ((λ m b i k. absurd i), (λ ys h. KeptAll-refl ys c))
  run_meets (field n m x fs) good apart off works c ready =
      let three = and_three (is_apart_from m (areas_of_body x) fs) (body_has_no_overlap x) (fields_are_apart fs) apart in
      by (chosen m) refl three.0 (front_of v (areas_of_body x) (areas_of_fields fs) off) (back_of v (areas_of_body x) (areas_of_fields fs) off)
      (λ d. run_meets fs good.4 three.2 (back_of v (areas_of_body x) (areas_of_fields fs) off) (λ k b i. works k b (inr i)) d)
    where
      by : (t : Bool) → chosen m ≡ t → is_apart_from m (areas_of_body x) fs ≡ true → Apart (union_area v) (areas_of_body x) → Apart (union_area v) (areas_of_fields fs)
          → ((d : Cell) → AllChosen chosen P fs d → Runs fs d)
          → AllChosen chosen Q (field n m x fs) (run chosen op fs (edit_if t (op m x) c)) × ((ys : List Area) → IsBeside v chosen (field n m x fs) ys → KeptAll ys c (run chosen op fs (edit_if t (op m x) c)))
      by false e beside here rest more =
          let d = more c (λ k b i. ready k b (inr i)) in (
            (λ k b i h. elim i [
              | inl f ↦ absurd (cc (e, h, f.0))
              | inr j ↦ d.0 k b j h
            ]),
            (λ ys h. d.1 ys (λ k b i. h k b (inr i))),
          )
      by true e beside here rest more =
          let w = works m x (inl (refl, refl)) e c (ready m x (inl (refl, refl)) e) in
          let moved : AllChosen chosen P fs (op m x c) =
          λ k b i h. P-local k b c (op m x c) (w.1 (areas_of_body b) (mark_apart v m (areas_of_body b) (off_union_in v fs k b rest i)) (two_apart m x fs k b beside good.2 e i h)) (ready k b (inr i) h) in
          let d = more (op m x c) moved in
          let kept : KeptAll (areas_of_body x) (op m x c) (run chosen op fs (op m x c)) =
          d.1 (areas_of_body x) (λ k b i h. (mark_apart v k (areas_of_body x) here, Apart-sym (areas_of_body x) (areas_of_body b) (two_apart m x fs k b beside good.2 e i h))) in (
            (λ k b i h. elim i [
              | inl f ↦ subst (λ z. Q z b (run chosen op fs (op m x c))) (sym f.0) (subst (λ z. Q m z (run chosen op fs (op m x c))) (sym f.1) (Q-local m x (op m x c) (run chosen op fs (op m x c)) kept w.0))
              | inr j ↦ d.0 k b j h
            ]),
            (λ ys h. let own = h m x (inl (refl, refl)) e in KeptAll-trans ys c (op m x c) (run chosen op fs (op m x c)) (w.1 ys own.0 own.1) (d.1 ys (λ k b i. h k b (inr i)))),
          )
