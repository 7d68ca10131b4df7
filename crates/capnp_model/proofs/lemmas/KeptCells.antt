-- What a change of a data section and children leaves as it was.
use Rattle.std.proofs.Common.{◌≡◌, ℕ, zero, suc, ◌^◌, ◌<◌, ◌==◌, Bool, true, false, not, ◌&&◌, ◌||◌, List, [], ◌∷◌, ◌++◌, Option, Some, None, refl, sym, ◌∙◌, ap, subst, arith}
use Rattle.std.specs.Str.{bytes_eq}
use Rattle.capnp_model.specs.Sections.{bits_at}
use Rattle.capnp_model.specs.Trees.{Tree, Trees, none, ◌▸◌, child, with_child}
use Rattle.capnp_model.specs.Schemas.{Ty, Shape, shape, Fields, no_fields, field, Body, void_slot, plain_slot, pointer_slot, group_slot, Schema}
use Rattle.capnp_model.specs.Readings.{Reading, whole_words, discriminant, is_active, read, read_child, body_of}
use Rattle.capnp_model.specs.Accepted.{Area, bit_area, pointer_area, union_area, areas_of, areas_of_fields, areas_of_body}
use Rattle.capnp_model.specs.Edits.{Cell, mark, put_bits, put_child}
use Rattle.capnp_model.specs.InKind.{in_kind, child_in_kind, fields_in_kind, body_in_kind, shape_in_kind}
use Rattle.capnp_model.specs.Views.{SameAll}
use Rattle.capnp_model.proofs.lemmas.SoundShapes.{AllApart, MarkApart, HasPlace, Apart, IsApartFrom, AtName, IsAlone}
use Rattle.capnp_model.proofs.Writes.{discriminant_after, same_bits_if_apart}
use Rattle.capnp_model.proofs.lemmas.Marks.{view_of}
use Rattle.capnp_model.proofs.lemmas.Paths.{IsDone, read_child-is}
use Rattle.capnp_model.proofs.lemmas.Tests.{both, or_right, and_left, and_right}

-- The bits or the child of an area are the same.
abbrev pub KeptAt : Area → Cell → Cell → Type 0
KeptAt (bit_area a n) c c' = bits_at a n c.section ≡ bits_at a n c'.section
KeptAt (pointer_area i) c c' = child c.kids i ≡ child c'.kids i

-- Each of the areas.
abbrev pub KeptAll : List Area → Cell → Cell → Type 0
KeptAll [] c c' = Unit {0}
KeptAll (x ∷ xs) c c' = KeptAt x c c' × KeptAll xs c c'

pub KeptAll-refl : (ys : List Area) (c : Cell) → KeptAll ys c c
KeptAll-refl [] c = tt
KeptAll-refl (bit_area a n ∷ ys) c = (refl, KeptAll-refl ys c)
KeptAll-refl (pointer_area i ∷ ys) c = (refl, KeptAll-refl ys c)

pub KeptAll-trans : (ys : List Area) (a b c : Cell) → KeptAll ys a b → KeptAll ys b c → KeptAll ys a c
KeptAll-trans [] a b c h k = tt
KeptAll-trans (bit_area x n ∷ ys) a b c h k = (h.0 ∙ k.0, KeptAll-trans ys a b c h.1 k.1)
KeptAll-trans (pointer_area i ∷ ys) a b c h k = (h.0 ∙ k.0, KeptAll-trans ys a b c h.1 k.1)

pub KeptAll-left : (xs ys : List Area) (c c' : Cell) → KeptAll (xs ++ ys) c c' → KeptAll xs c c'
KeptAll-left [] ys c c' h = tt
KeptAll-left (x ∷ xs) ys c c' h = (h.0, KeptAll-left xs ys c c' h.1)

pub KeptAll-right : (xs ys : List Area) (c c' : Cell) → KeptAll (xs ++ ys) c c' → KeptAll ys c c'
KeptAll-right [] ys c c' h = h
KeptAll-right (x ∷ xs) ys c c' h = KeptAll-right xs ys c c' h.1

-- what is kept reads as before
pub kept_views : (s : Schema) (ys : List Area) (c c' : Cell) → KeptAll ys c c' → SameAll ys (view_of s c) (view_of s c')
kept_views s [] c c' h = tt
kept_views s (bit_area a n ∷ ys) c c' h = (h.0, kept_views s ys c c' h.1)
kept_views s (pointer_area i ∷ ys) c c' h =
    ((λ ty. read_child-is s c.kids i ty ∙ ap (λ t. read s t ty) h.0 ∙ sym (read_child-is s c'.kids i ty)), kept_views s ys c c' h.1)

-- ---- single writes

pub child-with_child : (ts : Trees) (i : ℕ) (t : Tree) → child (with_child ts i t) i ≡ t
child-with_child none zero t = refl
child-with_child none (suc i) t = child-with_child none i t
child-with_child (u ▸ ts) zero t = refl
child-with_child (u ▸ ts) (suc i) t = child-with_child ts i t

less : (j i : ℕ) → (suc j == suc i) ≡ false → (j == i) ≡ false
less j i h = grind arith

child-with_other : (ts : Trees) (j i : ℕ) (t : Tree) → (j == i) ≡ false → child ts j ≡ child (with_child ts i t) j
child-with_other none zero zero t h = absurd (cc h)
child-with_other none zero (suc i) t h = refl
child-with_other none (suc j) zero t h = refl
child-with_other none (suc j) (suc i) t h = child-with_other none j i t (less j i h)
child-with_other (u ▸ ts) zero zero t h = absurd (cc h)
child-with_other (u ▸ ts) zero (suc i) t h = refl
child-with_other (u ▸ ts) (suc j) zero t h = refl
child-with_other (u ▸ ts) (suc j) (suc i) t h = child-with_other ts j i t (less j i h)

pub kept_if_put : (c : Cell) (i : ℕ) (t : Tree) (ys : List Area) → AllApart (pointer_area i) ys → KeptAll ys c (put_child i t c)
kept_if_put c i t [] h = tt
kept_if_put c i t (bit_area a n ∷ ys) h = (refl, kept_if_put c i t ys h.1)
kept_if_put c i t (pointer_area j ∷ ys) h = (child-with_other c.kids j i t h.0, kept_if_put c i t ys h.1)

pub kept_if_written : (c : Cell) (at w x : ℕ) → x < 2 ^ w → (ys : List Area) → AllApart (bit_area at w) ys → KeptAll ys c (put_bits at w x c)
kept_if_written c at w x fits [] h = tt
kept_if_written c at w x fits (bit_area a n ∷ ys) h = (same_bits_if_apart at w x a n c.section fits h.0, kept_if_written c at w x fits ys h.1)
kept_if_written c at w x fits (pointer_area i ∷ ys) h = (refl, kept_if_written c at w x fits ys h.1)

pub kept_if_marked : (u member : Option ℕ) (c : Cell) → HasPlace u member whole_words → (ys : List Area) → MarkApart u member ys → KeptAll ys c (mark u member c)
kept_if_marked (Some at) (Some k) c place ys h = kept_if_written c at 16 k place.1 ys h
kept_if_marked (Some at) None c place ys h = KeptAll-refl ys c
kept_if_marked None member c place ys h = KeptAll-refl ys c

-- ---- lists in kind

pub child_in_kind-is : (s : Schema) (ts : Trees) (i : ℕ) (ty : Ty) → child_in_kind s ts i ty ≡ in_kind s (child ts i) ty
unfolding in_kind
child_in_kind-is s none i ty = refl
child_in_kind-is s (t ▸ ts) zero ty = refl
child_in_kind-is s (t ▸ ts) (suc i) ty = child_in_kind-is s ts i ty

pub discriminant-kept : (u : Option ℕ) (c c' : Cell) → KeptAll (union_area u) c c' → discriminant u whole_words c.section ≡ discriminant u whole_words c'.section
discriminant-kept None c c' h = refl
discriminant-kept (Some at) c c' h = ap Some h.0

mutual
  unfolding fields_in_kind areas_of

  pub shape_in_kind-kept : (s : Schema) (g : Shape) (c c' : Cell) → KeptAll (areas_of g) c c' → shape_in_kind g c.section (child_in_kind s c.kids) ≡ shape_in_kind g c'.section (child_in_kind s c'.kids)
  shape_in_kind-kept s (shape nid w p u fs) c c' h =
      fields_in_kind-kept s fs (discriminant u whole_words c.section) c c' (KeptAll-right (union_area u) (areas_of_fields fs) c c' h)
      ∙ ap (λ d. fields_in_kind fs d c'.section (child_in_kind s c'.kids)) (discriminant-kept u c c' (KeptAll-left (union_area u) (areas_of_fields fs) c c' h))

  pub fields_in_kind-kept : (s : Schema) (fs : Fields) (d : Option ℕ) (c c' : Cell) → KeptAll (areas_of_fields fs) c c' → fields_in_kind fs d c.section (child_in_kind s c.kids) ≡ fields_in_kind fs d c'.section (child_in_kind s c'.kids)
  fields_in_kind-kept s no_fields d c c' h = refl
  fields_in_kind-kept s (field n m b fs) d c c' h =
      ap (λ z. (not (is_active m d) || z) && fields_in_kind fs d c.section (child_in_kind s c.kids)) (body_in_kind-kept s b c c' (KeptAll-left (areas_of_body b) (areas_of_fields fs) c c' h))
      ∙ ap (λ z. (not (is_active m d) || body_in_kind b c'.section (child_in_kind s c'.kids)) && z) (fields_in_kind-kept s fs d c c' (KeptAll-right (areas_of_body b) (areas_of_fields fs) c c' h))

  pub body_in_kind-kept : (s : Schema) (b : Body) (c c' : Cell) → KeptAll (areas_of_body b) c c' → body_in_kind b c.section (child_in_kind s c.kids) ≡ body_in_kind b c'.section (child_in_kind s c'.kids)
  body_in_kind-kept s (void_slot j) c c' h = refl
  body_in_kind-kept s (plain_slot p at d) c c' h = refl
  body_in_kind-kept s (pointer_slot i ty d) c c' h = child_in_kind-is s c.kids i ty ∙ ap (λ t. in_kind s t ty) h.0 ∙ sym (child_in_kind-is s c'.kids i ty)
  body_in_kind-kept s (group_slot g) c c' h = shape_in_kind-kept s g c c' h

-- ---- what a write of a field owes

pub record IsPut (s : Schema) (u member : Option ℕ) (body : Body) (c c' : Cell) (r : Reading) : Type 0 where
  pub reads : body_of body whole_words c'.section (read_child s c'.kids) ≡ r
  pub keeps : (ys : List Area) → MarkApart u member ys → Apart (areas_of_body body) ys → KeptAll ys c c'
  pub marks : discriminant u whole_words c'.section ≡ discriminant_after member (discriminant u whole_words c.section)
  pub kinds : body_in_kind body c'.section (child_in_kind s c'.kids) ≡ true

pub is_done : (s : Schema) (u member : Option ℕ) (body : Body) (c c' : Cell) (r : Reading) → IsPut s u member body c c' r → IsDone s u member body c c' r
is_done s u member body c c' r d = record { reads = d.reads; keeps = λ ys h k. kept_views s ys c c' (d.keeps ys h k); marks = d.marks }

module _ (s : Schema) (u member : Option ℕ) (body : Body) (c c' : Cell) (r : Reading) (d : IsPut s u member body c c' r) where
  other_in_kind : (written m : Option ℕ) (other : Body) (e : Option ℕ) → member ≡ written → IsApartFrom u written body m other
      → (not (is_active m e) || body_in_kind other c.section (child_in_kind s c.kids)) ≡ true
      → (not (is_active m (discriminant_after written e)) || body_in_kind other c'.section (child_in_kind s c'.kids)) ≡ true
  other_in_kind (Some k) (Some m) other e is h old = ap (λ z. not z || body_in_kind other c'.section (child_in_kind s c'.kids)) h
  other_in_kind (Some k) None other e is h old =
      let kept = d.keeps (areas_of_body other) (subst (λ z. MarkApart u z (areas_of_body other)) (sym is) h.0) h.1 in
      ap (λ z. not (is_active None e) || z) (sym (body_in_kind-kept s other c c' kept)) ∙ old
  other_in_kind None m other e is h old =
      let kept = d.keeps (areas_of_body other) (subst (λ z. MarkApart u z (areas_of_body other)) (sym is) h.0) h.1 in
      ap (λ z. not (is_active m e) || z) (sym (body_in_kind-kept s other c c' kept)) ∙ old

  at_in_kind : (b : Bool) (m : Option ℕ) (other : Body) (e : Option ℕ) → AtName u member body b m other
      → (not (is_active m e) || body_in_kind other c.section (child_in_kind s c.kids)) ≡ true
      → (not (is_active m (discriminant_after member e)) || body_in_kind other c'.section (child_in_kind s c'.kids)) ≡ true
  at_in_kind true m other e h old = or_right (not (is_active m (discriminant_after member e))) _ (ap (λ z. body_in_kind z c'.section (child_in_kind s c'.kids)) h.1 ∙ d.kinds)
  at_in_kind false m other e h old = other_in_kind member m other e refl h old

  -- the fields are in kind after the write
  pub fields_stay_in_kind : (n : List ℕ) (fs : Fields) (e : Option ℕ) → IsAlone n u member body fs → fields_in_kind fs e c.section (child_in_kind s c.kids) ≡ true
      → fields_in_kind fs (discriminant_after member e) c'.section (child_in_kind s c'.kids) ≡ true
  unfolding fields_in_kind
  fields_stay_in_kind n no_fields e h old = refl
  fields_stay_in_kind n (field l m other fs) e h old =
      let here = not (is_active m e) || body_in_kind other c.section (child_in_kind s c.kids) in
      let rest = fields_in_kind fs e c.section (child_in_kind s c.kids) in
      both _ _ (at_in_kind (bytes_eq l n) m other e h.0 (and_left here rest old)) (fields_stay_in_kind n fs e h.1 (and_right here rest old))
