-- What a write of a discriminant does to what a struct reads.
use Rattle.std.proofs.Common.{◌≡◌, ℕ, ◌+◌, ◌^◌, ◌<◌, ◌≤◌, zero, suc, List, [], ◌∷◌, Option, Some, None, Bool, true, nat_le, if◌then◌else◌, refl, ◌∙◌, ap, arith}
use Rattle.capnp_model.proofs.lemmas.SoundShapes.{MarkApart, IsInside, HasPlace}
use Rattle.capnp_model.specs.Trees.{Trees, none, ◌▸◌, padded_to}
use Rattle.capnp_model.specs.Sections.{bits_at, with_bits}
use Rattle.capnp_model.specs.Schemas.{Ty, Schema}
use Rattle.capnp_model.specs.Readings.{Extent, whole_words, just_bits, field_bits, read, read_child}
use Rattle.capnp_model.specs.Accepted.{Area, bit_area, pointer_area}
use Rattle.capnp_model.specs.Edits.{Cell, mark}
use Rattle.capnp_model.specs.Views.{View, SameAll}
use Rattle.capnp_model.proofs.lemmas.Bits.{bits_at-with_bits}
use Rattle.capnp_model.proofs.Writes.{with_bits_in, same_all_if_apart}

-- ---- the view after the write

abbrev pub mark_in : Option ℕ → Option ℕ → View → View
mark_in (Some at) (Some member) v = with_bits_in at 16 member v
mark_in (Some at) None v = v
mark_in None member v = v

pub SameAll-trans : (ys : List Area) (u v w : View) → SameAll ys u v → SameAll ys v w → SameAll ys u w
SameAll-trans [] u v w h k = tt
SameAll-trans (bit_area a n ∷ ys) u v w h k = (h.0 ∙ k.0, SameAll-trans ys u v w h.1 k.1)
SameAll-trans (pointer_area i ∷ ys) u v w h k = ((λ ty. h.0 ty ∙ k.0 ty), SameAll-trans ys u v w h.1 k.1)

pub SameAll-refl : (ys : List Area) (v : View) → SameAll ys v v
SameAll-refl [] v = tt
SameAll-refl (bit_area a n ∷ ys) v = (refl, SameAll-refl ys v)
SameAll-refl (pointer_area i ∷ ys) v = ((λ ty. refl), SameAll-refl ys v)

pub same_after_mark : (u member : Option ℕ) (v : View) (size : Extent) → HasPlace u member size → (ys : List Area) → MarkApart u member ys → SameAll ys v (mark_in u member v)
same_after_mark (Some at) (Some k) v size place ys h = same_all_if_apart at 16 k v place.1 ys h
same_after_mark (Some at) None v size place ys h = SameAll-refl ys v
same_after_mark None member v size place ys h = SameAll-refl ys v

pub in_size : (a size : ℕ) → a ≤ size → nat_le a size ≡ true
in_size a size h = grind arith

field_is : (size : Extent) (at w section : ℕ) → IsInside size (at + w) → field_bits size section at w ≡ bits_at at w section
field_is whole_words at w section inside = refl
field_is (just_bits k) at w section inside = ap (λ (b : Bool). if b then bits_at at w section else 0) (in_size (at + w) k inside)

pub read_back : (at w x : ℕ) (v : View) → x < 2 ^ w → IsInside v.size (at + w) → field_bits v.size (with_bits at w x v.section) at w ≡ x
read_back at w x v fits inside = field_is v.size at w _ inside ∙ bits_at-with_bits at w x v.section fits

-- ---- the tree

-- nulls behind the children read as what is past the end
pub read_child-padded_to : (s : Schema) (p : ℕ) (ts : Trees) (i : ℕ) (ty : Ty) → read_child s (padded_to p ts) i ty ≡ read_child s ts i ty
unfolding read
read_child-padded_to s zero ts i ty = refl
read_child-padded_to s (suc p) none zero ty = refl
read_child-padded_to s (suc p) none (suc i) ty = read_child-padded_to s p none i ty
read_child-padded_to s (suc p) (t ▸ ts) zero ty = refl
read_child-padded_to s (suc p) (t ▸ ts) (suc i) ty = read_child-padded_to s p ts i ty

abbrev pub view_of : Schema → Cell → View
view_of s c = record { size = whole_words; section = c.section; kids = read_child s c.kids }

pub same_everywhere : (ys : List Area) (v v' : View) → v.size ≡ v'.size → v.section ≡ v'.section → ((i : ℕ) (ty : Ty) → v.kids i ty ≡ v'.kids i ty) → SameAll ys v v'
same_everywhere [] v v' e e' h = tt
same_everywhere (bit_area a n ∷ ys) v v' e e' h = (cc, same_everywhere ys v v' e e' h)
same_everywhere (pointer_area i ∷ ys) v v' e e' h = ((λ ty. h i ty), same_everywhere ys v v' e e' h)

-- the marked cell reads as the marked view
pub marked_view : (s : Schema) (u member : Option ℕ) (c : Cell) → view_of s (mark u member c) ≡ mark_in u member (view_of s c)
marked_view s (Some at) (Some k) c = refl
marked_view s (Some at) None c = refl
marked_view s None member c = refl
