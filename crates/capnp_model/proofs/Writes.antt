-- What a write to one field does to a struct's record.
use Rattle.std.proofs.Common.{◌≡◌, ℕ, ◌+◌, ◌^◌, ◌<◌, ◌≤◌, ◌==◌, ◌&&◌, List, [], ◌∷◌, Option, Some, None, Bool, true, false, nat_lt, nat_le, if◌then◌else◌, ◌⊎◌, inl, inr, refl, sym, ◌∙◌, ap, arith}
use Rattle.std.specs.Str.{bytes_eq}
use Rattle.capnp_model.proofs.lemmas.SoundShapes.{AllApart}
use Rattle.capnp_model.specs.Sections.{bits_at, with_bits}
use Rattle.capnp_model.specs.Schemas.{Fields, no_fields, field, Body}
use Rattle.capnp_model.specs.Readings.{Reading, entry, Extent, whole_words, just_bits, field_bits, is_active, only_if, shape_record, fields_of, body_of}
use Rattle.capnp_model.specs.Accepted.{Area, bit_area, pointer_area, share, areas_of_body}
use Rattle.capnp_model.specs.Steps.{choose, unless_member, replaced}
use Rattle.capnp_model.specs.Views.{View, SameAt, SameAll}
use Rattle.capnp_model.proofs.Views.{body_of-same}
use Rattle.capnp_model.proofs.lemmas.Bits.{bits_at-with_bits_below, bits_at-with_bits_above}
use Rattle.capnp_model.proofs.lemmas.Tests.{number_is}

-- ---- one field is written: the others read as before

-- the discriminant after a write to a field
abbrev pub discriminant_after : Option ℕ → Option ℕ → Option ℕ
discriminant_after None d = d
discriminant_after (Some k) d = Some k

-- another member has another value; another field is not touched
abbrev pub IsOther : Option ℕ → Option ℕ → Body → View → View → Type 0
IsOther (Some k) (Some m) body v v' = (m == k) ≡ false
IsOther (Some k) None body v v' = SameAll (areas_of_body body) v v'
IsOther None m body v v' = SameAll (areas_of_body body) v v'

abbrev pub AtField : Option ℕ → Reading → Bool → Option ℕ → Body → View → View → Type 0
AtField written x true member body v v' = (member ≡ written) × (body_of body v'.size v'.section v'.kids ≡ x)
AtField written x false member body v v' = IsOther written member body v v'

-- the named field reads as x, and each other field is another member or untouched
abbrev pub IsWritten : List ℕ → Option ℕ → Reading → Fields → View → View → Type 0
IsWritten n written x no_fields v v' = Unit {0}
IsWritten n written x (field m member body fs) v v' = AtField written x (bytes_eq m n) member body v v' × IsWritten n written x fs v v'

active_again : (member d : Option ℕ) → is_active member (discriminant_after member d) ≡ true
active_again None d = refl
active_again (Some k) d = number_is k

other_reads : (written member d : Option ℕ) (body : Body) (v v' : View) → IsOther written member body v v'
    → only_if (is_active member (discriminant_after written d)) (body_of body v'.size v'.section v'.kids)
    ≡ unless_member written member (only_if (is_active member d) (body_of body v.size v.section v.kids))
other_reads (Some k) (Some m) d body v v' h = ap (λ b. only_if b (body_of body v'.size v'.section v'.kids)) h
other_reads (Some k) None d body v v' h = sym (body_of-same body v v' h)
other_reads None None d body v v' h = sym (body_of-same body v v' h)
other_reads None (Some m) d body v v' h = ap (only_if (is_active (Some m) d)) (sym (body_of-same body v v' h))

at_field : (written d : Option ℕ) (x : Reading) (b : Bool) (member : Option ℕ) (body : Body) (v v' : View) → AtField written x b member body v v'
    → only_if (is_active member (discriminant_after written d)) (body_of body v'.size v'.section v'.kids)
    ≡ choose b x (unless_member written member (only_if (is_active member d) (body_of body v.size v.section v.kids)))
at_field written d x true member body v v' h =
    ap (λ m. only_if (is_active m (discriminant_after written d)) (body_of body v'.size v'.section v'.kids)) h.0
    ∙ ap (λ b. only_if b (body_of body v'.size v'.section v'.kids)) (active_again written d) ∙ h.1
at_field written d x false member body v v' h = other_reads written member d body v v' h

-- one write: the record with that field replaced
pub fields_of-replaced : (n : List ℕ) (written d : Option ℕ) (x : Reading) (fs : Fields) (v v' : View) → IsWritten n written x fs v v'
    → fields_of fs (discriminant_after written d) v'.size v'.section v'.kids ≡ replaced n written x fs (fields_of fs d v.size v.section v.kids)
unfolding shape_record
fields_of-replaced n written d x no_fields v v' h = refl
fields_of-replaced n written d x (field m member body fs) v v' h =
    let e = at_field written d x (bytes_eq m n) member body v v' h.0 in
    let e' = fields_of-replaced n written d x fs v v' h.1 in
    ap (λ r. entry m r (fields_of fs (discriminant_after written d) v'.size v'.section v'.kids)) e
    ∙ ap (entry m (choose (bytes_eq m n) x (unless_member written member (only_if (is_active member d) (body_of body v.size v.section v.kids))))) e'

-- ---- bits apart

-- two areas of bits that share none lie one behind the other
apart_bits : (a n at w : ℕ) → share (bit_area a n) (bit_area at w) ≡ false → (at + w ≤ a) ⊎ (a + n ≤ at)
apart_bits a n at w h = by_order (nat_lt a (at + w)) (nat_lt at (a + n)) refl refl h
  where
    by_order : (b c : Bool) → nat_lt a (at + w) ≡ b → nat_lt at (a + n) ≡ c → (b && c) ≡ false → (at + w ≤ a) ⊎ (a + n ≤ at)
    by_order false c e e' h = inl (grind arith)
    by_order true false e e' h = inr (grind arith)
    by_order true true e e' h = absurd (cc h)

-- the view after a write of bits
abbrev pub with_bits_in : ℕ → ℕ → ℕ → View → View
with_bits_in at w x v = record { size = v.size; section = with_bits at w x v.section; kids = v.kids }

field_bits_if_same : (size : Extent) (a n section section' : ℕ) → bits_at a n section ≡ bits_at a n section' → field_bits size section a n ≡ field_bits size section' a n
field_bits_if_same whole_words a n section section' e = e
field_bits_if_same (just_bits k) a n section section' e = ap (λ z. if nat_le (a + n) k then z else 0) e

pub same_bits_if_apart : (at w x a n section : ℕ) → x < 2 ^ w → share (bit_area a n) (bit_area at w) ≡ false → bits_at a n section ≡ bits_at a n (with_bits at w x section)
same_bits_if_apart at w x a n section fits h = by_side (apart_bits a n at w h)
  where
    by_side : (at + w ≤ a) ⊎ (a + n ≤ at) → bits_at a n section ≡ bits_at a n (with_bits at w x section)
    by_side = elim [
      | inl above ↦ sym (bits_at-with_bits_below at w x section a n fits above)
      | inr under ↦ sym (bits_at-with_bits_above at w x section a n under)
    ]

same_if_apart : (at w x : ℕ) (v : View) → x < 2 ^ w → (y : Area) → share y (bit_area at w) ≡ false → SameAt y v (with_bits_in at w x v)
same_if_apart at w x v fits (bit_area a n) h = field_bits_if_same v.size a n _ _ (same_bits_if_apart at w x a n v.section fits h)
same_if_apart at w x v fits (pointer_area i) h = λ ty. refl

pub same_all_if_apart : (at w x : ℕ) (v : View) → x < 2 ^ w → (ys : List Area) → AllApart (bit_area at w) ys → SameAll ys v (with_bits_in at w x v)
same_all_if_apart at w x v fits [] h = tt
same_all_if_apart at w x v fits (y ∷ ys) h = (same_if_apart at w x v fits y h.0, same_all_if_apart at w x v fits ys h.1)
