-- What is handed out of a section.
use Rattle.std.proofs.Common.{◌≡◌, ℕ, zero, suc, ◌+◌, ◌*◌, ◌/◌, ◌^◌, ◌<◌, ◌≤◌, Option, Some, None, List, [], ◌∷◌, length, get_or, set, sym, refl, ap, subst, ◌∙◌, arith, add-one}
use Rattle.std.specs.Prelude.{◌==◌, nat_le, if◌then◌else◌, IfNone}
use Rattle.std.proofs.lemmas.Grind.{common_steps}
use Rattle.std.proofs.lemmas.Nat.{shr-shr}
use Rattle.std.proofs.Math.Nat.{div-one}
use Rattle.capnp_source_layout.specs.Holes.{Placed, first_place, place, free}

-- a place of twice the size is its two halves
halves : (p t : ℕ) → (if (p / 2) == t then 1 else 0) ≡ (if p == (2 * t) then 1 else 0) + (if p == (2 * t + 1) then 1 else 0)
halves p t = grind (arith, common_steps)

-- a word that is added was behind the section
word : (words p : ℕ) → (if nat_le words p then 1 else 0) ≡ (if p == words then 1 else 0) + (if nat_le (words + 1) p then 1 else 0)
word words p = grind (arith, common_steps)

-- the law at the first size
first_takes : (words : ℕ) (holes : List (Option ℕ)) (p : ℕ) → free words holes p ≡ (if p == (first_place words holes).offset then 1 else 0) + free (first_place words holes).words (first_place words holes).holes p
first_takes words [] p = word words p
first_takes words (Some h ∷ holes) p = omega arith
first_takes words (None ∷ holes) p =
    let before = first_takes words holes (p / 2) in
    omega (arith, before, halves p (first_place words holes).offset)

-- the law
pub takes : (size words : ℕ) (holes : List (Option ℕ)) (bit : ℕ) → size ≤ length holes → free words holes bit ≡ (if (bit / 2 ^ size) == (place size words holes).offset then 1 else 0) + free (place size words holes).words (place size words holes).holes bit
takes zero words holes bit h = rw (div-one) (first_takes words holes bit)
takes (suc size) words [] bit h = absurd (omega arith)
takes (suc size) words (o ∷ holes) bit h =
    let before = takes size words holes (bit / 2) (omega arith) in
    let next : suc size ≡ 1 + size = omega arith in
    let halved : bit / 2 ^ suc size ≡ bit / 2 / 2 ^ size = ap (λ n. bit / 2 ^ n) next ∙ sym (shr-shr bit 1 size) in
    rw halved (omega (arith, before))

-- behind the largest holes a word is added
pub place_end : (size words : ℕ) (holes : List (Option ℕ)) → length holes ≤ size → place size words holes ≡ record { offset = words; words = words + 1; holes = holes }
place_end zero words [] h = refl
place_end zero words (o ∷ holes) h = absurd (omega arith)
place_end (suc size) words [] h = refl
place_end (suc size) words (o ∷ holes) h = ap (λ (p : Placed). record { offset = p.offset; words = p.words; holes = o ∷ p.holes }) (place_end size words holes (omega arith))

-- a hole is handed out
pub place_hole : (size words : ℕ) (holes : List (Option ℕ)) (hole : ℕ) → size < length holes → get_or holes size None ≡ Some hole → place size words holes ≡ record { offset = hole; words = words; holes = set holes size None }
place_hole size words [] hole h e = absurd (omega arith)
place_hole zero words (o ∷ holes) hole h e = subst (λ (x : Option ℕ). first_place words (x ∷ holes) ≡ record { offset = hole; words = words; holes = None ∷ holes }) (sym e) refl
place_hole (suc size) words (o ∷ holes) hole h e = ap (λ (p : Placed). record { offset = p.offset; words = p.words; holes = o ∷ p.holes }) (place_hole size words holes hole (omega arith) e)

-- the other half of a place of twice the size becomes a hole
pub place_half : (size words : ℕ) (holes : List (Option ℕ)) → size < length holes → get_or holes size None ≡ None → place size words holes ≡ (let twice = place (suc size) words holes in record { offset = 2 * twice.offset; words = twice.words; holes = set twice.holes size (Some (2 * twice.offset + 1)) })
place_half size words [] h e = absurd (omega arith)
place_half zero words (o ∷ holes) h e =
    let twice = first_place words holes in
    subst (λ (x : Option ℕ). first_place words (x ∷ holes) ≡ record { offset = 2 * twice.offset; words = twice.words; holes = Some (2 * twice.offset + 1) ∷ twice.holes }) (sym e) refl
place_half (suc size) words (o ∷ holes) h e = ap (λ (p : Placed). record { offset = p.offset; words = p.words; holes = o ∷ p.holes }) (place_half size words holes (omega arith) e)

-- the same of what is handed out of the next size
pub place_half_next : (size words : ℕ) (holes : List (Option ℕ)) → size < length holes → get_or holes size None ≡ None → place size words holes ≡ (let twice = place (size + 1) words holes in record { offset = 2 * twice.offset; words = twice.words; holes = set twice.holes size (Some (2 * twice.offset + 1)) })
place_half_next size words holes h e = rw add-one (place_half size words holes h e)

-- where the count of words is full, the offset is large
pub large_end : (size words : ℕ) (holes : List (Option ℕ)) → length holes ≤ size → (words + 1 < 18446744073709551616 → ⊥) → 9223372036854775808 ≤ (place size words holes).offset
large_end size words holes h full = subst (λ (p : Placed). 9223372036854775808 ≤ p.offset) (sym (place_end size words holes h)) (omega arith)

-- it is where that of twice the size is
pub large_half : (size words : ℕ) (holes : List (Option ℕ)) → size < length holes → get_or holes size None ≡ None → 9223372036854775808 ≤ (place (size + 1) words holes).offset → 9223372036854775808 ≤ (place size words holes).offset
large_half size words holes h e large = omega (arith, ap (λ (p : Placed). p.offset) (place_half_next size words holes h e))

-- a fact of nothing
pub if_none : (r : Option ℕ) (P : Type 0) → r ≡ None → P → IfNone r P
if_none r P e p = subst (λ x. IfNone x P) (sym e) p
