-- Fields that are laid out one behind the other.
use Rattle.std.proofs.Common.{◌≡◌, ℕ, zero, suc, ◌+◌, ◌/◌, ◌<◌, ◌≤◌, Option, Some, None, List, [], ◌∷◌, ◌++◌, length, map, refl, ap, subst, ◌∙◌, arith, append_assoc, get_or, length-append, lit≤, le-leb}
use Rattle.std.specs.Prelude.{nat_le, if◌then◌else◌, Any}
use Rattle.capnp_source_layout.specs.Holes.{first_place, place, free}
use Rattle.capnp_source_layout.specs.Sections.{size_of, no_holes, offsets_from, words_behind, holes_behind, offsets_of, free_behind, fields_at}
use Rattle.capnp_source_layout.specs.declared.sections.DataSize.{DataSize}
use Rattle.capnp_source_layout.specs.declared.sections.DataSize.TheVariants as D
use Rattle.capnp_source_layout.proofs.Places.{takes}

-- as many holes as before
length_first : (words : ℕ) (holes : List (Option ℕ)) → length (first_place words holes).holes ≡ length holes
length_first words [] = refl
length_first words (Some h ∷ holes) = refl
length_first words (None ∷ holes) = ap suc (length_first words holes)

length_place : (size words : ℕ) (holes : List (Option ℕ)) → length (place size words holes).holes ≡ length holes
length_place zero words holes = length_first words holes
length_place (suc size) words [] = refl
length_place (suc size) words (o ∷ holes) = ap suc (length_place size words holes)

-- a size of at most a word
small : (size : DataSize) → size_of size ≤ 6
small D.Bit = lit≤ tt
small D.Byte = lit≤ tt
small D.TwoBytes = lit≤ tt
small D.FourBytes = lit≤ tt
small D.EightBytes = lit≤ tt

-- what was free is in a field or free
conserved : (sizes : List DataSize) (words : ℕ) (holes : List (Option ℕ)) (bit : ℕ) → length holes ≡ 6 → fields_at (map size_of sizes) (offsets_from words holes (map size_of sizes)) bit + free (words_behind words holes (map size_of sizes)) (holes_behind words holes (map size_of sizes)) bit ≡ free words holes bit
conserved [] words holes bit six = omega arith
conserved (size ∷ sizes) words holes bit six =
    let fits : size_of size ≤ length holes = omega (arith, small size) in
    let one = takes (size_of size) words holes bit fits in
    let others = conserved sizes (place (size_of size) words holes).words (place (size_of size) words holes).holes bit (length_place (size_of size) words holes ∙ six) in
    omega (arith, one, others)

-- every word is free where there is none yet
all_free : (word : ℕ) → ◌≡◌ {A = ℕ} (if nat_le 0 word then 1 else 0) 1
all_free word = ap (λ b. if b then 1 else 0) (le-leb 0 word (omega arith))

-- each bit of a new section is free
pub each_bit : (sizes : List DataSize) (bit : ℕ) → fields_at (map size_of sizes) (offsets_of sizes) bit + free_behind sizes bit ≡ 1
each_bit sizes bit = conserved sizes 0 no_holes bit refl ∙ (let free_once : free 0 no_holes bit ≡ 1 = omega (arith, all_free (bit / 2 / 2 / 2 / 2 / 2 / 2)) in free_once)

-- fields behind others leave them where they are
front : (sizes added : List DataSize) (words : ℕ) (holes : List (Option ℕ)) → (offsets : List ℕ) × (offsets_from words holes (map size_of (sizes ++ added)) ≡ offsets_from words holes (map size_of sizes) ++ offsets)
front [] added words holes = (offsets_from words holes (map size_of added), refl)
front (size ∷ sizes) added words holes =
    let placed = place (size_of size) words holes in
    let others = front sizes added placed.words placed.holes in
    (others.0, ap (λ l. placed.offset ∷ l) others.1)

pub keeps : (sizes added : List DataSize) → (offsets : List ℕ) × (offsets_of (sizes ++ added) ≡ offsets_of sizes ++ offsets)
keeps sizes added = front sizes added 0 no_holes

-- one more field
pub one_more : (made after : List ℕ) (words next_words : ℕ) (holes next_holes : List (Option ℕ)) (size offset : ℕ) (rest whole : List ℕ) → made ++ offsets_from words holes (size ∷ rest) ≡ whole → offset ≡ (place size words holes).offset → next_words ≡ (place size words holes).words → next_holes ≡ (place size words holes).holes → after ≡ made ++ offset ∷ [] → after ++ offsets_from next_words next_holes rest ≡ whole
one_more made after words next_words holes next_holes size offset rest whole before o w h e =
    let placed = place size words holes in
    let pushed : after ≡ made ++ placed.offset ∷ [] = e ∙ ap (λ n. made ++ n ∷ []) o in
    (λ i. pushed i ++ offsets_from (w i) (h i) rest) ∙ append_assoc made (placed.offset ∷ []) (offsets_from placed.words placed.holes rest) ∙ before

-- an element that stands between others
between : (made rest : List ℕ) (offset other : ℕ) → get_or (made ++ offset ∷ rest) (length made) other ≡ offset
between [] rest offset other = refl
between (x ∷ made) rest offset other = between made rest offset other

-- a large offset behind others
pub is_large : (made rest : List ℕ) (offset : ℕ) → 9223372036854775808 ≤ offset → Any (λ o. 9223372036854775808 ≤ o) (made ++ offset ∷ rest)
is_large made rest offset large = (length made, offset, omega (arith, length-append made (offset ∷ rest)), between made rest offset offset, large)

-- the offset of the first of the fields that are left
pub is_large_in : (made : List ℕ) (words : ℕ) (holes : List (Option ℕ)) (sizes : List DataSize) (other : DataSize) (log : ℕ) → 0 < length sizes → log ≡ size_of (get_or sizes 0 other) → 9223372036854775808 ≤ (place log words holes).offset → Any (λ o. 9223372036854775808 ≤ o) (made ++ offsets_from words holes (map size_of sizes))
is_large_in made words holes [] other log some is_log large = absurd (omega arith)
is_large_in made words holes (x ∷ sizes) other log some is_log large = is_large made _ _ (subst (λ n. 9223372036854775808 ≤ (place n words holes).offset) is_log large)
