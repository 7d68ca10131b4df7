-- A number written into a list of plain elements.
use Rattle.std.proofs.Common.{◌≡◌, ℕ, zero, suc, ◌+◌, ◌-◌, ◌*◌, ◌/◌, ◌%◌, ◌^◌, ◌<◌, ◌≤◌, List, [], ◌∷◌, length, get_or, set, Option, Some, None, refl, ap, sym, ◌∙◌, subst, arith}
use Rattle.std.proofs.Math.Nat.{mod-lt}
use Rattle.std.proofs.lemmas.Nat.{pow_pos, pow-add, mod-pow-add}
use lib.Pow as pow
use Rattle.capnp_model.specs.Sections.{bits_at, with_bits, section_of, words_for}
use Rattle.capnp_model.specs.Segments.{Segments, Place, after, word_at, words_at}
use Rattle.capnp_model.specs.Pointers.{a_list}
use Rattle.capnp_model.specs.Trees.{plain_list, size_bits}
use Rattle.capnp_model.specs.Traversal.{tree_of, tree_at, of_bits, list_kind}
use Rattle.capnp_model.specs.Coverage.{span}
use Rattle.capnp_model.proofs.lemmas.Bits.{bits_at-with_bits, above}
use Rattle.capnp_model.proofs.lemmas.WordBits.{section_of-put, bits_at-section_of, written_in_low}
use Rattle.capnp_model_writes.specs.Footprints.{OwnsObject, object_footprint}
use Rattle.capnp_model_writes.specs.Changes.{ReplacesObject}
use Rattle.capnp_model_writes.specs.Writes.{spliced, with_words}
use Rattle.capnp_model_writes.proofs.lemmas.Algebra.{changes_nothing}
use Rattle.capnp_model_writes.proofs.lemmas.Spans.{held_in, held_is, not_there}
use Rattle.capnp_model_writes.proofs.lemmas.There.{words_there}
use Rattle.capnp_model_writes.proofs.lemmas.Splices.{spliced_one}
use Rattle.capnp_model_writes.proofs.lemmas.Writing.{plain_tree, plain_words}
use Rattle.capnp_model.proofs.lemmas.ReadFits.{words_length}
use Rattle.capnp_copy_arenas.proofs.lemmas.FieldLaws.{word_in}

-- ---- the sizes of plain elements

pub in_one_word : (size i w : ℕ) → w ≤ size_bits size → size_bits size * i % 64 + w ≤ 64
in_one_word zero i w l = omega (arith, l)
in_one_word (suc zero) i w l = omega (arith, l)
in_one_word (suc (suc zero)) i w l = omega (arith, l)
in_one_word (suc (suc (suc zero))) i w l = omega (arith, l)
in_one_word (suc (suc (suc (suc zero)))) i w l = omega (arith, l)
in_one_word (suc (suc (suc (suc (suc n))))) i w l = omega (arith, l)

pub in_list : (size i count w : ℕ) → w ≤ size_bits size → i < count → size_bits size * i + w ≤ size_bits size * count
in_list zero i count w l h = omega (arith, l, h)
in_list (suc zero) i count w l h = omega (arith, l, h)
in_list (suc (suc zero)) i count w l h = omega (arith, l, h)
in_list (suc (suc (suc zero))) i count w l h = omega (arith, l, h)
in_list (suc (suc (suc (suc zero)))) i count w l h = omega (arith, l, h)
in_list (suc (suc (suc (suc (suc n))))) i count w l h = omega (arith, l, h)

pub word_near : (size i : ℕ) → i < 2 ^ 32 → size_bits size * i / 64 < 2 ^ 32
word_near zero i h = omega (arith, h)
word_near (suc zero) i h = omega (arith, h)
word_near (suc (suc zero)) i h = omega (arith, h)
word_near (suc (suc (suc zero))) i h = omega (arith, h)
word_near (suc (suc (suc (suc zero)))) i h = omega (arith, h)
word_near (suc (suc (suc (suc (suc n))))) i h = omega (arith, h)

-- ---- sections of so many bits

regrouped : (h v l a b : ℕ) → h * (a * b) + (v * a + l) ≡ (h * b + v) * a + l
regrouped h v l a b = omega arith

pub low_bits : (at w v s : ℕ) → v < 2 ^ w → with_bits at w v s % 2 ^ (at + w) ≡ v * 2 ^ at + s % 2 ^ at
low_bits at w v s fits =
    let turned : at + w ≡ w + at = omega arith in
    let low : with_bits at w v s % 2 ^ at ≡ s % 2 ^ at = pow.low (s / 2 ^ (at + w) * 2 ^ w + v) at (mod-lt s (pow_pos at)) in
    ap (λ (m : ℕ). with_bits at w v s % 2 ^ m) turned
    ∙ mod-pow-add (with_bits at w v s) w at
    ∙ ap (λ (m : ℕ). m * 2 ^ at + with_bits at w v s % 2 ^ at) (bits_at-with_bits at w v s fits)
    ∙ ap (λ (m : ℕ). v * 2 ^ at + m) low

masked_by : (at w v s k : ℕ) → v < 2 ^ w → with_bits at w v s % 2 ^ (k + (at + w)) ≡ with_bits at w v (s % 2 ^ (k + (at + w)))
masked_by at w v s k fits =
    let h : ℕ = s / 2 ^ (at + w) % 2 ^ k in
    let turned : k + (at + w) ≡ (k + w) + at = omega arith in
    let high : s % 2 ^ (k + (at + w)) / 2 ^ (at + w) ≡ h = pow.field s k (at + w) in
    let low : s % 2 ^ (k + (at + w)) % 2 ^ at ≡ s % 2 ^ at = ap (λ (m : ℕ). s % 2 ^ m % 2 ^ at) turned ∙ pow.mod-mod-pow s (k + w) at in
    mod-pow-add (with_bits at w v s) k (at + w)
    ∙ ap (λ (m : ℕ). (m % 2 ^ k) * 2 ^ (at + w) + with_bits at w v s % 2 ^ (at + w)) (above at w v s fits)
    ∙ ap (λ (m : ℕ). h * 2 ^ (at + w) + m) (low_bits at w v s fits)
    ∙ ap (λ (m : ℕ). h * m + (v * 2 ^ at + s % 2 ^ at)) (pow-add 2 at w)
    ∙ regrouped h v (s % 2 ^ at) (2 ^ at) (2 ^ w)
    ∙ ap (λ (m : ℕ). (m * 2 ^ w + v) * 2 ^ at + s % 2 ^ at) (sym high)
    ∙ ap (λ (m : ℕ). (s % 2 ^ (k + (at + w)) / 2 ^ (at + w) * 2 ^ w + v) * 2 ^ at + m) (sym low)

masked_bits : (at w s m : ℕ) → at + w ≤ m → bits_at at w (s % 2 ^ m) ≡ bits_at at w s
masked_bits at w s m l =
    let e : ((m - (at + w)) + w) + at ≡ m = omega (arith, l) in
    subst (λ (j : ℕ). bits_at at w (s % 2 ^ j) ≡ bits_at at w s) e (ap (λ (x : ℕ). x % 2 ^ w) (pow.field s ((m - (at + w)) + w) at) ∙ pow.mod-mod-pow (s / 2 ^ at) (m - (at + w)) w)

-- ---- the words of a list

pub record PlainParts (s : Segments) (p : Place) (size count section : ℕ) : Type 0 where
  pub words : List ℕ
  pub there : words_at s p (words_for (size_bits size * count)) ≡ Some words
  pub section_is : section_of words % 2 ^ (size_bits size * count) ≡ section

pub plain_parts : (n : ℕ) (s : Segments) (p : Place) (size count section : ℕ) → list_kind size ≡ of_bits → tree_of s (tree_at n s) (a_list p size count) ≡ Some (plain_list size count section) → PlainParts s p size count section
plain_parts n s p size count section k means = by_cases (words_at s p (words_for (size_bits size * count))) refl
  where
    by_cases : (o : Option (List ℕ)) → words_at s p (words_for (size_bits size * count)) ≡ o → PlainParts s p size count section
    by_cases (Some ws) e =
        let same : Some (plain_list size count (section_of ws % 2 ^ (size_bits size * count))) ≡ Some (plain_list size count section) = sym (plain_tree n s p size count ws k e) ∙ means in
        record { words = ws; there = e; section_is = cc }
    by_cases None e =
        let none : tree_of s (tree_at n s) (a_list p size count) ≡ None = rw (k, e) refl in
        let both : Some (plain_list size count section) ≡ None = sym means ∙ none in
        absurd cc

pub no_plain_word : (n : ℕ) (s : Segments) (p : Place) (size count i section : ℕ) → list_kind size ≡ of_bits → i < words_for (size_bits size * count) → OwnsObject n s (a_list p size count) (plain_list size count section) → word_at s (after p i) ≡ None → ⊥
no_plain_word n s p size count i section k l o e =
    let x = plain_parts n s p size count section k o.means in
    let all : ℕ = words_for (size_bits size * count) in
    let one = held_in p all (after p i) refl (omega arith) (omega (arith, l)) in
    let y = words_there s (span p all ∷ []) (after p i) ((x.words, x.there), tt) (omega (arith, one, held_is p all [] (after p i))) in
    not_there s (after p i) y.0 y.1 e

pub set_plain : (n : ℕ) (s : Segments) (p : Place) (size count at width value word section : ℕ) → list_kind size ≡ of_bits → word_at s (after p (at / 64)) ≡ Some word → word < 2 ^ 64 → at + width ≤ size_bits size * count → at % 64 + width ≤ 64 → 0 < width → value < 2 ^ width → OwnsObject n s (a_list p size count) (plain_list size count section) → ReplacesObject n s (with_words s (after p (at / 64)) (with_bits (at % 64) width value word ∷ [])) (a_list p size count) (plain_list size count (with_bits at width value section))
set_plain n s p size count at width value word section k e small inside one_word some fits o =
    let x = plain_parts n s p size count section k o.means in
    let ws : List ℕ = x.words in
    let long : length ws ≡ words_for (size_bits size * count) = words_length s p (words_for (size_bits size * count)) ws x.there in
    let i : at / 64 < words_for (size_bits size * count) = omega (arith, inside, some) in
    let is : get_or ws (at / 64) 0 ≡ word = word_in s p (words_for (size_bits size * count)) (at / 64) word ws i x.there e in
    let room : at / 64 + length (with_bits (at % 64) width value word ∷ []) ≤ words_for (size_bits size * count) = omega (arith, i) in
    let r = plain_words n s p size count (at / 64) (plain_list size count section) (with_bits (at % 64) width value word ∷ []) ws k room x.there o in
    let put : section_of (spliced (at / 64) (with_bits (at % 64) width value word ∷ []) ws) ≡ with_bits at width value (section_of ws) =
    ap section_of (spliced_one (at / 64) (with_bits (at % 64) width value word) ws)
    ∙ ap (λ (w : ℕ). section_of (set ws (at / 64) (with_bits (at % 64) width value w))) (sym is)
    ∙ section_of-put ws (at / 64) (at % 64) width value fits (omega (arith, long, i)) one_word (omega (arith, is, small))
    ∙ ap (λ (m : ℕ). with_bits m width value (section_of ws)) (omega arith)
    in
    let now : section_of (spliced (at / 64) (with_bits (at % 64) width value word ∷ []) ws) % 2 ^ (size_bits size * count) ≡ with_bits at width value section =
    ap (λ (m : ℕ). m % 2 ^ (size_bits size * count)) put
    ∙ written_in_low at width value (section_of ws) (size_bits size * count) fits inside
    ∙ ap (λ (m : ℕ). with_bits at width value m) x.section_is
    in
    subst (λ (m : ℕ). ReplacesObject n s (with_words s (after p (at / 64)) (with_bits (at % 64) width value word ∷ [])) (a_list p size count) (plain_list size count m)) now r

pub get_plain : (n : ℕ) (s : Segments) (p : Place) (size count at width word section : ℕ) → list_kind size ≡ of_bits → word_at s (after p (at / 64)) ≡ Some word → at + width ≤ size_bits size * count → at % 64 + width ≤ 64 → 0 < width → OwnsObject n s (a_list p size count) (plain_list size count section) → bits_at (at % 64) width word ≡ bits_at at width section
get_plain n s p size count at width word section k e inside one_word some o =
    let x = plain_parts n s p size count section k o.means in
    let ws : List ℕ = x.words in
    let long : length ws ≡ words_for (size_bits size * count) = words_length s p (words_for (size_bits size * count)) ws x.there in
    let i : at / 64 < words_for (size_bits size * count) = omega (arith, inside, some) in
    let is : get_or ws (at / 64) 0 ≡ word = word_in s p (words_for (size_bits size * count)) (at / 64) word ws i x.there e in
    ap (λ (w : ℕ). bits_at (at % 64) width w) (sym is)
    ∙ sym (bits_at-section_of ws (at / 64) (at % 64) width (omega (arith, long, i)) one_word)
    ∙ ap (λ (m : ℕ). bits_at m width (section_of ws)) (omega arith)
    ∙ sym (masked_bits at width (section_of ws) (size_bits size * count) inside)
    ∙ ap (λ (m : ℕ). bits_at at width m) x.section_is

-- ---- no bits

pub no_bits : (at section : ℕ) → bits_at at 0 section ≡ 0
no_bits at section = omega arith

pub none_written : (at value section : ℕ) → value < 2 ^ 0 → with_bits at 0 value section ≡ section
none_written at value section l =
    let e : at + 0 ≡ at = omega arith in
    let none : value ≡ 0 = omega (arith, l) in
    let turned : section / 2 ^ (at + 0) ≡ section / 2 ^ at = ap (λ (m : ℕ). section / 2 ^ m) e in
    let all : section / 2 ^ at * 2 ^ at + section % 2 ^ at ≡ section = omega arith in
    ap (λ (m : ℕ). (m * 2 ^ 0 + value) * 2 ^ at + section % 2 ^ at) turned
    ∙ ap (λ (m : ℕ). (section / 2 ^ at * 2 ^ 0 + m) * 2 ^ at + section % 2 ^ at) none
    ∙ ap (λ (m : ℕ). m * 2 ^ at + section % 2 ^ at) (omega arith) ∙ all

pub same_list : (n : ℕ) (s : Segments) (p : Place) (size count at value section : ℕ) → value < 2 ^ 0 → OwnsObject n s (a_list p size count) (plain_list size count section) → ReplacesObject n s s (a_list p size count) (plain_list size count (with_bits at 0 value section))
same_list n s p size count at value section l o =
    subst (λ (m : ℕ). ReplacesObject n s s (a_list p size count) (plain_list size count m)) (sym (none_written at value section l))
    (record { means = o.means; changes = changes_nothing s (object_footprint n s (a_list p size count)) })
