-- A number written into a struct's data section.
use Rattle.std.proofs.Common.{◌≡◌, ℕ, zero, suc, Bool, false, not, eqb, bit_xor, ◌+◌, ◌-◌, ◌*◌, ◌/◌, ◌%◌, ◌^◌, ◌<◌, ◌≤◌, List, [], ◌∷◌, length, take, set, get_or, Some, None, refl, ap, sym, ◌∙◌, subst, arith, true}
use Rattle.std.specs.List.{slice_get}
use Rattle.std.specs.Option.{is_some}
use Rattle.std.specs.Bool.{beq}
use Rattle.std.proofs.lemmas.Option.{get_or_from_slice_get}
use Rattle.capnp_model.specs.Sections.{bits_at, with_bits, section_of}
use Rattle.capnp_model.specs.Segments.{Segments, Place, after, word_at, words_at}
use Rattle.capnp_model.specs.Pointers.{a_struct}
use Rattle.capnp_model.specs.Trees.{Trees, structure}
use Rattle.std.proofs.Math.Nat.{mod-mod, mod-lt}
use Rattle.std.proofs.lemmas.Nat.{pow_pos}
use Rattle.capnp_wire.specs.Views.{bit_of_bool}
use Rattle.capnp_model.proofs.lemmas.ReadFits.{words_length}
use Rattle.capnp_copy_arenas.specs.declared.fields.StructPlace.{StructPlace}
use Rattle.capnp_copy_arenas.specs.Structs.{SetsBits}
use Rattle.capnp_model.proofs.lemmas.WordBits.{section_of-put, bits_at-section_of}
use Rattle.capnp_model_writes.specs.Footprints.{OwnsObject}
use Rattle.capnp_model_writes.specs.Changes.{ReplacesObject}
use Rattle.capnp_model_writes.specs.Writes.{spliced, with_words}
use Rattle.capnp_model_writes.proofs.lemmas.Spans.{words_front, held_in, held_is, not_there}
use Rattle.capnp_model_writes.proofs.lemmas.There.{words_there}
use Rattle.capnp_model.specs.Coverage.{span}
use Rattle.capnp_model_writes.proofs.lemmas.Lift.{struct_parts}
use Rattle.capnp_model_writes.proofs.lemmas.Splices.{spliced_one}
use Rattle.capnp_model_writes.proofs.lemmas.Growing.{word_held}
use Rattle.capnp_model_writes.proofs.lemmas.Writing.{struct_words}
use Rattle.capnp_copy_arenas.proofs.lemmas.RoomLaws.{word_there, part_there}

pub word_in : (s : Segments) (p : Place) (d i w : ℕ) (ws : List ℕ) → i < d → words_at s p d ≡ Some ws → word_at s (after p i) ≡ Some w → get_or ws i 0 ≡ w
word_in s p d i w ws l e f =
    let one = held_in p d (after p i) refl (omega arith) (omega (arith, l)) in
    let same : p.position + i - p.position ≡ i = omega arith in
    get_or_from_slice_get ws i w 0 (ap (slice_get ws) (sym same) ∙ word_held s p d (after p i) w ws e f (omega (arith, one)))

pub set_field : (n : ℕ) (s : Segments) (p : Place) (d k at width value word section : ℕ) (kids : Trees) → word_at s (after p (at / 64)) ≡ Some word → word < 2 ^ 64 → at + width ≤ 64 * d → at + width ≤ at / 64 * 64 + 64 → 0 < width → value < 2 ^ width → OwnsObject n s (a_struct p d k) (structure d section kids) → ReplacesObject n s (with_words s (after p (at / 64)) (with_bits (at % 64) width value word ∷ [])) (a_struct p d k) (structure d (with_bits at width value section) kids)
set_field n s p d k at width value word section kids e small inside one_word some fits o =
    let x = (struct_parts n s p d k d section kids o.means).1 in
    let ws : List ℕ = take d x.words in
    let there : words_at s p d ≡ Some (take d x.words) = words_front s p d k x.words x.there in
    let long : length (take d x.words) ≡ d = words_length s p d (take d x.words) there in
    let i : at / 64 < d = omega (arith, inside, some) in
    let is : get_or (take d x.words) (at / 64) 0 ≡ word = word_in s p d (at / 64) word (take d x.words) i there e in
    let room : at / 64 + length (with_bits (at % 64) width value word ∷ []) ≤ d = omega (arith, i) in
    let r = struct_words n s p d k (at / 64) d section kids (with_bits (at % 64) width value word ∷ []) (take d x.words) room there o in
    let now : section_of (spliced (at / 64) (with_bits (at % 64) width value word ∷ []) (take d x.words)) ≡ with_bits at width value section =
    ap section_of (spliced_one (at / 64) (with_bits (at % 64) width value word) (take d x.words))
    ∙ ap (λ (w : ℕ). section_of (set (take d x.words) (at / 64) (with_bits (at % 64) width value w))) (sym is)
    ∙ section_of-put (take d x.words) (at / 64) (at % 64) width value fits (omega (arith, long, i)) (omega (arith, one_word)) (omega (arith, is, small))
    ∙ ap (λ (m : ℕ). with_bits m width value (section_of (take d x.words))) (omega arith)
    ∙ ap (λ (m : ℕ). with_bits at width value m) x.section_is
    in
    subst (λ (m : ℕ). ReplacesObject n s (with_words s (after p (at / 64)) (with_bits (at % 64) width value word ∷ [])) (a_struct p d k) (structure d m kids)) now r

-- the words of a struct are there
pub no_word : (n : ℕ) (s : Segments) (p : Place) (d k i w section : ℕ) (kids : Trees) → i < d → OwnsObject n s (a_struct p d k) (structure w section kids) → word_at s (after p i) ≡ None → ⊥
no_word n s p d k i w section kids l o e =
    let x = (struct_parts n s p d k w section kids o.means).1 in
    let one = held_in p (d + k) (after p i) refl (omega arith) (omega (arith, l)) in
    let y = words_there s (span p (d + k) ∷ []) (after p i) ((x.words, x.there), tt) (omega (arith, one, held_is p (d + k) [] (after p i))) in
    not_there s (after p i) y.0 y.1 e

pub no_word_there : (s : Segments) (p : Place) (i d : ℕ) → i < d → is_some (words_at s p d) ≡ true → word_at s (after p i) ≡ None → ⊥
no_word_there s p i d l there e =
    let o : is_some (word_at s (after p i)) ≡ true = word_there s (after p i) (part_there s p i d l there) in
    let none : is_some (word_at s (after p i)) ≡ false = ap is_some e in
    absurd (cc (o, none))

pub get_field : (n : ℕ) (s : Segments) (p : Place) (d k at width word section : ℕ) (kids : Trees) → word_at s (after p (at / 64)) ≡ Some word → at + width ≤ 64 * d → at + width ≤ at / 64 * 64 + 64 → 0 < width → OwnsObject n s (a_struct p d k) (structure d section kids) → bits_at (at % 64) width word ≡ bits_at at width section
get_field n s p d k at width word section kids e inside one_word some o =
    let x = (struct_parts n s p d k d section kids o.means).1 in
    let there : words_at s p d ≡ Some (take d x.words) = words_front s p d k x.words x.there in
    let long : length (take d x.words) ≡ d = words_length s p d (take d x.words) there in
    let i : at / 64 < d = omega (arith, inside, some) in
    let is : get_or (take d x.words) (at / 64) 0 ≡ word = word_in s p d (at / 64) word (take d x.words) i there e in
    ap (λ (w : ℕ). bits_at (at % 64) width w) (sym is)
    ∙ sym (bits_at-section_of (take d x.words) (at / 64) (at % 64) width (omega (arith, long, i)) (omega (arith, one_word)))
    ∙ ap (λ (m : ℕ). bits_at m width (section_of (take d x.words))) (omega arith)
    ∙ ap (λ (m : ℕ). bits_at at width m) x.section_is

pub bits_again : (at width section : ℕ) → bits_at 0 width (bits_at at width section) ≡ bits_at at width section
bits_again at width section =
    let one : (section / 2 ^ at % 2 ^ width) / 2 ^ 0 ≡ section / 2 ^ at % 2 ^ width = omega arith in
    ap (λ (m : ℕ). m % 2 ^ width) one ∙ mod-mod (section / 2 ^ at) (2 ^ width)

pub sets_alike : (s u : Segments) (p : StructPlace) (at width v w : ℕ) → v ≡ w → SetsBits s u p at width v → SetsBits s u p at width w
sets_alike s u p at width v w e h = subst (λ (x : ℕ). SetsBits s u p at width x) e h

pub masked_bit : (a b : Bool) → bit_of_bool (not (beq a b)) ≡ bit_xor (bit_of_bool a) (bit_of_bool b)
masked_bit true true = refl
masked_bit true false = refl
masked_bit false true = refl
masked_bit false false = refl

pub masked_back : (b : ℕ) (m : Bool) → b < 2 → not (beq (eqb b 1) m) ≡ eqb (bit_xor b (bit_of_bool m)) 1
masked_back zero true l = refl
masked_back zero false l = refl
masked_back (suc zero) true l = refl
masked_back (suc zero) false l = refl
masked_back (suc (suc b)) m l = absurd (omega (arith, l))
