-- Bytes of lists of bytes, read and written in place.
use Rattle.std.proofs.Common.{◌≡◌, ℕ, zero, suc, ◌+◌, ◌-◌, ◌*◌, ◌/◌, ◌%◌, ◌^◌, ◌<◌, ◌≤◌, List, [], ◌∷◌, length, get_or, take, drop, replicate, Some, None, refl, ap, sym, ◌∙◌, subst, arith, true}
use Rattle.std.specs.Option.{is_some}
use Rattle.std.proofs.Math.Nat.{mod-lt, zero-div}
use Rattle.std.proofs.Math.Pow.{pow_mono}
use Rattle.std.proofs.lemmas.List.{take_all, take_rest, length-take-le, length-drop, length-replicate, take-replicate, drop-replicate}
use Rattle.std.proofs.lemmas.Nat.{pow_pos, pow-add, mod-pow-add, shr-shr, div-add-mod'}
use lib.Pow as pow
use Rattle.capnp_model.specs.Bytes.{words_in_bytes, AreBytes}
use Rattle.capnp_model.specs.Sections.{numbers_in, number_of, section_of, words_for, bits_at, with_bits}
use Rattle.capnp_model.specs.Segments.{Segments, Place, after, word_at, words_at}
use Rattle.capnp_model.specs.Pointers.{a_list}
use Rattle.capnp_model.specs.Trees.{plain_list}
use Rattle.capnp_model.proofs.lemmas.Bits.{above}
use Rattle.capnp_model.proofs.lemmas.Numbers.{number_of_lt}
use Rattle.capnp_wire_objects.specs.declared.place.Place as code
use Rattle.capnp_wire_objects.proofs.lemmas.Words.{whole_words-length}
use Rattle.capnp_wire_objects.specs.Places.{place_view}
use Rattle.capnp_wire.specs.Views.{section_in, section_at}
use Rattle.capnp_wire.proofs.lemmas.Bytes.{number_of-take, number_of-drop}
use Rattle.capnp_wire.proofs.lemmas.ListLaws.{numbers_low}
use Rattle.capnp_model_writes.specs.Changes.{ReplacesObject}
use Rattle.capnp_model_writes.specs.Footprints.{OwnsObject}
use Rattle.capnp_model_writes.specs.Writes.{spliced, with_words}
use Rattle.capnp_model_writes.proofs.lemmas.Lift.{object_replaced_owned, object_replaced_then}
use Rattle.capnp_model_writes.proofs.lemmas.Rows.{after_none}
use Rattle.capnp_model_writes.proofs.lemmas.Spans.{words_front}
use Rattle.capnp_model_writes.proofs.lemmas.Writing.{plain_words}
use Rattle.capnp_model.proofs.lemmas.WordBits.{written_in_low}
use Rattle.capnp_model.proofs.lemmas.ReadFits.{words_length}
use Rattle.capnp_model.proofs.lemmas.WordsInBytes.{words_in_bytes-zeros}
use Rattle.capnp_copy_arenas.specs.Blobs.{whole_of, front_of}
use Rattle.capnp_copy_arenas.specs.Bytes.{SetsBytes}
use Rattle.capnp_copy_arenas.specs.Memory.{overwritten}
use Rattle.capnp_copy_arenas.proofs.lemmas.BlobNumbers.{front_section, number_fits, number_behind}
use Rattle.capnp_copy_arenas.proofs.lemmas.ElementLaws.{plain_parts, low_bits, set_plain, no_plain_word, none_written, same_list}

-- ---- bytes that are read

-- the words of fewer bytes, in front of more
front_words : (n : ℕ) (s : Segments) (p : Place) (c m section : ℕ) → c ≤ m → OwnsObject n s (a_list p 2 m) (plain_list 2 m section) → (ws : List ℕ) × (words_at s p (words_for (8 * c)) ≡ Some (take (words_for (8 * c)) ws)) × (section_of ws % 2 ^ (8 * m) ≡ section)
front_words n s p c m section l o =
    let x = plain_parts n s p 2 m section refl o.means in
    let sum : words_for (8 * m) ≡ words_for (8 * c) + (words_for (8 * m) - words_for (8 * c)) = omega (arith, l) in
    let all : words_at s p (words_for (8 * c) + (words_for (8 * m) - words_for (8 * c))) ≡ Some x.words = subst (λ (k : ℕ). words_at s p k ≡ Some x.words) sum x.there in
    (x.words, words_front s p (words_for (8 * c)) (words_for (8 * m) - words_for (8 * c)) x.words all, x.section_is)

pub front_there : (n : ℕ) (s : Segments) (p : Place) (c m section : ℕ) → c ≤ m → OwnsObject n s (a_list p 2 m) (plain_list 2 m section) → is_some (words_at s p (words_for (8 * c))) ≡ true
front_there n s p c m section l o = ap is_some (front_words n s p c m section l o).1

low_of : (x a b : ℕ) → b ≤ a → x % 2 ^ a % 2 ^ b ≡ x % 2 ^ b
low_of x a b l =
    let e : (a - b) + b ≡ a = omega (arith, l) in
    subst (λ (k : ℕ). x % 2 ^ k % 2 ^ b ≡ x % 2 ^ b) e (pow.mod-mod-pow x (a - b) b)

pub front_bytes : (n : ℕ) (s : Segments) (p : Place) (c m section : ℕ) → c ≤ m → OwnsObject n s (a_list p 2 m) (plain_list 2 m section) → numbers_in 8 c (section_at s p (words_for (8 * c))) ≡ numbers_in 8 c section
unfolding section_at
front_bytes n s p c m section l o =
    let x = front_words n s p c m section l o in
    let w : ℕ = words_for (8 * c) in
    let is : section_in (words_at s p w) ≡ section_of (take w x.0) = ap section_in x.1 in
    let wide : 8 * c ≤ 64 * w = omega arith in
    let low : section_of (take w x.0) % 2 ^ (8 * c) ≡ section_of x.0 % 2 ^ (8 * c) = ap (λ (k : ℕ). k % 2 ^ (8 * c)) (number_of-take 64 w x.0) ∙ low_of (section_of x.0) (64 * w) (8 * c) wide in
    let same : section % 2 ^ (8 * c) ≡ section_of x.0 % 2 ^ (8 * c) = ap (λ (k : ℕ). k % 2 ^ (8 * c)) (sym x.2) ∙ low_of (section_of x.0) (8 * m) (8 * c) (omega (arith, l)) in
    ap (numbers_in 8 c) is ∙ sym (numbers_low 8 c (section_of (take w x.0))) ∙ ap (numbers_in 8 c) (low ∙ sym same) ∙ numbers_low 8 c section

-- ---- numbers written into sections

-- one number in two parts
parts_joined : (x h v l a b c : ℕ) → (x * b + h) * (c * a) + (v * c + l) ≡ (x * (a * b) + (h * a + v)) * c + l
parts_joined x h v l a b c = omega arith

written_in_turn : (at a b n s : ℕ) → with_bits (at + a) b (n / 2 ^ a) (with_bits at a (n % 2 ^ a) s) ≡ with_bits at (a + b) n s
written_in_turn at a b n s =
    let v : ℕ = n % 2 ^ a in
    let r : ℕ = with_bits at a v s in
    let fits : v < 2 ^ a = mod-lt n (pow_pos a) in
    let sum : (at + a) + b ≡ at + (a + b) = omega arith in
    let high : r / 2 ^ ((at + a) + b) ≡ s / 2 ^ (at + (a + b)) =
    sym (shr-shr r (at + a) b) ∙ ap (λ (m : ℕ). m / 2 ^ b) (above at a v s fits) ∙ shr-shr s (at + a) b ∙ ap (λ (m : ℕ). s / 2 ^ m) sum in
    let low : r % 2 ^ (at + a) ≡ v * 2 ^ at + s % 2 ^ at = low_bits at a v s fits in
    ap (λ (m : ℕ). (m * 2 ^ b + n / 2 ^ a) * 2 ^ (at + a) + r % 2 ^ (at + a)) high
    ∙ ap (λ (m : ℕ). (s / 2 ^ (at + (a + b)) * 2 ^ b + n / 2 ^ a) * 2 ^ (at + a) + m) low
    ∙ ap (λ (m : ℕ). (s / 2 ^ (at + (a + b)) * 2 ^ b + n / 2 ^ a) * m + (v * 2 ^ at + s % 2 ^ at)) (pow-add 2 at a)
    ∙ parts_joined (s / 2 ^ (at + (a + b))) (n / 2 ^ a) v (s % 2 ^ at) (2 ^ a) (2 ^ b) (2 ^ at)
    ∙ ap (λ (m : ℕ). (s / 2 ^ (at + (a + b)) * m + (n / 2 ^ a * 2 ^ a + v)) * 2 ^ at + s % 2 ^ at) (sym (pow-add 2 a b))
    ∙ ap (λ (m : ℕ). (s / 2 ^ (at + (a + b)) * 2 ^ (a + b) + m) * 2 ^ at + s % 2 ^ at) (div-add-mod' n (2 ^ a))

-- ---- words written into a section

shifted : (x b v l a c m : ℕ) → (x * b + v) * (a * c) + (l * c + m) ≡ ((x * b + v) * a + l) * c + m
shifted x b v l a c m = omega arith

behind_one : (at k v s l : ℕ) → l < 2 ^ 64 → with_bits (at + 64) k v (s * 2 ^ 64 + l) ≡ with_bits at k v s * 2 ^ 64 + l
behind_one at k v s l small =
    let t : ℕ = s * 2 ^ 64 + l in
    let up : t / 2 ^ 64 ≡ s = pow.high s 64 small in
    let down : t % 2 ^ 64 ≡ l = pow.low s 64 small in
    let sum : (at + 64) + k ≡ 64 + (at + k) = omega arith in
    let high : t / 2 ^ ((at + 64) + k) ≡ s / 2 ^ (at + k) = ap (λ (m : ℕ). t / 2 ^ m) sum ∙ sym (shr-shr t 64 (at + k)) ∙ ap (λ (m : ℕ). m / 2 ^ (at + k)) up in
    let low : t % 2 ^ (at + 64) ≡ (s % 2 ^ at) * 2 ^ 64 + l = mod-pow-add t at 64 ∙ ap (λ (m : ℕ). (m % 2 ^ at) * 2 ^ 64 + t % 2 ^ 64) up ∙ ap (λ (m : ℕ). (s % 2 ^ at) * 2 ^ 64 + m) down in
    ap (λ (m : ℕ). (m * 2 ^ k + v) * 2 ^ (at + 64) + t % 2 ^ (at + 64)) high
    ∙ ap (λ (m : ℕ). (s / 2 ^ (at + k) * 2 ^ k + v) * 2 ^ (at + 64) + m) low
    ∙ ap (λ (m : ℕ). (s / 2 ^ (at + k) * 2 ^ k + v) * m + ((s % 2 ^ at) * 2 ^ 64 + l)) (pow-add 2 at 64)
    ∙ shifted (s / 2 ^ (at + k)) (2 ^ k) v (s % 2 ^ at) (2 ^ at) (2 ^ 64) l

in_front : (l s : ℕ) (m : ℕ) → m < 2 ^ 64 → with_bits 0 64 l (s * 2 ^ 64 + m) ≡ s * 2 ^ 64 + l
in_front l s m small =
    let up : (s * 2 ^ 64 + m) / 2 ^ 64 ≡ s = pow.high s 64 small in
    ap (λ (x : ℕ). (x * 2 ^ 64 + l) * 2 ^ 0 + (s * 2 ^ 64 + m) % 2 ^ 0) up ∙ omega arith

with_first : (k v s l m : ℕ) → l < 2 ^ 64 → m < 2 ^ 64 → with_bits 0 (64 + k) (v * 2 ^ 64 + l) (s * 2 ^ 64 + m) ≡ with_bits 0 k v s * 2 ^ 64 + l
with_first k v s l m small small' =
    let n : ℕ = v * 2 ^ 64 + l in
    let t : ℕ = s * 2 ^ 64 + m in
    sym (written_in_turn 0 64 k n t)
    ∙ ap (λ (x : ℕ). with_bits (0 + 64) k x (with_bits 0 64 (n % 2 ^ 64) t)) (pow.high v 64 small)
    ∙ ap (λ (x : ℕ). with_bits (0 + 64) k v (with_bits 0 64 x t)) (pow.low v 64 small)
    ∙ ap (with_bits (0 + 64) k v) (in_front l s m small')
    ∙ behind_one 0 k v s l small

pub spliced_section : (i : ℕ) (vs ws : List ℕ) → i + length vs ≤ length ws → section_of (spliced i vs ws) ≡ with_bits (64 * i) (64 * length vs) (section_of vs) (section_of ws)
unfolding spliced
spliced_section zero [] [] l = refl
spliced_section (suc i) [] [] l = absurd (omega (arith, l))
spliced_section zero (v ∷ vs) [] l = absurd (omega (arith, l))
spliced_section (suc i) (v ∷ vs) [] l = absurd (omega (arith, l))
spliced_section zero [] (w ∷ ws) l = sym (none_written (64 * 0) 0 (section_of (w ∷ ws)) (omega arith))
spliced_section zero (v ∷ vs) (w ∷ ws) l =
    let next : 64 + 64 * length vs ≡ 64 * suc (length vs) = omega arith in
    let one = mod-lt v (pow_pos 64) in
    let two = mod-lt w (pow_pos 64) in
    ap (λ (x : ℕ). x * 2 ^ 64 + v % 2 ^ 64) (spliced_section zero vs ws (omega (arith, l)))
    ∙ sym (with_first (64 * length vs) (section_of vs) (section_of ws) (v % 2 ^ 64) (w % 2 ^ 64) one two)
    ∙ ap (λ (k : ℕ). with_bits 0 k (section_of vs * 2 ^ 64 + v % 2 ^ 64) (section_of ws * 2 ^ 64 + w % 2 ^ 64)) next
spliced_section (suc i) vs (w ∷ ws) l =
    let next : 64 * i + 64 ≡ 64 * suc i = omega arith in
    ap (λ (x : ℕ). x * 2 ^ 64 + w % 2 ^ 64) (spliced_section i vs ws (omega (arith, l)))
    ∙ sym (behind_one (64 * i) (64 * length vs) (section_of vs) (section_of ws) (w % 2 ^ 64) (mod-lt w (pow_pos 64)))
    ∙ ap (λ (k : ℕ). with_bits k (64 * length vs) (section_of vs) (section_of ws * 2 ^ 64 + w % 2 ^ 64)) next

-- ---- bytes that are written

pub none_set : (n : ℕ) (s : Segments) (p : Place) (m at section : ℕ) (bytes : List ℕ) → length bytes ≡ 0 → OwnsObject n s (a_list p 2 m) (plain_list 2 m section) → ReplacesObject n s s (a_list p 2 m) (plain_list 2 m (with_bits (8 * at) (8 * length bytes) (number_of 8 bytes) section))
none_set n s p m at section [] e o = same_list n s p 2 m (8 * at) 0 section (omega arith) o
none_set n s p m at section (b ∷ bytes) e o = absurd (omega (arith, e))

-- those of one word
pub part_set : (n : ℕ) (s : Segments) (p : Place) (m at word section : ℕ) (bytes : List ℕ) → word_at s (after p (at / 8)) ≡ Some word → word < 2 ^ 64 → at + length bytes ≤ m → at % 8 + length bytes ≤ 8 → 0 < length bytes → OwnsObject n s (a_list p 2 m) (plain_list 2 m section)
    → ReplacesObject n s (with_words s (after p (at / 8)) (with_bits (8 * (at % 8)) (8 * length bytes) (number_of 8 bytes) word ∷ [])) (a_list p 2 m) (plain_list 2 m (with_bits (8 * at) (8 * length bytes) (number_of 8 bytes) section))
part_set n s p m at word section bytes e small l one some o =
    let i : 8 * at / 64 ≡ at / 8 = omega arith in
    let j : 8 * at % 64 ≡ 8 * (at % 8) = omega arith in
    let w : ℕ = 8 * length bytes in
    let v : ℕ = number_of 8 bytes in
    let there : word_at s (after p (8 * at / 64)) ≡ Some word = subst (λ (k : ℕ). word_at s (after p k) ≡ Some word) (sym i) e in
    let all = set_plain n s p 2 m (8 * at) w v word section refl there small (omega (arith, l)) (omega (arith, one, j)) (omega (arith, some)) (number_of_lt 8 bytes) o in
    subst (λ (k : ℕ). ReplacesObject n s (with_words s (after p k) (with_bits (8 * (at % 8)) w v word ∷ [])) (a_list p 2 m) (plain_list 2 m (with_bits (8 * at) w v section))) i
    (subst (λ (k : ℕ). ReplacesObject n s (with_words s (after p (8 * at / 64)) (with_bits k w v word ∷ [])) (a_list p 2 m) (plain_list 2 m (with_bits (8 * at) w v section))) j all)

pub no_part : (n : ℕ) (s : Segments) (p : Place) (m at k section : ℕ) → at + k ≤ m → 0 < k → OwnsObject n s (a_list p 2 m) (plain_list 2 m section) → word_at s (after p (at / 8)) ≡ None → ⊥
no_part n s p m at k section l some o e = no_plain_word n s p 2 m (at / 8) section refl (omega (arith, l, some)) o e

-- those of whole words
pub whole_set : (n : ℕ) (s : Segments) (p : Place) (m at section : ℕ) (bytes : List ℕ) → AreBytes bytes → at % 8 ≡ 0 → length bytes % 8 ≡ 0 → at + length bytes ≤ m → OwnsObject n s (a_list p 2 m) (plain_list 2 m section)
    → ReplacesObject n s (with_words s (after p (at / 8)) (words_in_bytes (length bytes / 8) bytes)) (a_list p 2 m) (plain_list 2 m (with_bits (8 * at) (8 * length bytes) (number_of 8 bytes) section))
whole_set n s p m at section bytes small first whole l o =
    let vs : List ℕ = words_in_bytes (length bytes / 8) bytes in
    let x = plain_parts n s p 2 m section refl o.means in
    let ws : List ℕ = x.words in
    let long : length vs ≡ length bytes / 8 = whole_words-length bytes in
    let room : at / 8 + length vs ≤ words_for (8 * m) = omega (arith, long, l) in
    let width : length ws ≡ words_for (8 * m) = words_length s p (words_for (8 * m)) ws x.there in
    let written = plain_words n s p 2 m (at / 8) (plain_list 2 m section) vs ws refl room x.there o in
    let front : front_of bytes ≡ bytes = take_all (8 * whole_of bytes) bytes (omega (arith, whole)) in
    let number : section_of vs ≡ number_of 8 bytes =
    ap (λ (b : List ℕ). section_of (words_in_bytes (whole_of bytes) b)) (sym front) ∙ front_section bytes small ∙ number_fits bytes (8 * whole_of bytes) (omega (arith, whole)) in
    let at_is : 64 * (at / 8) ≡ 8 * at = omega (arith, first) in
    let wide : 64 * length vs ≡ 8 * length bytes = omega (arith, long, whole) in
    let now : section_of (spliced (at / 8) vs ws) % 2 ^ (8 * m) ≡ with_bits (8 * at) (8 * length bytes) (number_of 8 bytes) section =
    ap (λ (k : ℕ). k % 2 ^ (8 * m)) (spliced_section (at / 8) vs ws (omega (arith, room, width)))
    ∙ ap (λ (k : ℕ). with_bits k (64 * length vs) (section_of vs) (section_of ws) % 2 ^ (8 * m)) at_is
    ∙ ap (λ (k : ℕ). with_bits (8 * at) k (section_of vs) (section_of ws) % 2 ^ (8 * m)) wide
    ∙ ap (λ (k : ℕ). with_bits (8 * at) (8 * length bytes) k (section_of ws) % 2 ^ (8 * m)) number
    ∙ written_in_low (8 * at) (8 * length bytes) (number_of 8 bytes) (section_of ws) (8 * m) (number_of_lt 8 bytes) (omega (arith, l))
    ∙ ap (with_bits (8 * at) (8 * length bytes) (number_of 8 bytes)) x.section_is in
    subst (λ (k : ℕ). ReplacesObject n s (with_words s (after p (at / 8)) vs) (a_list p 2 m) (plain_list 2 m k)) now written

-- the first, and then the others
pub sets_in_turn : (s u v : Segments) (start : code.Place) (at k : ℕ) (bytes : List ℕ) → k ≤ length bytes → SetsBytes s u start at (take k bytes) → SetsBytes u v start (at + k) (drop k bytes) → SetsBytes s v start at bytes
sets_in_turn s u v start at k bytes l f g n m section few o =
    let p = place_view start in
    let long : length (take k bytes) ≡ k = length-take-le k bytes l in
    let rest : length (drop k bytes) ≡ length bytes - k = length-drop k bytes in
    let first = f n m section (omega (arith, long, l, few)) o in
    let mid : ℕ = with_bits (8 * at) (8 * length (take k bytes)) (number_of 8 (take k bytes)) section in
    let mine = object_replaced_owned n s u (a_list p 2 m) (plain_list 2 m section) (plain_list 2 m mid) o first in
    let second = g n m mid (omega (arith, rest, l, few)) mine in
    let both = object_replaced_then n s u v (a_list p 2 m) (plain_list 2 m mid) _ first second in
    let N : ℕ = number_of 8 bytes in
    let a : ℕ = 8 * k in
    let b : ℕ = 8 * (length bytes - k) in
    let at_is : 8 * (at + k) ≡ 8 * at + a = omega arith in
    let wide : a + b ≡ 8 * length bytes = omega (arith, l) in
    let now : with_bits (8 * (at + k)) (8 * length (drop k bytes)) (number_of 8 (drop k bytes)) mid ≡ with_bits (8 * at) (8 * length bytes) N section =
    ap (λ (x : ℕ). with_bits (8 * (at + k)) (8 * x) (number_of 8 (drop k bytes)) mid) rest
    ∙ ap (λ (x : ℕ). with_bits x b (number_of 8 (drop k bytes)) mid) at_is
    ∙ ap (λ (x : ℕ). with_bits (8 * at + a) b x mid) (number_of-drop 8 k bytes)
    ∙ ap (λ (x : ℕ). with_bits (8 * at + a) b (N / 2 ^ a) (with_bits (8 * at) (8 * x) (number_of 8 (take k bytes)) section)) long
    ∙ ap (λ (x : ℕ). with_bits (8 * at + a) b (N / 2 ^ a) (with_bits (8 * at) a x section)) (number_of-take 8 k bytes)
    ∙ written_in_turn (8 * at) a b N section
    ∙ ap (λ (x : ℕ). with_bits (8 * at) x N section) wide in
    subst (λ (x : ℕ). ReplacesObject n s v (a_list p 2 m) (plain_list 2 m x)) now both

pub sets_then : (s u v : Segments) (start : code.Place) (at k : ℕ) (bytes : List ℕ) → k ≤ length bytes → SetsBytes s u start at (take k bytes) → SetsBytes u v start (at + k) (take (length bytes - k) (drop k bytes)) → SetsBytes s v start at bytes
sets_then s u v start at k bytes l f g = sets_in_turn s u v start at k bytes l f (subst (λ (xs : List ℕ). SetsBytes u v start (at + k) xs) (take_rest bytes k) g)

pub all_number : (bytes all : List ℕ) → length bytes ≤ 8 → all ≡ overwritten 0 bytes (replicate 8 0) → bits_at 0 64 (number_of 8 all) ≡ number_of 8 bytes
all_number bytes all l e =
    let none : number_of 8 (drop (0 + length bytes) (replicate 8 0)) ≡ 0 = number_of-drop 8 (0 + length bytes) (replicate 8 0) ∙ zero-div (2 ^ (8 * (0 + length bytes))) in
    let same : number_of 8 all ≡ number_of 8 bytes = ap (number_of 8) e ∙ number_behind bytes (drop (0 + length bytes) (replicate 8 0)) none in
    let a = number_of_lt 8 bytes in
    let few : 8 * length bytes ≤ 64 = omega (arith, l) in
    let b : 2 ^ (8 * length bytes) ≤ 2 ^ 64 = pow_mono few in
    ap (bits_at 0 64) same ∙ omega (arith, a, b)

-- zeros
pub zeros_then : (s u v : Segments) (start : code.Place) (count : ℕ) → SetsBytes s u start 0 (replicate (8 * (count / 8)) 0) → SetsBytes u v start (8 * (count / 8)) (take (count % 8) (replicate 8 0)) → SetsBytes s v start 0 (replicate count 0)
zeros_then s u v start count f g =
    let k : ℕ = 8 * (count / 8) in
    let few : k ≤ count = omega arith in
    let less : count % 8 ≤ 8 = omega arith in
    let rest : count - k ≡ count % 8 = omega arith in
    let none : k ≡ 0 + k = omega arith in
    let front : replicate {A = ℕ} k 0 ≡ take k (replicate count 0) = sym (take-replicate k count 0 few) in
    let back : take (count % 8) (replicate {A = ℕ} 8 0) ≡ drop k (replicate count 0) = take-replicate (count % 8) 8 0 less ∙ ap (λ (j : ℕ). replicate {A = ℕ} j 0) (sym rest) ∙ sym (drop-replicate k count 0) in
    let long : k ≤ length (replicate {A = ℕ} count 0) = omega (arith, length-replicate {A = ℕ} count 0) in
    sets_in_turn s u v start 0 k (replicate count 0) long (subst (λ (xs : List ℕ). SetsBytes s u start 0 xs) front f) (subst (λ (j : ℕ). SetsBytes u v start j (drop k (replicate count 0))) none (subst (λ (xs : List ℕ). SetsBytes u v start k xs) back g))

pub zeros_set : (n : ℕ) (s : Segments) (p : Place) (m w section : ℕ) → 0 + length (replicate {A = ℕ} (8 * w) 0) ≤ m → OwnsObject n s (a_list p 2 m) (plain_list 2 m section)
    → ReplacesObject n s (with_words s p (replicate w 0)) (a_list p 2 m) (plain_list 2 m (with_bits (8 * 0) (8 * length (replicate {A = ℕ} (8 * w) 0)) (number_of 8 (replicate (8 * w) 0)) section))
zeros_set n s p m w section l o =
    let bytes : List ℕ = replicate (8 * w) 0 in
    let long : length bytes ≡ 8 * w = length-replicate (8 * w) 0 in
    let words : length bytes / 8 ≡ w = omega (arith, long) in
    let are : words_in_bytes (length bytes / 8) bytes ≡ replicate w 0 = ap (λ (k : ℕ). words_in_bytes k bytes) words ∙ words_in_bytes-zeros w in
    let all = whole_set n s p m 0 section bytes (λ i. zero_small (8 * w) i) refl (omega (arith, long)) l o in
    subst (λ (ws : List ℕ). ReplacesObject n s (with_words s p ws) (a_list p 2 m) (plain_list 2 m (with_bits (8 * 0) (8 * length bytes) (number_of 8 bytes) section))) are
    (subst (λ (q : Place). ReplacesObject n s (with_words s q (words_in_bytes (length bytes / 8) bytes)) (a_list p 2 m) (plain_list 2 m (with_bits (8 * 0) (8 * length bytes) (number_of 8 bytes) section))) (after_none p) all)
  where
    zero_small : (k i : ℕ) → get_or (replicate {A = ℕ} k 0) i 0 < 256
    zero_small zero i = omega arith
    zero_small (suc k) zero = omega arith
    zero_small (suc k) (suc i) = zero_small k i
