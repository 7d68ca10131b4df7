-- Lists that are made of bytes.
use Rattle.std.proofs.Common.{◌≡◌, ℕ, zero, suc, ◌+◌, ◌-◌, ◌*◌, ◌/◌, ◌%◌, ◌^◌, ◌<◌, ◌≤◌, Bool, true, false, cond, ltb, List, [], ◌∷◌, ◌++◌, length, map, take, drop, replicate, Option, Some, refl, ap, sym, ◌∙◌, subst, arith}
use Rattle.std.specs.Int.{from_le_bytes, w64}
use Rattle.std.proofs.lemmas.Bool.{ltb-true, ltb-false}
use Rattle.std.proofs.lemmas.List.{length-append, length-drop, get_or-drop}
use Rattle.capnp_model.specs.Bytes.{words_in_bytes, AreBytes}
use Rattle.capnp_model.specs.Sections.{number_of, section_of, words_for, words_of}
use Rattle.capnp_model.specs.Segments.{Segments, Place, after, words_at}
use Rattle.capnp_model.specs.Pointers.{a_list}
use Rattle.capnp_model.proofs.lemmas.Numbers.{number_of_lt, section_of-words_of}
use Rattle.capnp_copy_values.specs.Copies.{Fills, Copied, limited_words}
use Rattle.capnp_copy_values.specs.Objects.{copied_words, copied_at}
use Rattle.capnp_model.specs.Traversal.{tree_at}
use Rattle.capnp_model.specs.Visits.{visits}
use Rattle.capnp_units.specs.declared.limiter.ReadLimiter.{ReadLimiter}
use Rattle.capnp_wire_objects.specs.declared.object.Object.{Object}
use Rattle.capnp_wire_objects.specs.Inside.{met_in}
use Rattle.capnp_wire_objects.proofs.lemmas.Walks.{walked_none}
use Rattle.capnp_copy_arenas.proofs.lemmas.RoomLaws.{sizes_grow}
use Rattle.capnp_copy_values.proofs.Taking.{total_alike, takes_none}
use Rattle.capnp_copy_values.proofs.Made.{words_fill}
use Rattle.capnp_model_writes.specs.Writes.{spliced, spliced_in, with_words}
use Rattle.capnp_wire.proofs.lemmas.Bytes.{word_is, number_of-drop, number_of-take}
use Rattle.std.proofs.Math.Pow.{mod-mod-pow}
use Rattle.capnp_units.specs.Segments.{whole_words}
use Rattle.capnp_units.specs.Sizes.{size_number, data_bits}
use Rattle.capnp_units.specs.declared.sizes.ElementSize.{ElementSize}
use Rattle.capnp_units.specs.declared.sizes.ElementSize.TheVariants.{Void, Bit, Byte, TwoBytes, FourBytes, EightBytes, Pointer, InlineComposite}
use Rattle.capnp_model.specs.Trees.{Tree, plain_list}
use Rattle.capnp_wire_objects.specs.declared.object.Object.TheVariants as object
use Rattle.capnp_wire.specs.Elements.{step_bits}
use Rattle.capnp_copy_values.specs.declared.lists.ListSource.{ListSource}
use Rattle.capnp_copy_values.specs.Lists.{object_of_size, tree_of_size, listed_object}
use Rattle.capnp_copy_arenas.specs.Blobs.{whole_of, last_of, front_of, with_bytes}
use Rattle.capnp_copy_arenas.proofs.lemmas.BlobNumbers.{front_words_length, front_section, all_words, number_fits}
use Rattle.capnp_model.specs.Coverage.{span}

-- ---- words one behind the other

spliced_more : (k j : ℕ) (a b xs : List ℕ) → j ≡ k + length a → spliced j b (spliced k a xs) ≡ spliced k (a ++ b) xs
unfolding spliced
spliced_more zero zero [] b [] e = refl
spliced_more zero zero [] b (x ∷ xs) e = refl
spliced_more zero (suc j) [] b xs e = absurd (omega (arith, e))
spliced_more zero zero (v ∷ a) b xs e = absurd (omega (arith, e))
spliced_more zero (suc j) (v ∷ a) b [] e = refl
spliced_more zero (suc j) (v ∷ a) b (x ∷ xs) e = ap (λ (ys : List ℕ). v ∷ ys) (spliced_more zero j a b xs (omega (arith, e)))
spliced_more (suc k) zero a b xs e = absurd (omega (arith, e))
spliced_more (suc k) (suc j) a b [] e = refl
spliced_more (suc k) (suc j) a b (x ∷ xs) e = ap (λ (ys : List ℕ). x ∷ ys) (spliced_more k j a b xs (omega (arith, e)))

more_in : (s : Segments) (i k j : ℕ) (a b : List ℕ) → j ≡ k + length a → spliced_in (spliced_in s i k a) i j b ≡ spliced_in s i k (a ++ b)
more_in [] i k j a b e = refl
more_in (xs ∷ s) zero k j a b e = ap (λ (ys : List ℕ). ys ∷ s) (spliced_more k j a b xs e)
more_in (xs ∷ s) (suc i) k j a b e = ap (λ (t : Segments). xs ∷ t) (more_in s i k j a b e)

pub words_behind : (s : Segments) (p : Place) (n : ℕ) (a b : List ℕ) → length a ≡ n → with_words (with_words s p a) (after p n) b ≡ with_words s p (a ++ b)
unfolding with_words
words_behind s p n a b e = more_in s p.segment p.position (p.position + n) a b (omega (arith, e))

-- ---- bytes that are written are words

pub record AsWords (s : Segments) (r : Place) (w : ℕ) (bytes : List ℕ) : Type 0 where
  pub words : List ℕ
  pub long : length words ≡ w
  pub section : section_of words ≡ number_of 8 bytes
  pub is : with_bytes s r w bytes ≡ with_words s r words

pub as_words : (s : Segments) (r : Place) (w : ℕ) (bytes : List ℕ) → AreBytes bytes → w ≡ words_for (8 * length bytes) → AsWords s r w bytes
as_words s r w bytes small count = by_cases (ltb (whole_of bytes) w) refl
  where
    long : length (words_in_bytes (whole_of bytes) (front_of bytes)) ≡ whole_of bytes
    long = front_words_length bytes

    of_all : (vs : List ℕ) (b : Bool) → ltb (whole_of bytes) w ≡ b → length vs ≡ w → section_of vs ≡ number_of 8 bytes
        → cond b (with_words (with_words s r (words_in_bytes (whole_of bytes) (front_of bytes))) (after r (whole_of bytes)) (last_of bytes ∷ [])) (with_words s r (words_in_bytes (whole_of bytes) (front_of bytes))) ≡ with_words s r vs → AsWords s r w bytes
    of_all vs b e l number is = record { words = vs; long = l; section = number; is = ap (λ (c : Bool). cond c (with_words (with_words s r (words_in_bytes (whole_of bytes) (front_of bytes))) (after r (whole_of bytes)) (last_of bytes ∷ [])) (with_words s r (words_in_bytes (whole_of bytes) (front_of bytes)))) e ∙ is }

    by_cases : (b : Bool) → ltb (whole_of bytes) w ≡ b → AsWords s r w bytes
    by_cases true less =
        let l = ltb-true (whole_of bytes) w less in
        let wide : length (words_in_bytes (whole_of bytes) (front_of bytes) ++ last_of bytes ∷ []) ≡ w = length-append (words_in_bytes (whole_of bytes) (front_of bytes)) (last_of bytes ∷ []) ∙ omega (arith, long, l, count) in
        of_all (words_in_bytes (whole_of bytes) (front_of bytes) ++ last_of bytes ∷ []) true less wide (all_words bytes small) (words_behind s r (whole_of bytes) (words_in_bytes (whole_of bytes) (front_of bytes)) (last_of bytes ∷ []) long)
    by_cases false least =
        let l = ltb-false (whole_of bytes) w least in
        let full : length bytes ≤ 8 * whole_of bytes = omega (arith, count, l) in
        of_all (words_in_bytes (whole_of bytes) (front_of bytes)) false least (omega (arith, long, l, count)) (front_section bytes small ∙ number_fits bytes (8 * whole_of bytes) full) refl

-- ---- words of bytes

words_read : (n : ℕ) (bytes : List ℕ) → 8 * n ≤ length bytes → AreBytes bytes → words_of n (number_of 8 bytes) ≡ words_in_bytes n bytes
words_read zero bytes long small = refl
words_read (suc n) bytes long small =
    let rest : words_of n (number_of 8 bytes / 2 ^ 64) ≡ words_in_bytes n (drop 8 bytes) = ap (words_of n) (sym (number_of-drop 8 8 bytes)) ∙ words_read n (drop 8 bytes) (omega (arith, long, length-drop 8 bytes)) (λ i. rw (get_or-drop 8 bytes i 0) (small (8 + i))) in
    let first : number_of 8 bytes % 2 ^ 64 ≡ from_le_bytes w64 bytes = sym (word_is bytes (omega (arith, long)) small) in
    ap (λ (ws : List ℕ). number_of 8 bytes % 2 ^ 64 ∷ ws) rest ∙ ap (λ (w : ℕ). w ∷ words_in_bytes n (drop 8 bytes)) first

-- all of them
pub all_read : (n : ℕ) (bytes : List ℕ) → length bytes ≡ 8 * n → AreBytes bytes → words_of n (number_of 8 bytes) ≡ whole_words bytes
all_read n bytes long small =
    let count : length bytes / 8 ≡ n = omega (arith, long) in
    words_read n bytes (omega (arith, long)) small ∙ ap (λ (m : ℕ). words_in_bytes m bytes) (sym count)

pub all_section : (n : ℕ) (bytes : List ℕ) → length bytes ≡ 8 * n → AreBytes bytes → section_of (words_in_bytes (length bytes / 8) bytes) ≡ number_of 8 bytes
all_section n bytes long small =
    let wide : length bytes ≤ 8 * n = omega (arith, long) in
    let few : number_of 8 bytes < 2 ^ (64 * n) = (let a = number_of_lt 8 bytes in let e : 8 * length bytes ≡ 64 * n = omega (arith, long) in subst (λ (m : ℕ). number_of 8 bytes < 2 ^ m) e a) in
    ap section_of (sym (all_read n bytes long small)) ∙ section_of-words_of n (number_of 8 bytes) few

-- plain elements, written over as many zeros
pub written_elements : (n : ℕ) (s u : Segments) (r : Place) (size count k : ℕ) (bytes : List ℕ) → size < 6 → k ≡ words_for (data_bits size * count) → AreBytes bytes → data_bits size * count ≤ 8 * length bytes → 8 * length bytes < data_bits size * count + 8 → words_at s r k ≡ Some (replicate k 0) → u ≡ with_bytes s r k bytes
    → Fills n s u (span r k) (a_list r size count) (plain_list size count (number_of 8 bytes % 2 ^ (data_bits size * count)))
written_elements n s u r size count k bytes plain is small low high z now =
    let x = as_words s r k bytes small (is ∙ omega (arith, low, high)) in
    subst (λ (a : ℕ). Fills n s u (span r k) (a_list r size count) (plain_list size count (a % 2 ^ (data_bits size * count)))) x.section (words_fill n s u r size count k x.words plain is x.long z (now ∙ x.is))

-- structs have so many bits
pub bits_of_structs : (count d k : ℕ) → 8 * (8 * (count * (d + k))) ≡ 64 * (d + k) * count
bits_of_structs count d k = grind arith

pub front_section_of : (count d k : ℕ) (bytes : List ℕ) → number_of 8 (take (8 * (count * (d + k))) bytes) ≡ number_of 8 bytes % 2 ^ (64 * (d + k) * count)
front_section_of count d k bytes = number_of-take 8 (8 * (count * (d + k))) bytes ∙ ap (λ (j : ℕ). number_of 8 bytes % 2 ^ j) (bits_of_structs count d k)

-- plain elements are in the bytes that they need
pub front_elements : (bits all : ℕ) (bytes : List ℕ) → bits ≤ 8 * all → number_of 8 (take all bytes) % 2 ^ bits ≡ number_of 8 bytes % 2 ^ bits
front_elements bits all bytes h =
    let e : (8 * all - bits) + bits ≡ 8 * all = omega (arith, h) in
    ap (λ (a : ℕ). a % 2 ^ bits) (number_of-take 8 all bytes) ∙ subst (λ (z : ℕ). number_of 8 bytes % 2 ^ z % 2 ^ bits ≡ number_of 8 bytes % 2 ^ bits) e (mod-mod-pow (number_of 8 bytes) (8 * all - bits) bits)

-- ---- by the size of elements

pub record Plain (z : ElementSize) (x : ListSource) (section : ℕ) : Type 0 where
  pub object : object_of_size z x ≡ object.List x.start z x.count
  pub tree : (below : Place → Option Tree) → tree_of_size z below x section ≡ Some (plain_list (size_number z) x.count section)
  pub small : size_number z < 6
  pub step : step_bits (size_number z) x.data_words x.pointers ≡ data_bits (size_number z)

pub plain_elements : (z : ElementSize) (x : ListSource) (section : ℕ) → ((z ≡ Pointer) → ⊥) → ((z ≡ InlineComposite) → ⊥) → Plain z x section
plain_elements Void x section a b = record { object = refl; tree = λ f. refl; small = omega arith; step = refl }
plain_elements Bit x section a b = record { object = refl; tree = λ f. refl; small = omega arith; step = refl }
plain_elements Byte x section a b = record { object = refl; tree = λ f. refl; small = omega arith; step = refl }
plain_elements TwoBytes x section a b = record { object = refl; tree = λ f. refl; small = omega arith; step = refl }
plain_elements FourBytes x section a b = record { object = refl; tree = λ f. refl; small = omega arith; step = refl }
plain_elements EightBytes x section a b = record { object = refl; tree = λ f. refl; small = omega arith; step = refl }
plain_elements Pointer x section a b = absurd (a refl)
plain_elements InlineComposite x section a b = absurd (b refl)

pub plain_copied : (levels : ℕ) (from : Segments) (x : ListSource) (section : ℕ) (s u : Segments) (r : Place) (l : ReadLimiter) → Plain x.size x section
    → ((n : ℕ) → Fills n s u (span r (words_for (data_bits (size_number x.size) * x.count))) (a_list r (size_number x.size) x.count) (plain_list (size_number x.size) x.count section)) → map length u ≡ map length s
    → Copied (tree_of_size x.size (tree_at levels from) x section) (met_in (visits levels from) (listed_object x)) (λ v. (n : ℕ) → levels ≤ n → Fills n s u (span r (copied_words (listed_object x))) (copied_at r (listed_object x)) v) (limited_words s l) (limited_words u l)
plain_copied levels from x section s u r l y fills sizes =
    let made : Copied (tree_of_size x.size (tree_at levels from) x section) [] (λ v. (n : ℕ) → levels ≤ n → Fills n s u (span r (words_for (data_bits (size_number x.size) * x.count))) (a_list r (size_number x.size) x.count) v) (limited_words s l) (limited_words u l) = record {
      value = plain_list (size_number x.size) x.count section;
      there_is = y.tree (tree_at levels from);
      walked = walked_none l;
      grows = sizes_grow s u sizes;
      takes = takes_none s u l (sym (total_alike s u sizes));
      made = λ n h. fills n;
    } in
    subst (λ (o : Object). Copied (tree_of_size x.size (tree_at levels from) x section) (met_in (visits levels from) o) (λ v. (n : ℕ) → levels ≤ n → Fills n s u (span r (copied_words o)) (copied_at r o) v) (limited_words s l) (limited_words u l)) (sym y.object) made
