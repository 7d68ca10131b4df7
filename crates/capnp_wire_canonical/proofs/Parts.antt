-- Words of segments, one by one.
use Rattle.std.proofs.Common.{◌≡◌, ℕ, zero, suc, ◌+◌, ◌-◌, ◌*◌, ◌≤◌, ◌<◌, leb, Bool, true, false, List, [], ◌∷◌, length, get_or, take, drop, Option, Some, None, refl, ap, sym, ◌∙◌, arith}
use Rattle.std.specs.Prelude.{unwrap_or}
use Rattle.std.proofs.Math.Nat.{mul-le-mul_right}
use Rattle.std.specs.List.{slice_get}
use Rattle.std.specs.Option.{is_some}
use Rattle.std.proofs.lemmas.List.{length-take, length-drop, drop-drop, take-take, drop-take}
use Rattle.capnp_model.specs.Chains.{◌>>=◌, ◌provided◌}
use Rattle.capnp_model.specs.Sections.{section_of}
use Rattle.capnp_model.specs.Segments.{Segments, Place, after, word_at, words_at}
use Rattle.capnp_wire_objects.specs.Inside.{section_in, section_at, words_there}
use Rattle.capnp_wire_objects.proofs.lemmas.Linking.{section_front}
use Rattle.capnp_wire_objects.proofs.lemmas.Tags.{words_from, words_are}

word_of_part : (xs : List ℕ) (p n i : ℕ) → i < n → p + n ≤ length xs → slice_get xs (p + i) ≡ Some (get_or (take n (drop p xs)) i 0)
word_of_part [] p n i h le = absurd (omega arith)
word_of_part (x ∷ xs) zero zero i h le = absurd (omega arith)
word_of_part (x ∷ xs) zero (suc n) zero h le = refl
word_of_part (x ∷ xs) zero (suc n) (suc i) h le =
    let same : zero + suc i ≡ suc (zero + i) = omega arith in
    ap (slice_get (x ∷ xs)) same ∙ word_of_part xs zero n i (omega arith) (omega arith)
word_of_part (x ∷ xs) (suc p) n i h le =
    let same : suc p + i ≡ suc (p + i) = omega arith in
    ap (slice_get (x ∷ xs)) same ∙ word_of_part xs p n i h (omega arith)

module _ (s : Segments) (p : Place) (n : ℕ) (there : is_some (words_at s p n) ≡ true) where
  -- the segment's words
  pub segment_of : (words : List ℕ) × (slice_get s p.segment ≡ Some words) × (p.position + n ≤ length words)
  segment_of = words_from (slice_get s p.segment) p.position n there

  pub there_is : words_at s p n ≡ Some (words_there s p n)
  unfolding words_there
  there_is =
      let a = segment_of in
      let e = words_are s p n a.0 a.1 a.2 in
      e ∙ ap (λ (o : Option (List ℕ)). Some (unwrap_or o [])) (sym e)

  pub there_words : words_there s p n ≡ take n (drop p.position segment_of.0)
  unfolding words_there
  there_words = let a = segment_of in ap (λ (o : Option (List ℕ)). unwrap_or o []) (words_are s p n a.0 a.1 a.2)

  pub there_length : length (words_there s p n) ≡ n
  there_length = let a = segment_of in let h = a.2 in ap length there_words ∙ omega (arith, length-take n (drop p.position a.0), length-drop p.position a.0)

  pub section_is : section_at s p n ≡ section_of (words_there s p n)
  unfolding section_at
  section_is = ap section_in there_is

  pub word_is : (i : ℕ) → i < n → word_at s (after p i) ≡ Some (get_or (words_there s p n) i 0)
  word_is i h =
      let a = segment_of in
      ap (λ (o : Option (List ℕ)). o >>= λ words. slice_get words (p.position + i)) a.1 ∙ word_of_part a.0 p.position n i h a.2
      ∙ ap (λ (ws : List ℕ). Some (get_or ws i 0)) (sym there_words)

  -- the first of them
  pub front_there : (m : ℕ) → m ≤ n → is_some (words_at s p m) ≡ true
  front_there m h =
      let a = segment_of in
      let bound = a.2 in
      ap is_some (words_are s p m a.0 a.1 (omega arith))

  -- a part of them
  pub part_there : (i m : ℕ) → i + m ≤ n → is_some (words_at s (after p i) m) ≡ true
  part_there i m h =
      let a = segment_of in
      let bound = a.2 in
      ap is_some (words_are s (after p i) m a.0 a.1 (omega arith))

  pub part_is : (i m : ℕ) → i + m ≤ n → words_there s (after p i) m ≡ take m (drop i (words_there s p n))
  unfolding words_there
  part_is i m h =
      let a = segment_of in
      let bound = a.2 in
      let all : List ℕ = a.0 in
      let rest : n - i ≡ m + (n - i - m) = omega arith in
      let split : n ≡ i + (n - i) = omega arith in
      ap (λ (o : Option (List ℕ)). unwrap_or o []) (words_are s (after p i) m all a.1 (omega arith))
      ∙ ap (take m) (sym (drop-drop i p.position all))
      ∙ sym (take-take m (n - i) (drop i (drop p.position all)) (omega arith))
      ∙ ap (take m) (sym (drop-take i (n - i) (drop p.position all)))
      ∙ ap (λ (j : ℕ). take m (drop i (take j (drop p.position all)))) (sym split)
      ∙ ap (λ (ws : List ℕ). take m (drop i ws)) (sym there_words)

-- no words at all
pub no_words_there : (s : Segments) (p : Place) → words_there s p 0 ≡ []
unfolding words_there
no_words_there s p = by (slice_get s p.segment)
  where
    test : (xs : List ℕ) (b : Bool) → unwrap_or (take 0 xs provided b) [] ≡ []
    test xs true = refl
    test xs false = refl

    by : (o : Option (List ℕ)) → unwrap_or (o >>= λ words. take 0 (drop p.position words) provided leb (p.position + 0) (length words)) [] ≡ []
    by None = refl
    by (Some words) = test (drop p.position words) (leb (p.position + 0) (length words))

-- the first of some words
pub front_section : (s : Segments) (p : Place) (n : ℕ) (there : is_some (words_at s p n) ≡ true) (i : ℕ) → i ≤ n → section_at s p i ≡ section_of (take i (words_there s p n))
front_section s p n there i h =
    let sum : i + (n - i) ≡ n = omega arith in
    section_front s p i (n - i) (words_there s p n) (ap (words_at s p) sum ∙ there_is s p n there)

-- one of several parts of one width
pub part_room : (i n w : ℕ) → i < n → i * w + w ≤ n * w
part_room i n w h = let m : (i + 1) * w ≤ n * w = mul-le-mul_right w (omega arith) in let s : (i + 1) * w ≡ i * w + w = grind arith in omega arith
