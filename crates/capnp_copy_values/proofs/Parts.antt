-- Words that are there, and parts of them.
use Rattle.std.proofs.Common.{◌≡◌, ℕ, ◌+◌, ◌-◌, ◌≤◌, true, List, [], length, take, drop, Option, Some, ap, sym, ◌∙◌, arith}
use Rattle.std.specs.Prelude.{unwrap_or}
use Rattle.std.specs.List.{slice_get}
use Rattle.std.specs.Option.{is_some}
use Rattle.std.proofs.lemmas.List.{length-take, length-drop, drop-drop, take-take, drop-take}
use Rattle.capnp_model.specs.Sections.{section_of}
use Rattle.capnp_model.specs.Segments.{Segments, Place, after, words_at}
use Rattle.capnp_wire_objects.specs.Inside.{section_in, section_at, words_there}
use Rattle.capnp_wire_objects.proofs.lemmas.Tags.{words_from, words_are}

module _ (s : Segments) (p : Place) (n : ℕ) (there : is_some (words_at s p n) ≡ true) where
  -- the segment's words
  segment_of : (words : List ℕ) × (slice_get s p.segment ≡ Some words) × (p.position + n ≤ length words)
  segment_of = words_from (slice_get s p.segment) p.position n there

  pub there_is : words_at s p n ≡ Some (words_there s p n)
  unfolding words_there
  there_is =
      let a = segment_of in
      let e = words_are s p n a.0 a.1 a.2 in
      e ∙ ap (λ (o : Option (List ℕ)). Some (unwrap_or o [])) (sym e)

  there_words : words_there s p n ≡ take n (drop p.position segment_of.0)
  unfolding words_there
  there_words = let a = segment_of in ap (λ (o : Option (List ℕ)). unwrap_or o []) (words_are s p n a.0 a.1 a.2)

  pub there_length : length (words_there s p n) ≡ n
  there_length = let a = segment_of in let h = a.2 in ap length there_words ∙ omega (arith, length-take n (drop p.position a.0), length-drop p.position a.0)

  pub section_is : section_at s p n ≡ section_of (words_there s p n)
  unfolding section_at
  section_is = ap section_in there_is

  -- a part of them
  pub part_there : (i m : ℕ) → i + m ≤ n → is_some (words_at s (after p i) m) ≡ true
  part_there i m h =
      let a = segment_of in
      let bound = a.2 in
      ap is_some (words_are s (after p i) m a.0 a.1 (omega arith))

  pub front_there : (m : ℕ) → m ≤ n → is_some (words_at s p m) ≡ true
  front_there m h =
      let a = segment_of in
      let bound = a.2 in
      ap is_some (words_are s p m a.0 a.1 (omega arith))

  pub part_is : (i m : ℕ) → i + m ≤ n → words_there s (after p i) m ≡ take m (drop i (words_there s p n))
  unfolding words_there
  part_is i m h =
      let a = segment_of in
      let bound = a.2 in
      let all : List ℕ = a.0 in
      let split : n ≡ i + (n - i) = omega arith in
      ap (λ (o : Option (List ℕ)). unwrap_or o []) (words_are s (after p i) m all a.1 (omega arith))
      ∙ ap (take m) (sym (drop-drop i p.position all))
      ∙ sym (take-take m (n - i) (drop i (drop p.position all)) (omega arith))
      ∙ ap (take m) (sym (drop-take i (n - i) (drop p.position all)))
      ∙ ap (λ (j : ℕ). take m (drop i (take j (drop p.position all)))) (sym split)
      ∙ ap (λ (ws : List ℕ). take m (drop i ws)) (sym there_words)
