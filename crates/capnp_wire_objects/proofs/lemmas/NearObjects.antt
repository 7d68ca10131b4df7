-- Objects that are told in one look.
use Rattle.std.proofs.Common.{◌≡◌, ℕ, ◌+◌, ◌-◌, ◌*◌, ◌/◌, ◌%◌, ◌^◌, ◌<◌, ◌≤◌, Bool, true, false, nat_lt, leb, eqb, if◌then◌else◌, List, [], length, Option, Some, None, Result, Ok, refl, ap, sym, ◌∙◌, subst, arith}
use Rattle.std.specs.Prelude.{unwrap_or}
use Rattle.std.specs.List.{slice_get}
use Rattle.std.specs.Option.{ok_or, is_some}
use Rattle.std.proofs.lemmas.Bool.{ne_eqb}
use Rattle.std.proofs.lemmas.Bool.Decides.{nat_tests}
use Rattle.capnp_model.specs.Kinds.{Kind, OutOfBounds}
use Rattle.capnp_model.specs.Chains.{◌>>=◌, ◌provided◌, ◌and_then◌}
use Rattle.capnp_model.specs.Sections.{bits_at, words_for}
use Rattle.capnp_model.specs.Segments.{Segments, Place, place, after, word_at, words_at}
use Rattle.capnp_model.specs.Pointers.{to_struct, to_list, pointer_of, pointer_of_kind, begins, a_struct, a_list, found_by, found_at}
use Rattle.capnp_model.specs.Pointers as model
use Rattle.capnp_model.proofs.lemmas.Chaining.{ok_is}
use Rattle.capnp_units.specs.declared.sizes.ElementSize.{ElementSize}
use Rattle.capnp_units.specs.declared.sizes.ElementSize.TheVariants.{Void, Bit, Byte, TwoBytes, FourBytes, EightBytes, Pointer as OfPointers, InlineComposite}
use Rattle.capnp_units.specs.Segments.{whole_words, words_in}
use Rattle.capnp_units.specs.Sizes.{size_number, data_bits}
use Rattle.capnp_wire_objects.specs.declared.place.Place.{Place as Where}
use Rattle.capnp_wire_objects.specs.declared.object.Object.{Object}
use Rattle.capnp_wire_objects.specs.declared.object.Object.TheVariants as object
use Rattle.capnp_wire_objects.specs.Arenas.{segment_bytes}
use Rattle.capnp_wire_objects.specs.Places.{place_view}
use Rattle.capnp_wire_objects.specs.Objects.{whole}
use Rattle.capnp_wire_objects.specs.Near.{IsNear}
use Rattle.capnp_wire_objects.proofs.lemmas.Words.{segment_there, words_where}
use Rattle.capnp_wire_objects.proofs.lemmas.Walking.{exact_object}
use Rattle.capnp_wire_objects.proofs.lemmas.Tags.{structs_found}

-- an object begins in the segment where its pointer ends
pub begins_where : (p q : Place) (offset : ℕ) → begins p offset ≡ Ok q → q.segment ≡ p.segment
begins_where p q offset e = by (nat_lt offset (2 ^ 29)) (leb (2 ^ 30) (p.position + offset)) e
  where
    by : (b d : Bool) → (if b then Ok (after p offset) else ok_or (place p.segment (p.position + offset - 2 ^ 30) provided d) OutOfBounds) ≡ Ok q → q.segment ≡ p.segment
    by true d e = ap (λ (x : Place). x.segment) (sym (ok_is _ _ e))
    by false true e = ap (λ (x : Place). x.segment) (sym (ok_is _ _ e))
    by false false e = absurd cc

-- a segment that has a word is there
pub held : (segments : List (List ℕ)) (i position w : ℕ) (bytes : List ℕ) → bytes ≡ segment_bytes segments i → Some w ≡ slice_get (whole_words bytes) position → Some bytes ≡ slice_get segments i
held segments i position w bytes is word = by (slice_get segments i) is
  where
    by : (o : Option (List ℕ)) → bytes ≡ unwrap_or o [] → Some bytes ≡ o
    by None e = let none : Some w ≡ slice_get (whole_words []) position = word ∙ ap (λ (bs : List ℕ). slice_get (whole_words bs) position) e in absurd cc
    by (Some bs) e = ap (λ (x : List ℕ). Some x) e

-- a pointer to a list is no word of zeros
some_word : (w offset size n : ℕ) → to_list offset size n ≡ pointer_of w → w ≡ 0 → ⊥
some_word w offset size n e z = let none : to_list offset size n ≡ to_struct 0 0 0 = e ∙ ap pointer_of z in cc

plain_of : (o : Option (List ℕ)) (x : Object) → is_some o ≡ true → (ok_or o OutOfBounds and_then λ _. Ok x) ≡ Ok x
plain_of (Some ws) x h = refl
plain_of None x h = absurd cc

whole_plain : (s : Segments) (q : Where) (size : ElementSize) (n : ℕ) → size_number size < 6 → is_some (words_at s (place_view q) (words_for (data_bits (size_number size) * n))) ≡ true
    → whole s (a_list (place_view q) (size_number size) n) ≡ Ok (object.List q size n)
whole_plain s q Void n h e = plain_of (words_at s (place_view q) (words_for (data_bits 0 * n))) (object.List q Void n) e
whole_plain s q Bit n h e = plain_of (words_at s (place_view q) (words_for (data_bits 1 * n))) (object.List q Bit n) e
whole_plain s q Byte n h e = plain_of (words_at s (place_view q) (words_for (data_bits 2 * n))) (object.List q Byte n) e
whole_plain s q TwoBytes n h e = plain_of (words_at s (place_view q) (words_for (data_bits 3 * n))) (object.List q TwoBytes n) e
whole_plain s q FourBytes n h e = plain_of (words_at s (place_view q) (words_for (data_bits 4 * n))) (object.List q FourBytes n) e
whole_plain s q EightBytes n h e = plain_of (words_at s (place_view q) (words_for (data_bits 5 * n))) (object.List q EightBytes n) e
whole_plain s q OfPointers n h e = absurd (omega arith)
whole_plain s q InlineComposite n h e = absurd (omega arith)

-- the bits of a list's elements
abbrev pub bits_of : Object → ℕ
bits_of (object.List p size n) = data_bits (size_number size) * n
bits_of _ = 0

-- the segment of a list
abbrev pub segment_of : Object → ℕ
segment_of (object.List p size n) = p.segment
segment_of _ = 0

-- the size of a list's elements
abbrev pub size_of : Object → ElementSize
size_of (object.List p size n) = size
size_of _ = Byte

-- what a word says of a list of bytes that lies behind it
pub onwards_bytes : (w : ℕ) → w < 2 ^ 64 → w % 4 ≡ 1 → w / 2 ^ 31 % 16 ≡ 4 → to_list (w / 4 % 2 ^ 29) 2 (w / 2 ^ 35) ≡ pointer_of w
onwards_bytes w bound kind size =
    let k : bits_at 0 2 w ≡ 1 = omega arith in
    let a : bits_at 2 30 w ≡ w / 4 % 2 ^ 29 = omega arith in
    let b : bits_at 32 3 w ≡ 2 = omega arith in
    let c : bits_at 35 29 w ≡ w / 2 ^ 35 = omega arith in
    sym (ap (λ (m : ℕ). pointer_of_kind m w) k ∙ rw (a, b, c) refl)

-- an object without a pad
abbrev found_near : model.Object → model.Found
found_near o = record { pads = 0; object = o }

module _ (segments : List (List ℕ)) (bytes : List ℕ) (p : Place) (w offset : ℕ) (start : Where) (there : Some bytes ≡ slice_get segments p.segment) (word : Some w ≡ slice_get (whole_words bytes) p.position)
    (begin : Ok (place_view start) ≡ begins (after p 1) offset) where
  at_place : word_at (words_in segments) p ≡ Some w
  at_place = ap (λ (o : Option (List ℕ)). o >>= λ ws. slice_get ws p.position) (segment_there segments p.segment bytes there) ∙ sym word

  -- what begins there lies in the segment
  inside : (words : ℕ) → leb (start.position + words) (length bytes / 8) ≡ true → is_some (words_at (words_in segments) (place_view start) words) ≡ true
  inside words fit =
      let s : Segments = words_in segments in
      let same : p.segment ≡ start.segment = sym (begins_where (after p 1) (place_view start) offset (sym begin)) in
      subst (λ (i : ℕ). is_some (words_at s (place i start.position) words) ≡ true) same (words_where segments p.segment start.position words bytes there ∙ fit)

  -- the pointer names a list that begins there
  listed : (size n : ℕ) → to_list offset size n ≡ pointer_of w → found_at (words_in segments) p ≡ Ok (found_near (a_list (place_view start) size n))
  listed size n says =
      let some : eqb w 0 ≡ false = ne_eqb w 0 (some_word w offset size n says) in
      rw (at_place, some) (ap (found_by (words_in segments) p) (sym says) ∙ ap (λ (r : Result Place Kind). (r and_then λ q. Ok (a_list q size n)) and_then λ o. Ok (found_near o)) (sym begin))

  pub list_near : (size : ElementSize) (n words : ℕ) → to_list offset (size_number size) n ≡ pointer_of w → words ≡ words_for (data_bits (size_number size) * n) → size_number size < 6 → leb (start.position + words) (length bytes / 8) ≡ true → start.position + words < 2 ^ 61
      → IsNear (words_in segments) p (object.List start size n)
  list_near size n words says few plain fit bound =
      let s : Segments = words_in segments in
      let all : ℕ = words_for (data_bits (size_number size) * n) in
      let own : is_some (words_at s (place_view start) all) ≡ true = subst (λ (m : ℕ). is_some (words_at s (place_view start) m) ≡ true) few (inside words fit) in
      (exact_object s p (found_near (a_list (place_view start) (size_number size) n)) (object.List start size n) (listed (size_number size) n says) (whole_plain s start size n plain own), (plain, (own, omega arith)))

  pub pointers_near : (n : ℕ) → to_list offset 6 n ≡ pointer_of w → leb (start.position + n) (length bytes / 8) ≡ true → start.position + n < 2 ^ 61 → IsNear (words_in segments) p (object.PointerList start n)
  pointers_near n says fit bound =
      let s : Segments = words_in segments in
      let own = inside n fit in
      (exact_object s p (found_near (a_list (place_view start) 6 n)) (object.PointerList start n) (listed 6 n says) (plain_of (words_at s (place_view start) n) (object.PointerList start n) own), (own, bound))

  -- its tag is the word where it begins
  pub structs_near : (n tag o d k : ℕ) → to_list offset 7 n ≡ pointer_of w → leb (start.position + (1 + n)) (length bytes / 8) ≡ true → start.position + (1 + n) < 2 ^ 61 → Some tag ≡ slice_get (whole_words bytes) start.position → to_struct o d k ≡ pointer_of tag → o * (d + k) ≤ n
      → IsNear (words_in segments) p (object.StructList (record { segment = start.segment; position = start.position + 1 }) n o d k)
  structs_near n tag o d k says fit bound first tagged few =
      let s : Segments = words_in segments in
      let own = inside (1 + n) fit in
      let same : p.segment ≡ start.segment = sym (begins_where (after p 1) (place_view start) offset (sym begin)) in
      let here : Some bytes ≡ slice_get segments start.segment = subst (λ (i : ℕ). Some bytes ≡ slice_get segments i) same there in
      let at : Some tag ≡ word_at s (place_view start) = first ∙ sym (ap (λ (o : Option (List ℕ)). o >>= λ ws. slice_get ws start.position) (segment_there segments start.segment bytes here)) in
      let fits : leb (start.position + 1 + n) (length bytes / 8) ≡ true = grind (arith, nat_tests) in
      let behind : is_some (words_at s (place start.segment (start.position + 1)) n) ≡ true = words_where segments start.segment (start.position + 1) n bytes here ∙ fits in
      (exact_object s p (found_near (a_list (place_view start) 7 n)) (object.StructList (record { segment = start.segment; position = start.position + 1 }) n o d k) (listed 7 n says) (sym (structs_found s (place_view start) n tag own at o d k tagged few)), ((behind, omega arith), few))

  pub struct_near : (d k : ℕ) → to_struct offset d k ≡ pointer_of w → (w ≡ 0 → ⊥) → leb (start.position + (d + k)) (length bytes / 8) ≡ true → start.position + (d + k) < 2 ^ 61 → IsNear (words_in segments) p (object.Struct start d k)
  struct_near d k says nonzero fit bound =
      let s : Segments = words_in segments in
      let own = inside (d + k) fit in
      (exact_object s p (found_near (a_struct (place_view start) d k)) (object.Struct start d k) found (plain_of (words_at s (place_view start) (d + k)) (object.Struct start d k) own), (own, bound))
    where
      found : found_at (words_in segments) p ≡ Ok (found_near (a_struct (place_view start) d k))
      found =
          let some : eqb w 0 ≡ false = ne_eqb w 0 nonzero in
          rw (at_place, some) (ap (found_by (words_in segments) p) (sym says) ∙ ap (λ (r : Result Place Kind). (r and_then λ q. Ok (a_struct q d k)) and_then λ o. Ok (found_near o)) (sym begin))
