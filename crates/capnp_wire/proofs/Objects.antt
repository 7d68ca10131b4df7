-- Objects as they are read.
use Rattle.std.proofs.Common.{◌≡◌, ℕ, ◌+◌, ◌-◌, ◌*◌, ◌/◌, ◌≤◌, eqb, if◌then◌else◌, Bool, true, false, List, [], ◌∷◌, length, get_or, take, Option, Some, Result, Ok, Err, ◌⊎◌, inl, inr, refl, ap, sym, ◌∙◌, subst, arith}
use Rattle.std.proofs.lemmas.Bool.{eqb-true}
use Rattle.capnp_model.specs.Kinds.{Kind, TextWithoutZeroByte}
use Rattle.capnp_model.specs.Sections.{numbers_in, words_for}
use Rattle.capnp_model.specs.Segments.{Segments, Place, after}
use Rattle.capnp_model.specs.Trees.{plain_elements}
use Rattle.capnp_model.specs.Readings.{is_accepted_as}
use Rattle.capnp_units.specs.declared.errors.Error.{Error}
use Rattle.capnp_units.specs.declared.kinds.ErrorKind.{ErrorKind}
use Rattle.capnp_units.specs.declared.sizes.ElementSize.{ElementSize}
use Rattle.capnp_units.specs.declared.sizes.ElementSize.TheVariants.{Void, Bit, Byte, TwoBytes, FourBytes, EightBytes, Pointer, InlineComposite}
use Rattle.capnp_units.specs.Errors.{kind_of}
use Rattle.capnp_units.specs.Sizes.{size_number}
use Rattle.capnp_wire_objects.specs.declared.place.Place as wire
use Rattle.capnp_wire_objects.specs.declared.object.Object.TheVariants as object
use Rattle.capnp_wire_objects.specs.Places.{place_view}
use Rattle.capnp_wire_objects.specs.Objects.{AreThere, IsInside}
use Rattle.capnp_wire.specs.Levels.{level_below}
use Rattle.capnp_wire.specs.Views.{Ground, section_at, StructView, struct_view, list_view}
use Rattle.capnp_wire.specs.Reads.{read_struct, read_bytes, as_text, list_head, read_elements}
use Rattle.capnp_wire.proofs.Passing.{level_left}

-- the kind of a refusal
pub refused_by : {A : Type 0} (e : Error) (k : ErrorKind) (x : Result A Kind) → e.kind ≡ k → x ≡ Err (kind_of k) → x ≡ Err (kind_of e.kind)
refused_by {A = A} e k x is h = h ∙ ap (λ (j : ErrorKind). let s : Result A Kind = Err (kind_of j) in s) (sym is)

-- ---- structs

pub struct_read : (g : Ground) (levels left : Option ℕ) (p : wire.Place) (d k section n : ℕ) (v : StructView) → Ok left ≡ level_below levels → n ≡ 8 * d → section ≡ section_at g.segments (place_view p) d
    → v ≡ struct_view g section (8 * n) (after (place_view p) d) k left → read_struct g levels (object.Struct p d k) ≡ Ok v
struct_read g levels left p d k section n v ok long same is =
    let q = place_view p in
    let bits : 8 * n ≡ 64 * d = omega arith in
    let view : v ≡ struct_view g (section_at g.segments q d) (64 * d) (after q d) k left =
    is ∙ ap (λ (m : ℕ). struct_view g m (8 * n) (after q d) k left) same ∙ ap (λ (m : ℕ). struct_view g (section_at g.segments q d) m (after q d) k left) bits in
    sym (level_left levels left (λ l. Ok (struct_view g (section_at g.segments q d) (64 * d) (after q d) k l)) (Ok v) ok (ap (λ (x : StructView). Ok x) view))

-- ---- bytes

pub bytes_inside : (s : Segments) (p : wire.Place) (size : ElementSize) (n : ℕ) → size ≡ Byte → IsInside s (object.List p size n) → AreThere s (place_view p) ((n + 7) / 8)
bytes_inside s p size n is inside =
    let there = subst (λ (z : ElementSize). IsInside s (object.List p z n)) is inside in
    let words : words_for (8 * n) ≡ (n + 7) / 8 = omega arith in
    subst (AreThere s (place_view p)) words there.1

pub byte_list_read : (g : Ground) (levels left : Option ℕ) (p : wire.Place) (n section : ℕ) (bytes : List ℕ) → Ok left ≡ level_below levels → section ≡ section_at g.segments (place_view p) ((n + 7) / 8)
    → bytes ≡ numbers_in 8 n section → read_bytes g levels (object.List p Byte n) ≡ Ok (Some bytes)
byte_list_read g levels left p n section bytes ok same is =
    let words : (n + 7) / 8 ≡ words_for (8 * n) = omega arith in
    let all = is ∙ ap (numbers_in 8 n) (same ∙ ap (section_at g.segments (place_view p)) words) in
    sym (level_left levels left (λ _. Ok (Some (plain_elements 2 n (section_at g.segments (place_view p) (words_for (8 * n)))))) (Ok (Some bytes)) ok (ap (λ (xs : List ℕ). Ok (Some xs)) all))

-- ---- texts

-- one byte less
one_less : (b : ℕ) (bs : List ℕ) → length (b ∷ bs) - 1 ≡ length bs
one_less b bs = omega arith

pub text_kept : (xs : List ℕ) → 1 ≤ length xs → get_or xs (length xs - 1) 0 ≡ 0 → as_text (Some xs) ≡ Ok (take (length xs - 1) xs)
text_kept [] some last = absurd (omega arith)
text_kept (b ∷ bs) some last =
    let e = one_less b bs in
    let zero_is : get_or (b ∷ bs) (length bs) 0 ≡ 0 = ap (λ (m : ℕ). get_or (b ∷ bs) m 0) (sym e) ∙ last in
    ap (λ (m : ℕ). if eqb m 0 then Ok (take (length bs) (b ∷ bs)) else Err TextWithoutZeroByte) zero_is ∙ ap (λ (m : ℕ). Ok (take m (b ∷ bs))) (sym e)

pub text_bare : (xs : List ℕ) → (length xs ≡ 0) ⊎ (get_or xs (length xs - 1) 0 ≡ 0 → ⊥) → as_text (Some xs) ≡ Err TextWithoutZeroByte
text_bare [] why = refl
text_bare (b ∷ bs) (inl none) = absurd (omega arith)
text_bare (b ∷ bs) (inr other) = by (eqb (get_or (b ∷ bs) (length bs) 0) 0) refl
  where
    by : (c : Bool) → eqb (get_or (b ∷ bs) (length bs) 0) 0 ≡ c → (if c then Ok (take (length bs) (b ∷ bs)) else Err TextWithoutZeroByte) ≡ Err TextWithoutZeroByte
    by true h = absurd (other (ap (λ (m : ℕ). get_or (b ∷ bs) m 0) (one_less b bs) ∙ eqb-true (get_or (b ∷ bs) (length bs) 0) 0 h))
    by false h = refl

-- ---- lists

-- single bits are read as single bits alone
pub bits_are_expected : (expected size : ElementSize) (d k : ℕ) → true ≡ is_accepted_as (size_number expected) (list_head size d k) → (size_number expected ≡ 1 → ⊥) → size_number size ≡ 1 → ⊥
bits_are_expected expected Bit d k accepted other e = other (eqb-true (size_number expected) 1 (sym accepted))
bits_are_expected expected Void d k accepted other e = absurd cc
bits_are_expected expected Byte d k accepted other e = absurd cc
bits_are_expected expected TwoBytes d k accepted other e = absurd cc
bits_are_expected expected FourBytes d k accepted other e = absurd cc
bits_are_expected expected EightBytes d k accepted other e = absurd cc
bits_are_expected expected Pointer d k accepted other e = absurd cc
bits_are_expected expected InlineComposite d k accepted other e = absurd cc

-- elements of the same section read alike
pub section_read : (g : Ground) (levels : Option ℕ) (expected size : ElementSize) (n d k a b : ℕ) (q : Place) → a ≡ b
    → read_elements levels expected (list_view g size n b q d k) size d k ≡ read_elements levels expected (list_view g size n a q d k) size d k
section_read g levels expected size n d k a b q e = ap (λ (s : ℕ). read_elements levels expected (list_view g size n s q d k) size d k) (sym e)
