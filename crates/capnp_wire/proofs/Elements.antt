-- The elements of a list in its bytes.
use Rattle.std.proofs.Common.{◌≡◌, ℕ, zero, suc, ◌+◌, ◌*◌, ◌/◌, ◌%◌, ◌^◌, ◌<◌, ◌≤◌, nat_le, if◌then◌else◌, Bool, true, false, List, take, drop, refl, ap, sym, ◌∙◌, subst, arith}
use Rattle.std.proofs.Math.Nat.{mul-le-mul_left}
use Rattle.std.proofs.lemmas.Bool.{leb-true}
use Rattle.std.proofs.lemmas.Bool.Decides.{nat_tests}
use lib.Pow as pow
use Rattle.capnp_model.specs.Sections.{bits_at, number_of}
use Rattle.capnp_model.specs.Readings.{field_bits, just_bits}
use Rattle.capnp_units.specs.declared.sizes.ElementSize.{ElementSize}
use Rattle.capnp_units.specs.declared.sizes.ElementSize.TheVariants.{Void, Bit, Byte, TwoBytes, FourBytes, EightBytes, Pointer, InlineComposite}
use Rattle.capnp_units.specs.Sizes.{size_number}
use Rattle.capnp_model.proofs.lemmas.WordBits.{low_bits}
use Rattle.capnp_wire.specs.Elements.{step_bits, element_bits, step_words}
use Rattle.capnp_wire.proofs.lemmas.Bytes.{number_of-drop, number_of-take}

-- Elements of whole bytes.
pub record AreBytewise (step bits : ℕ) : Type 0 where
  pub steps : step % 8 ≡ 0
  pub widths : bits % 8 ≡ 0
  pub within : bits ≤ step

pub bytewise : (size : ElementSize) (d k : ℕ) → (size_number size ≡ 1 → ⊥) → AreBytewise (step_bits (size_number size) d k) (element_bits (size_number size) d)
bytewise Void d k h = record { steps = refl; widths = refl; within = omega arith }
bytewise Bit d k h = absurd (h refl)
bytewise Byte d k h = record { steps = refl; widths = refl; within = omega arith }
bytewise TwoBytes d k h = record { steps = refl; widths = refl; within = omega arith }
bytewise FourBytes d k h = record { steps = refl; widths = refl; within = omega arith }
bytewise EightBytes d k h = record { steps = refl; widths = refl; within = omega arith }
bytewise Pointer d k h = record { steps = refl; widths = refl; within = omega arith }
bytewise InlineComposite d k h = record { steps = omega arith; widths = omega arith; within = omega arith }

-- plain elements have no pointers
pub no_step_words : (size : ElementSize) (d k count : ℕ) → size_number size < 6 → step_words (size_number size) d k * count ≡ 0
no_step_words Void d k count h = omega arith
no_step_words Bit d k count h = omega arith
no_step_words Byte d k count h = omega arith
no_step_words TwoBytes d k count h = omega arith
no_step_words FourBytes d k count h = omega arith
no_step_words EightBytes d k count h = omega arith
no_step_words Pointer d k count h = absurd (omega arith)
no_step_words InlineComposite d k count h = absurd (omega arith)

-- the bits of an element lie among those of all
pub bits_inside : (step bits index count : ℕ) → bits ≤ step → index < count → step * index + bits ≤ step * count
bits_inside step bits index count w h =
    let next : step * (index + 1) ≤ step * count = mul-le-mul_left step (omega arith) in
    omega arith

element_fits : (step bits index count size : ℕ) → AreBytewise step bits → index < count → step * count ≤ 8 * size → step / 8 * index + bits / 8 ≤ size
element_fits step bits index count size b h inside =
    let q = step / 8 in
    let whole : step ≡ 8 * q = let e = b.steps in omega arith in
    let next : q * (index + 1) ≤ q * count = mul-le-mul_left q (omega arith) in
    let all : 8 * (q * count) ≤ 8 * size = subst (λ (s : ℕ). s * count ≤ 8 * size → 8 * (q * count) ≤ 8 * size) (sym whole) (λ g. omega arith) inside in
    let e = b.widths in
    let w = b.within in
    omega arith

pub element_inside : (x y step bits index count size : ℕ) → x ≡ step → y ≡ bits → AreBytewise step bits → index < count → step * count ≤ 8 * size → x / 8 * index + y / 8 ≤ size
element_inside x y step bits index count size e f b h inside = rw (e, f) (element_fits step bits index count size b h inside)

-- ---- bits below a bound

pub bits_of_low : (s j width m : ℕ) → j + width ≤ m → bits_at j width (s % 2 ^ m) ≡ bits_at j width s
bits_of_low s j width m h =
    sym (pow.field (s % 2 ^ m) width j) ∙ ap (λ (z : ℕ). z / 2 ^ j) (low_bits s (width + j) m (omega arith)) ∙ pow.field s width j

-- the bytes of an element are its bits
element_bytes : (step bits index count : ℕ) (bytes : List ℕ) → AreBytewise step bits → index < count
    → number_of 8 (take (bits / 8) (drop (step / 8 * index) bytes)) ≡ bits_at (step * index) bits (number_of 8 bytes % 2 ^ (step * count))
element_bytes step bits index count bytes b h =
    let q = step / 8 in
    let whole : step ≡ 8 * q = let e = b.steps in omega arith in
    let at : 8 * (q * index) ≡ step * index = subst (λ (s : ℕ). 8 * (q * index) ≡ s * index) (sym whole) (omega arith) in
    let width : 8 * (bits / 8) ≡ bits = let e = b.widths in omega arith in
    number_of-take 8 (bits / 8) (drop (q * index) bytes) ∙ ap (λ (n : ℕ). n % 2 ^ (8 * (bits / 8))) (number_of-drop 8 (q * index) bytes)
    ∙ ap (λ (n : ℕ). number_of 8 bytes / 2 ^ n % 2 ^ (8 * (bits / 8))) at ∙ ap (λ (n : ℕ). number_of 8 bytes / 2 ^ (step * index) % 2 ^ n) width
    ∙ sym (bits_of_low (number_of 8 bytes) (step * index) bits (step * count) (bits_inside step bits index count b.within h))

pub element_is : (x y n step bits index count : ℕ) (bytes : List ℕ) → x ≡ step → y ≡ bits → n ≡ y / 8 → AreBytewise step bits → index < count
    → number_of 8 (take n (drop (x / 8 * index) bytes)) ≡ bits_at (step * index) bits (number_of 8 bytes % 2 ^ (step * count))
element_is x y n step bits index count bytes e f w b h = rw (w, e, f) (element_bytes step bits index count bytes b h)

-- ---- the number at the front of an element

front_of_bits : (a e w s : ℕ) → w ≤ e → bits_at 0 w (bits_at a e s) ≡ bits_at a w s
front_of_bits a e w s h =
    let one : s / 2 ^ a % 2 ^ e / 2 ^ 0 ≡ s / 2 ^ a % 2 ^ e = omega arith in
    ap (λ (n : ℕ). n % 2 ^ w) one ∙ low_bits (s / 2 ^ a) w e h

pub element_field : (at a e w s : ℕ) → at ≡ 0 → field_bits (just_bits e) (bits_at a e s) at w ≡ (if nat_le w e then bits_at a w s else 0)
element_field at a e w s z = ap (λ (n : ℕ). field_bits (just_bits e) (bits_at a e s) n w) z ∙ ap (λ (n : ℕ). if nat_le n e then bits_at 0 w (bits_at a e s) else 0) sum ∙ by (nat_le w e) refl
  where
    sum : 0 + w ≡ w
    sum = omega arith

    by : (b : Bool) → nat_le w e ≡ b → (if b then bits_at 0 w (bits_at a e s) else 0) ≡ (if b then bits_at a w s else 0)
    by true h = front_of_bits a e w s (leb-true w e h)
    by false h = refl

-- a single bit is no number of bytes
pub no_number : (n a s : ℕ) → 0 ≡ (if nat_le (8 * n) 1 then bits_at a (8 * n) s else 0)
no_number zero a s = let e : 0 ≡ s / 2 ^ a % 2 ^ 0 = omega arith in e
no_number (suc n) a s = let no : nat_le (8 * suc n) 1 ≡ false = grind (arith, nat_tests) in rw no refl

-- a single bit of those of all
pub bit_element : (i count n : ℕ) → i < count → bits_at i 1 n ≡ bits_at (1 * i) 1 (n % 2 ^ (1 * count))
bit_element i count n h =
    let one : 1 * i ≡ i = omega arith in
    sym (ap (λ (m : ℕ). bits_at m 1 (n % 2 ^ (1 * count))) one ∙ bits_of_low n i 1 (1 * count) (omega arith))
