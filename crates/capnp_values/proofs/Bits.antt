-- The bits of fields.
use Rattle.std.specs.Int.Bits.{xor_zero_r}
use Rattle.std.proofs.Common.{◌≡◌, ap, ◌∙◌, ℕ, ◌+◌, ◌*◌, ◌^◌, ◌<◌, ◌/◌, Bool, true, false, if◌then◌else◌, nat_le, arith}
use Rattle.std.proofs.Math.Nat.{mod-lt}
use Rattle.std.proofs.lemmas.Nat.{xor_lt, pow_pos}
use Rattle.capnp_model.specs.Sections.{bits_at}
use Rattle.capnp_model.specs.Readings.{field_bits, just_bits}
use Rattle.capnp_wire.specs.Views.{StructView}
use Rattle.capnp_model.proofs.lemmas.Bits.{bits_at-lt}
use Rattle.capnp_values.specs.Sources.{masked_bits}

pub either_lt : (b : Bool) (x y : ℕ) → x < 2 ^ y → (if b then x else 0) < 2 ^ y
either_lt true x y h = h
either_lt false x y h = pow_pos y

-- what is stored is within the width, and stays so with a default that is
pub masked_bits-lt : (v : StructView) (at width default : ℕ) → default < 2 ^ width → masked_bits v at width default < 2 ^ width
masked_bits-lt v at width default h =
    xor_lt width (field_bits (just_bits v.bits) v.section at width) default (either_lt (nat_le (at + width) v.bits) (bits_at at width v.section) width (bits_at-lt at width v.section)) h

-- a discriminant, which has no default
pub tag_bits : (v : StructView) (offset n : ℕ) → n ≡ masked_bits v (8 * (2 * offset)) (8 * 2) 0 → n ≡ field_bits (just_bits v.bits) v.section (16 * offset) 16
tag_bits v offset n e =
    e ∙ xor_zero_r (field_bits (just_bits v.bits) v.section (8 * (2 * offset)) 16) ∙ ap (λ at. field_bits (just_bits v.bits) v.section at 16) (let same : 8 * (2 * offset) ≡ 16 * offset = omega arith in same)
