use Rattle.std.proofs.Common.{◌≡◌, ◌∙◌, length, sym, arith}
use Rattle.hagzimot_floats.proofs.HexDigits.{hex_is_read}
use Rattle.hagzimot_floats.proofs.float_bits.number_of_hex.Goals as goal

pub returns : goal.returns
returns c =
    let long : length c.args.hex.now ≡ c.args.digits = omega arith in
    c.ok.ensures.value ∙ hex_is_read c.args.digits c.args.hex.now c.from_str_radix.result c.requires.some c.requires.few long (sym c.are_hex_digits.ensures ∙ c.if-not-are_hex_digits.false) c.from_str_radix.ensures.value
