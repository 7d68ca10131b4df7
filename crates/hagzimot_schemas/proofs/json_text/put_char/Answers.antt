use Rattle.std.proofs.Common.{◌≡◌, ◌≢◌, ◌∙◌, ◌/◌, ◌%◌, true, false, Some, [], ◌∷◌, ap, sym, arith}
use Rattle.std.specs.Char.{is_ascii_control}
use Rattle.std.specs.Fmt.{styled_digits_output, digit_glyph}
use Rattle.std.proofs.Output.{has_written_of_eq}
use Rattle.hagzimot_schemas.proofs.Escapes.{control_is_byte, control_told, hex_byte_of_four}
use Rattle.hagzimot_schemas.proofs.json_text.put_char.Goals as goal

pub returns-in_default : goal.returns-in_default
returns-in_default g c plain ok =
    let control : is_ascii_control c.args.c ≡ true = sym c.is_ascii_control.ensures.value ∙ c.if-is_ascii_control.true in
    let told : styled_digits_output c.in_radix.result c.laid_out.result ≡ Some (48 ∷ 48 ∷ digit_glyph false (c.args.c / 16) ∷ digit_glyph false (c.args.c % 16) ∷ []) =
    rw (c.laid_out.ensures, c.in_radix.ensures) (ap Some (hex_byte_of_four c.args.c (control_is_byte c.args.c control))) in
    let wrote = rw told at c.write.ensures.writes in
    let feed : c.args.c ≢ 10 = omega arith in
    let return : c.args.c ≢ 13 = omega arith in
    let tab : c.args.c ≢ 9 = omega arith in
    has_written_of_eq _ _ _ _ _ (control_told c.args.c feed return tab control) (wrote plain ok)
