use Rattle.std.proofs.Common.{◌≡◌, ◌<◌, ◌^◌, Some, None, sym, ap}
use Rattle.std.specs.Result.{result_ok}
use Rattle.std.proofs.lemmas.Result.{Ok-from_Ok_iff}
use Rattle.hagzimot_floats.proofs.HexDigits.{hex_is_below}
use Rattle.hagzimot_floats.proofs.float_bits.float32_bits.Goals as goal

pub returns-in_err-bits-clause-payload : goal.returns-in_err-bits-clause-payload
returns-in_err-bits-clause-payload c hex is =
    let low : c.in_ok-payload.field-0 < 2 ^ 32 = hex_is_below 8 hex _ (sym (c.in_ok-payload.ensures.number hex is)) in
    let some : result_ok c.try_from.result ≡ Some c.in_ok-payload.field-0 = ap result_ok (Ok-from_Ok_iff c.try_from.result _ _ c.try_from.ensures low) in
    let none : c.ok-2.result ≡ None = c.in_err-bits.was in
    cc (c.ok-2.ensures.value)
