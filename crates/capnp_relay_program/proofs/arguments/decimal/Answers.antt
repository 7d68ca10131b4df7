use Rattle.std.proofs.Common.{rules, ◌≡◌, ◌∙◌, ◌≢◌, get_or}
use Rattle.std.proofs.lemmas.Str.Parse.{parse_plain}
use Rattle.capnp_relay_program.proofs.Digits.{numerals, decimal_is, no_sign}
use Rattle.capnp_relay_program.proofs.arguments.decimal.Goals as goal

pub returns : goal.returns
returns c =
    let plain : get_or c.args.word.now 0 0 ≢ 43 = search rules in
    c.ok.ensures.value ∙ decimal_is c.args.word.now c.parse.result (parse_plain numerals 64 c.args.word.now c.parse.result c.parse.ensures.value.0 plain)
