use Rattle.std.proofs.Common.{◌≡◌, ◌∷◌, [], ◌≤◌, false, rules}
use Rattle.std.specs.Fmt.{digits}
use Rattle.capnp_values_print.proofs.TwoBlanks.{two_signs}
use Rattle.capnp_values_print.proofs.single.push_control.Goals as goal

pub returns : goal.returns
returns c =
    let some : 16 ≤ c.args.byte = search (rules, c.if-byte-lt16.false) in
    let e : digits 16 false c.args.byte ≡ 49 ∷ c.hex_digit-2.result ∷ [] = two_signs c.args.byte c.hex_digit-2.result some c.requires c.hex_digit-2.ensures in
    rw e (search (rules, c.extend_from_slice-2.ensures.items))
