use Rattle.std.proofs.Common.{◌*◌, ◌/◌, ◌≤◌, length, subst, arith}
use Rattle.std.proofs.lemmas.Bool.{leb-true}
use Rattle.std.proofs.Math.Nat.{mul-div-le, mul-le-mul_left}
use Rattle.capnp_relay_program.proofs.ahead.holds_words.Goals as goal

pub returns : goal.returns
returns g c = λ holds n few.
    let most = g.F.BoundedForm.MOST_BYTES in
    let room = length c.args.bytes.now in
    let told = leb-true _ _ holds in
    let fits : n ≤ room / most = subst (λ m. n ≤ room / m) c.MOST_BYTES.ensures (omega (arith, told, few)) in
    let suffice : most * n ≤ room = omega (arith, mul-le-mul_left most fits, mul-div-le room most) in
    g.met.F.BoundedForm.enough n c.args.bytes.now suffice
