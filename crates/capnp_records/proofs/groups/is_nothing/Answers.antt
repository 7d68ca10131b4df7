use Rattle.std.proofs.Common.{◌≡◌, ◌==◌, ◌<◌, true, length, sym, ◌∙◌, arith}
use Rattle.std.proofs.lemmas.Bool.Decides.{nat_tests}
use Rattle.capnp_records.proofs.lemmas.ListTests.{no_more}
use Rattle.capnp_records.proofs.groups.is_nothing.Goals as goal

pub returns : goal.returns
returns c = λ h.
    let none : (length c.args.ids.now == 0) ≡ true = sym c.is_empty.ensures ∙ h in
    let short : length c.args.ids.now < 1 = grind (arith, nat_tests) in
    no_more c.args.ids.now short
