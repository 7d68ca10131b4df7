use Rattle.std.proofs.Common.{inl, inr, ◌+◌, ◌*◌, ◌<◌, ◌^◌, arith}
use Rattle.std.proofs.lemmas.Bool.{cases_lt}
use Rattle.capnp_copy_widening.proofs.MovedLists.{times_some}
use Rattle.capnp_copy_widening.proofs.struct_lists.words_of_wider.Goals as goal

pub returns-clause-few : goal.returns-clause-few
returns-clause-few c =
    let within = c.if-words.false in
    let all : c.args.old.count * c.total.result < 2 ^ 29 = omega (arith, within) in
    let few : c.args.old.count < 2 ^ 29 = elim (cases_lt 0 c.total.result) [
      | inl l ↦ omega (arith, all, times_some c.args.old.count c.total.result l)
      | inr l ↦ c.requires.short (omega (arith, l, c.total.ensures))
    ] in
    (few, all)
