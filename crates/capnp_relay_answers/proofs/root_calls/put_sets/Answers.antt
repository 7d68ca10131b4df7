use Rattle.std.proofs.Common.{sym, subst, ◌∙◌}
use Rattle.capnp_calls_in_place.specs.PlainSets.{SetsWords}
use Rattle.capnp_relay_answers.proofs.Plain.{front_new}
use Rattle.capnp_relay_answers.proofs.Whole.{view_front}
use Rattle.capnp_relay_answers.proofs.root_calls.put_sets.Goals as goal

pub returns-clause-sets : goal.returns-clause-sets
returns-clause-sets c schema calls t done plain fits trimmed same =
    let count = c.args.count in
    let old = c.args.words.now in
    let new = c.write_sets.new.words in
    subst (SetsWords schema calls t) (sym (front_new count old new c.write_sets.ensures.len c.requires)) (c.write_sets.ensures.sets schema calls t done plain fits trimmed (view_front count old ∙ same))
