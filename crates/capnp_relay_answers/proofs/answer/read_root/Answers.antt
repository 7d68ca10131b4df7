use Rattle.std.proofs.Common.{ap, sym, subst, ◌∙◌}
use Rattle.capnp_model.specs.Trimming.{trim}
use Rattle.capnp_units.specs.Segments.{words_in}
use Rattle.capnp_wire_canonical.specs.Writes.{filled}
use Rattle.capnp_relay_answers.specs.Reading.{ReadsWithinBounds, ReadsValue}
use Rattle.capnp_relay_answers.proofs.Whole.{no_value, no_struct}
use Rattle.capnp_relay_answers.proofs.answer.read_root.Goals as goal

pub returns-in_default-clause-root : goal.returns-in_default-clause-root
returns-in_default-clause-root g c schema calls any =
    let s = words_in (g.M.ReaderArena.segments c.args.message.now) in
    no_value schema calls c.args.bounds s any (subst (ReadsWithinBounds c.args.bounds s c.read_value.new.words.items) c.in_default.is c.in_ok-count.ensures)

pub returns-then-not-can_be_opened-clause-root : goal.returns-then-not-can_be_opened-clause-root
returns-then-not-can_be_opened-clause-root g c schema calls any =
    let s = words_in (g.M.ReaderArena.segments c.args.message.now) in
    let into = c.read_value.new.words.items in
    let r : ReadsValue c.args.bounds s into c.in-Some.count = subst (ReadsWithinBounds c.args.bounds s into) c.in-Some.is c.in_ok-count.ensures in
    let same = ap (filled c.in-Some.count) c.deref.ensures.value ∙ r.words in
    no_struct schema calls c.args.bounds s into any c.in-Some.count r (sym (c.can_be_opened.ensures (trim r.value) same) ∙ c.if-not-can_be_opened.true)

pub returns-clause-root : goal.returns-clause-root
returns-clause-root g c =
    let s = words_in (g.M.ReaderArena.segments c.args.message.now) in
    let into = c.read_value.new.words.items in
    let r : ReadsValue c.args.bounds s into c.in-Some.count = subst (ReadsWithinBounds c.args.bounds s into) c.in-Some.is c.in_ok-count.ensures in
    let same = ap (filled c.in-Some.count) c.deref.ensures.value ∙ r.words in
    (r, sym (c.can_be_opened.ensures (trim r.value) same) ∙ c.if-not-can_be_opened.false)
