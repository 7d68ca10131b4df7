-- A word of the section is written.
use Rattle.std.proofs.Common.{ap, ◌∙◌}
use Rattle.capnp_model.specs.Sections.{with_bits}
use Rattle.capnp_calls_splice.proofs.lemmas.DataWords.{slice_put}
use Rattle.capnp_calls_splice.proofs.words.put.Goals as goal

pub returns-clause-words : goal.returns-clause-words
returns-clause-words c = λ section is.
    let word = c.word_with-word in
    slice_put c.args.slice.now c.args.set word.result c.to_le_bytes.result section is c.requires (word.ensures.bits ∙ ap (with_bits c.args.set.shift c.args.set.width c.args.set.bits) c.from_le_bytes.ensures) word.type_inv c.to_le_bytes.ensures
