use Rattle.std.proofs.Common.{length, ap, ◌∙◌}
use Rattle.capnp_model.specs.Bytes.{words_in_bytes}
use Rattle.capnp_copy_arenas.proofs.lemmas.SectionWords.{flat_words}
use Rattle.capnp_layout_builders.proofs.data_section.bytes_of.Goals as goal

pub returns-clause-words : goal.returns-clause-words
returns-clause-words c =
    let words = c.args.words.now in
    ap (words_in_bytes (length words)) c.words_as_bytes.ensures.bytes ∙ flat_words words c.told-words
