use Rattle.std.proofs.Common.{◌≡◌, ◌<◌, ◌/◌, ◌^◌, ◌∙◌, length, rules, arith, ap, List, ℕ, set}
use Rattle.capnp_model.specs.Sections.{section_of}
use Rattle.capnp_wire_canonical.specs.Writes.{words_view}
use Rattle.capnp_layout_builders.proofs.DataSections.{bits_put}
use Rattle.capnp_layout_builders.proofs.data_section.DataSection.set_bits.Goals as goal

pub returns : goal.returns
returns g c =
    let words = c.args.self.now.words in
    let at = c.args.at in
    let long : length words ≡ g.row.N = search rules in
    let less : at / 64 < length words = omega (arith, long, c.requires.inside, c.requires.one_word.1) in
    let put = c.word_with-word in
    ap (λ (word : List ℕ). section_of (words_view (set words (at / 64) word))) c.to_le_bytes.ensures
    ∙ bits_put words at c.args.width c.args.value c.from_le_bytes-word.result put.result less c.requires.one_word.0 c.requires.fits c.from_le_bytes-word.ensures c.from_le_bytes-word.type_inv put.ensures.bits put.type_inv
