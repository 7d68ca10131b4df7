use Rattle.std.proofs.Common.{◌≡◌, ◌<◌, ◌/◌, ◌∙◌, length, rules, arith}
use Rattle.capnp_layout_builders.proofs.DataSections.{bits_got}
use Rattle.capnp_layout_builders.proofs.data_section.DataSection.get_bits.Goals as goal

pub returns : goal.returns
returns g c =
    let words = c.args.self.now.words in
    let at = c.args.at in
    let long : length words ≡ g.row.N = search rules in
    let less : at / 64 < length words = omega (arith, long, c.requires.inside, c.requires.one_word.1) in
    c.bits_in.ensures ∙ bits_got words at c.args.width c.from_le_bytes-word.result less c.requires.one_word.0 c.from_le_bytes-word.ensures
