-- A part of bytes is that part of their words.
use Rattle.std.proofs.Common.{◌≡◌, ℕ, ◌+◌, ◌-◌, ◌*◌, take, drop, ap, ◌∙◌, arith}
use Rattle.capnp_model.specs.Sections.{number_of}
use Rattle.capnp_wire.proofs.lemmas.BackedBytes.{section_of_part}
use Rattle.capnp_wire.proofs.backing.words_of.Goals as goal

pub returns-clause-section : goal.returns-clause-section
returns-clause-section c =
    let width : 8 * (c.args.position + c.args.words) - 8 * c.args.position ≡ 8 * c.args.words = omega arith in
    ap (λ (n : ℕ). number_of 8 (take n (drop (8 * c.args.position) c.args.bytes.now))) width ∙ section_of_part c.args.position c.args.words c.args.bytes.now (λ i. let h = c.type_inv.bytes i in omega arith) c.requires
