-- The words that are there lie inside their segment.
use Rattle.std.proofs.Common.{List, ℕ, ◌∙◌}
use Rattle.capnp_wire.specs.Grounds.{backing_bytes}
use Rattle.capnp_wire_objects.proofs.lemmas.Words.{words_end}
use Rattle.capnp_wire.proofs.lemmas.BackedBytes.{section_there, segment_is}
use Rattle.capnp_wire.proofs.backing.Backing.lend_of.Goals as goal

pub words_of-requires : goal.words_of-requires
words_of-requires g c =
    let s : List (List ℕ) = backing_bytes g.A.ReaderArena.segments c.args.self in
    let there = segment_is s c.args.start.segment c.args.start.position c.args.words c.args.bytes.now c.requires.bytes c.requires.there.0 in
    words_end s c.args.start.segment c.args.start.position c.args.words c.args.bytes.now there c.requires.there.0

pub returns-clause-section : goal.returns-clause-section
returns-clause-section g c =
    let s : List (List ℕ) = backing_bytes g.A.ReaderArena.segments c.args.self in
    let there = segment_is s c.args.start.segment c.args.start.position c.args.words c.args.bytes.now c.requires.bytes c.requires.there.0 in
    let within = words_end s c.args.start.segment c.args.start.position c.args.words c.args.bytes.now there c.requires.there.0 in
    c.words_of.ensures.section ∙ section_there s c.args.start.segment c.args.start.position c.args.words c.args.bytes.now there within
