-- The words are those of bytes.
use Rattle.capnp_wire_canonical.proofs.Held.{words_held}
use Rattle.capnp_wire_canonical.proofs.own_words.are_words_of.Goals as goal

pub returns : goal.returns
returns g c = words_held (g.A.ReaderArena.segments c.args.arena.now) c.args.segment c.args.bytes.now c.requires c.are_bytes.ensures
