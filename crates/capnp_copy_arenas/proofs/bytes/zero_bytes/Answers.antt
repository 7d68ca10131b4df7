use Rattle.capnp_units.specs.Segments.{words_in}
use Rattle.capnp_copy_arenas.proofs.ByteSets.{zeros_then}
use Rattle.capnp_copy_arenas.proofs.bytes.zero_bytes.Goals as goal

pub returns-clause-sets : goal.returns-clause-sets
returns-clause-sets g c =
    let s = words_in (g.A.ReaderArena.segments c.args.arena.now) in
    let u = words_in (g.A.ReaderArena.segments c.zero_front.new.arena) in
    let v = words_in (g.A.ReaderArena.segments c.set_in_word.new.arena) in
    zeros_then s u v c.args.blob.start c.args.blob.count c.zero_front.ensures.sets c.set_in_word.ensures.sets
