use Rattle.std.proofs.Common.{◌≡◌, ◌+◌, ◌*◌, ◌/◌, ◌≤◌, ℕ, arith, length}
use Rattle.capnp_units.specs.Segments.{words_in}
use Rattle.capnp_copy_arenas.proofs.ByteSets.{sets_then}
use Rattle.capnp_copy_arenas.proofs.bytes.set_from_word.Goals as goal

pub returns-clause-sets : goal.returns-clause-sets
returns-clause-sets g c =
    let s = words_in (g.A.ReaderArena.segments c.args.arena.now) in
    let u = words_in (g.A.ReaderArena.segments c.set_words.new.arena) in
    let v = words_in (g.A.ReaderArena.segments c.set_in_word.new.arena) in
    let bytes = c.args.bytes.now in
    sets_then s u v c.args.start c.args.at (length bytes / 8 * 8) bytes (omega arith) c.set_words.ensures.sets c.set_in_word.ensures.sets
