use Rattle.std.proofs.Common.{◌≡◌, ◌+◌, ◌-◌, ◌*◌, ◌%◌, ◌≤◌, ℕ, arith, rules, length}
use Rattle.capnp_units.specs.Segments.{words_in}
use Rattle.capnp_copy_arenas.proofs.ByteSets.{sets_then}
use Rattle.capnp_copy_arenas.proofs.bytes.set_bytes.Goals as goal

pub returns-clause-sets : goal.returns-clause-sets
returns-clause-sets g c =
    let s = words_in (g.A.ReaderArena.segments c.args.arena.now) in
    let u = words_in (g.A.ReaderArena.segments c.set_in_word-2.new.arena) in
    let v = words_in (g.A.ReaderArena.segments c.set_from_word.new.arena) in
    let bytes = c.args.bytes.now in
    let l = c.if-bytes-front.false in
    sets_then s u v c.args.blob.start c.args.at ((8 - c.args.at % 8) % 8) bytes (omega (arith, l)) c.set_in_word-2.ensures.sets c.set_from_word.ensures.sets
