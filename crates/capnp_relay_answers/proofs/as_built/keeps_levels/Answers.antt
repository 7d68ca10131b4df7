use Rattle.std.proofs.Common.{arith}
use Rattle.capnp_model.specs.Segments.{root}
use Rattle.capnp_units.specs.Segments.{words_in}
use Rattle.capnp_relay_answers.proofs.Levels.{LevelLaws, read_with_more}
use Rattle.capnp_relay_answers.proofs.Walks.{deeper}
use Rattle.capnp_relay_answers.proofs.as_built.keeps_levels.Goals as goal

pub returns-in-Ok-clause-keeps : goal.returns-in-Ok-clause-keeps
returns-in-Ok-clause-keeps g c = λ is.
    let laws : LevelLaws = record { deep = c.values_that_are_read.ensures.deep; levels = c.values_that_are_read.ensures.levels } in
    let s = words_in (g.A.ReaderArena.segments c.args.arena.now) in
    let found = c.in-Ok.ensures in
    (found.0, read_with_more laws c.min-most.result c.args.levels s root (omega (arith, c.min-most.ensures)) found.0 found.1)

pub returns-else-most-levels-clause-deeper : goal.returns-else-most-levels-clause-deeper
returns-else-most-levels-clause-deeper g c n t is there =
    let laws : LevelLaws = record { deep = c.values_that_are_read.ensures.deep; levels = c.values_that_are_read.ensures.levels } in
    let s = words_in (g.A.ReaderArena.segments c.args.arena.now) in
    let far = deeper laws c.values_on_walks.ensures.cost s n c.min-most.result t c.new-unlimited.result c.size_at.new.limiter _ c.new-unlimited.ensures.left c.in-Err.ensures there in
    let most = c.if-most-levels.false in
    omega (arith, far, most)
