-- The words of the segment are counted.
use Rattle.std.proofs.Common.{sym, ◌∙◌}
use Rattle.capnp_wire_objects.proofs.lemmas.Words.{words_where, no_words}
use Rattle.capnp_wire_objects.proofs.place.has_words.Goals as goal

pub returns-in-Some-clause-there : goal.returns-in-Some-clause-there
returns-in-Some-clause-there g c = c.reach.ensures.there ∙ sym (words_where (g.A.ReaderArena.segments c.args.arena.now) c.args.place.segment c.args.place.position c.args.count c.in-Some.bytes.now c.in-Some.ensures)

pub returns-in-None-clause-there : goal.returns-in-None-clause-there
returns-in-None-clause-there g c = no_words (g.A.ReaderArena.segments c.args.arena.now) c.args.place.segment c.args.place.position c.args.count c.in-None.ensures
