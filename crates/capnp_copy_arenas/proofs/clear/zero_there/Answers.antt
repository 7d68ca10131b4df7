use Rattle.std.proofs.Common.{ap, ◌∙◌, sym, arith, length, map, replicate, rules, ◌≡◌}
use Rattle.capnp_model.specs.Segments.{Segments}
use Rattle.capnp_units.specs.Segments.{words_in}
use Rattle.capnp_wire_objects.specs.Places.{place_view}
use Rattle.capnp_model_writes.specs.Writes.{with_words}
use Rattle.capnp_copy_arenas.specs.Clearing.{nonzero_words, zeroed_there}
use Rattle.capnp_copy_arenas.proofs.lemmas.ZeroedWords.{written_sizes, zeroes_fewer}
use Rattle.capnp_copy_arenas.proofs.clear.zero_there.Goals as goal

pub returns-then-has_words-clause-sizes : goal.returns-then-has_words-clause-sizes
returns-then-has_words-clause-sizes g c = ap (λ (s : Segments). map length s) c.zero_words.ensures.words ∙ written_sizes (words_in (g.A.ReaderArena.segments c.args.arena.now)) (place_view c.args.place) (replicate c.args.count 0)

pub returns-then-has_words-clause-nonzero : goal.returns-then-has_words-clause-nonzero
returns-then-has_words-clause-nonzero g c =
    let e = ap nonzero_words c.zero_words.ensures.words in
    omega (arith, e, zeroes_fewer (words_in (g.A.ReaderArena.segments c.args.arena.now)) (place_view c.args.place) c.args.count)
