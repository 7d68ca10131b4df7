use Rattle.std.proofs.Common.{ap, ◌∙◌, [], ◌∷◌, arith, length, map}
use Rattle.capnp_model.specs.Segments.{Segments}
use Rattle.capnp_units.specs.Segments.{words_in}
use Rattle.capnp_wire_objects.specs.Places.{place_view}
use Rattle.capnp_copy_arenas.specs.Clearing.{nonzero_words}
use Rattle.capnp_copy_arenas.proofs.lemmas.ZeroedWords.{written_sizes, null_fewer, null_there}
use Rattle.capnp_copy_arenas.proofs.clear.write_null.Goals as goal

pub write_word-requires : goal.write_word-requires
write_word-requires g c = null_there (words_in (g.A.ReaderArena.segments c.args.arena.now)) (place_view c.args.slot) c.requires

pub returns-clause-sizes : goal.returns-clause-sizes
returns-clause-sizes g c = ap (λ (s : Segments). map length s) c.write_word.ensures.words ∙ written_sizes (words_in (g.A.ReaderArena.segments c.args.arena.now)) (place_view c.args.slot) (0 ∷ [])

pub returns-clause-fewer : goal.returns-clause-fewer
returns-clause-fewer g c =
    let e = ap nonzero_words c.write_word.ensures.words in
    omega (arith, e, null_fewer (words_in (g.A.ReaderArena.segments c.args.arena.now)) (place_view c.args.slot) c.requires)
