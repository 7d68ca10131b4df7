use Rattle.std.proofs.Common.{◌≡◌, ◌<◌, ℕ, [], ◌∷◌, length, map, refl, ap, ◌∙◌, subst, rules, arith}
use Rattle.capnp_model.specs.Segments.{Segments, after}
use Rattle.capnp_units.specs.Segments.{words_in}
use Rattle.capnp_wire_objects.specs.Places.{place_view}
use Rattle.capnp_copy_arenas.proofs.lemmas.RoomLaws.{still_some, sizes_grow}
use Rattle.capnp_copy_arenas.proofs.lemmas.Parts.{section_there}
use Rattle.capnp_copy_arenas.proofs.lemmas.ZeroedWords.{written_sizes}
use Rattle.capnp_copy_widening.proofs.Copied.{CopiedSoFar, copied_none, copied_next, copied_all}
use Rattle.capnp_copy_widening.proofs.moves.copy_words.Goals as goal

pub loop-i-init : goal.loop-i-init
loop-i-init g c = (copied_none (words_in (g.A.ReaderArena.segments c.args.arena.now)) (place_view c.args.from) (place_view c.args.to) c.args.count, refl, refl)

pub write_word-requires : goal.write_word-requires
write_word-requires g c =
    let s = words_in (g.A.ReaderArena.segments c.args.arena.now) in
    let u = words_in (g.A.ReaderArena.segments c.loop-i.arena) in
    let next : c.loop-i.i < c.args.count = search rules in
    still_some s u (after (place_view c.args.to) c.loop-i.i) 1 (sizes_grow s u c.loop-i.invariant.1) (section_there s (place_view c.args.to) c.loop-i.i 1 c.args.count (omega (arith, next)) c.requires.to)

pub loop-i-preserved : goal.loop-i-preserved
loop-i-preserved g c =
    let s = words_in (g.A.ReaderArena.segments c.args.arena.now) in
    let u = words_in (g.A.ReaderArena.segments c.loop-i.arena) in
    let v = words_in (g.A.ReaderArena.segments c.write_word.new.self) in
    let next : c.loop-i.i < c.args.count = search rules in (
      copied_next s u v (place_view c.args.from) (place_view c.args.to) c.args.count c.loop-i.i c.unwrap_or-word.result next c.loop-i.invariant.0 (search rules) c.write_word.ensures.words,
      ap (λ (x : Segments). map length x) c.write_word.ensures.words ∙ written_sizes u (after (place_view c.args.to) c.loop-i.i) (c.unwrap_or-word.result ∷ []) ∙ c.loop-i.invariant.1,
      c.write_word.ensures.books ∙ c.loop-i.invariant.2,
    )

pub returns-clause-words : goal.returns-clause-words
returns-clause-words g c =
    let s = words_in (g.A.ReaderArena.segments c.args.arena.now) in
    let u = words_in (g.A.ReaderArena.segments c.loop-i.arena) in
    let all : c.loop-i.i ≡ c.args.count = search rules in
    copied_all s u (place_view c.args.from) (place_view c.args.to) c.args.count (subst (λ (n : ℕ). CopiedSoFar s u (place_view c.args.from) (place_view c.args.to) c.args.count n) all c.loop-i.invariant.0)
