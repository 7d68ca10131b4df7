-- The slice is the words of the source.
use Rattle.std.proofs.Common.{◌≡◌, ◌+◌, ◌-◌, ◌*◌, ℕ, take, drop, ap, sym, ◌∙◌, arith}
use Rattle.capnp_units.specs.Segments.{whole_words, words_in}
use Rattle.capnp_wire_objects.specs.Places.{place_view}
use Rattle.capnp_wire_objects.proofs.lemmas.Words.{words_end, none_there}
use Rattle.capnp_model_writes.specs.Writes.{with_words}
use Rattle.capnp_wire.proofs.lemmas.ListLaws.{words_there_is}
use Rattle.capnp_copy_values.proofs.ByteParts.{words_there}
use Rattle.capnp_copy_values.proofs.words.copy_words.Goals as goal

pub slice_bounds-words-end : goal.slice_bounds-words-end
slice_bounds-words-end g c =
    let h = words_end (g.B.ReaderArena.segments c.args.source.now) c.args.from.segment c.args.from.position c.args.count c.in-Some.bytes.now c.in-Some.ensures c.requires.from.0 in
    omega arith

pub returns-in-Some-clause-words : goal.returns-in-Some-clause-words
returns-in-Some-clause-words g c =
    let from = c.args.from in
    let b = g.B.ReaderArena.segments c.args.source.now in
    let bytes = c.in-Some.bytes.now in
    let h = words_end b from.segment from.position c.args.count bytes c.in-Some.ensures c.requires.from.0 in
    let there = words_there b from.segment from.position c.args.count bytes c.in-Some.ensures h in
    let size : 8 * from.position + 8 * c.args.count - 8 * from.position ≡ 8 * c.args.count = omega arith in
    let is : whole_words (take (8 * from.position + 8 * c.args.count - 8 * from.position) (drop (8 * from.position) bytes)) ≡ whole_words (take (8 * c.args.count) (drop (8 * from.position) bytes)) = ap (λ (n : ℕ). whole_words (take n (drop (8 * from.position) bytes))) size in
    c.write_words.ensures.words ∙ ap (with_words (words_in (g.A.ReaderArena.segments c.args.arena.now)) (place_view c.args.to)) (is ∙ sym (words_there_is (words_in b) (place_view from) c.args.count _ there))

pub returns-in_default-clause-words : goal.returns-in_default-clause-words
returns-in_default-clause-words g c = absurd (none_there (g.B.ReaderArena.segments c.args.source.now) c.args.from.segment c.args.from.position c.args.count c.in_default.ensures c.requires.from.0)
