use Rattle.std.proofs.Common.{◌≡◌, ◌+◌, ◌*◌, ◌/◌, ◌%◌, ◌^◌, [], ◌∷◌, length, map, true, ap, sym, ◌∙◌, subst, rules, arith}
use Rattle.std.specs.Option.{is_some}
use Rattle.capnp_model.specs.Segments.{Segments, words_at}
use Rattle.capnp_model.specs.Coverage.{Grows}
use Rattle.capnp_units.specs.Segments.{words_in}
use Rattle.capnp_wire_objects.specs.Places.{place_view}
use Rattle.capnp_model_writes.specs.Writes.{with_words}
use Rattle.capnp_model_writes.proofs.lemmas.Splices.{splice_grows}
use Rattle.capnp_copy_arenas.proofs.lemmas.RoomLaws.{still_written}
use Rattle.capnp_copy_arenas.proofs.lemmas.ZeroedWords.{written_sizes}
use Rattle.capnp_copy_widening.specs.Moves.{pads_of, pointed_at}
use Rattle.capnp_copy_widening.proofs.lemmas.Standing.{within_total, pads_stay, pointed_sizes}
use Rattle.capnp_copy_widening.proofs.MovedPointers.{moved_null, moved_as_it_is, moved_lost, moved_outside, moved_empty, moved_direct, starts_at}
use Rattle.capnp_copy_widening.proofs.moves.move_pointer.Goals as goal

pub returns-then-word-eq0-clause-value : goal.returns-then-word-eq0-clause-value
returns-then-word-eq0-clause-value g c = moved_null (words_in (g.A.ReaderArena.segments c.args.arena.now)) (place_view c.args.from) (place_view c.args.to) (pads_of c.args.pad 1) c.unwrap_or-word.result (search rules) (search rules)

pub write_word-requires-then-word-ge-FAR : goal.write_word-requires-then-word-ge-FAR
write_word-requires-then-word-ge-FAR g c =
    let s = words_in (g.A.ReaderArena.segments c.args.arena.now) in
    subst (λ (x : Segments). is_some (words_at x (place_view c.args.to) 1) ≡ true) (sym c.write_word.ensures.words) (still_written s (place_view c.args.from) (place_view c.args.to) (0 ∷ []) 1 c.requires.to)

pub returns-then-word-ge-FAR-clause-value : goal.returns-then-word-ge-FAR-clause-value
returns-then-word-ge-FAR-clause-value g c =
    let s = words_in (g.A.ReaderArena.segments c.args.arena.now) in
    let u = words_in (g.A.ReaderArena.segments c.write_word-then-word-ge-FAR.new.self) in
    let now = c.write_word-then-word-ge-FAR.ensures.words ∙ ap (λ (x : Segments). with_words x (place_view c.args.to) (c.unwrap_or-word.result ∷ [])) c.write_word.ensures.words in
    moved_as_it_is s u (place_view c.args.from) (place_view c.args.to) (pads_of c.args.pad 1) c.unwrap_or-word.result (search rules) (omega (arith, c.if-word-ge-FAR.true)) now

pub returns-then-word-ge-FAR-clause-sizes : goal.returns-then-word-ge-FAR-clause-sizes
returns-then-word-ge-FAR-clause-sizes g c =
    let s = words_in (g.A.ReaderArena.segments c.args.arena.now) in
    let m = words_in (g.A.ReaderArena.segments c.write_word.new.self) in
    ap (λ (x : Segments). map length x) c.write_word-then-word-ge-FAR.ensures.words ∙ written_sizes m (place_view c.args.to) (c.unwrap_or-word.result ∷ []) ∙ ap (λ (x : Segments). map length x) c.write_word.ensures.words ∙ written_sizes s (place_view c.args.from) (0 ∷ [])

pub returns-in_default-clause-value : goal.returns-in_default-clause-value
returns-in_default-clause-value g c =
    let s = words_in (g.A.ReaderArena.segments c.args.arena.now) in
    let a = place_view c.args.from in
    let starts = starts_at s (place_view c.args.from) c.start_of.result c.found_at.result c.found_at.ensures.found c.start_of.ensures in
    moved_lost s (place_view c.args.from) (place_view c.args.to) (pads_of c.args.pad 1) c.unwrap_or-word.result c.start_of.result (search rules) (search rules) (search rules) (omega (arith, c.if-word-ge-FAR.false)) starts (search rules)

pub returns-then-not-has_words-clause-value : goal.returns-then-not-has_words-clause-value
returns-then-not-has_words-clause-value g c =
    let s = words_in (g.A.ReaderArena.segments c.args.arena.now) in
    let starts = starts_at s (place_view c.args.from) c.start_of.result c.found_at.result c.found_at.ensures.found c.start_of.ensures in
    moved_outside s (place_view c.args.from) (place_view c.args.to) (pads_of c.args.pad 1) c.unwrap_or-word.result c.start_of.result c.in-Some.start (search rules) (search rules) (search rules) (omega (arith, c.if-word-ge-FAR.false)) starts c.in-Some.is (search rules)

pub write_word-requires-then-pointer-eq0 : goal.write_word-requires-then-pointer-eq0
write_word-requires-then-pointer-eq0 g c =
    let s = words_in (g.A.ReaderArena.segments c.args.arena.now) in
    subst (λ (x : Segments). is_some (words_at x (place_view c.args.to) 1) ≡ true) (sym c.write_word-2.ensures.words) (still_written s (place_view c.args.from) (place_view c.args.to) (0 ∷ []) 1 c.requires.to)

pub point_at-requires-clause-slot : goal.point_at-requires-clause-slot
point_at-requires-clause-slot g c =
    let s = words_in (g.A.ReaderArena.segments c.args.arena.now) in
    subst (λ (x : Segments). is_some (words_at x (place_view c.args.to) 1) ≡ true) (sym c.write_word-2.ensures.words) (still_written s (place_view c.args.from) (place_view c.args.to) (0 ∷ []) 1 c.requires.to)

pub point_at-requires-clause-pad : goal.point_at-requires-clause-pad
point_at-requires-clause-pad g c =
    let s = words_in (g.A.ReaderArena.segments c.args.arena.now) in
    let u = words_in (g.A.ReaderArena.segments c.write_word-2.new.self) in
    pads_stay s u c.args.pad 1 (subst (λ (x : Segments). Grows s x) (sym c.write_word-2.ensures.words) (splice_grows s (place_view c.args.from) (0 ∷ []))) c.requires.pad

pub point_at-requires-clause-near : goal.point_at-requires-clause-near
point_at-requires-clause-near g c =
    let s = words_in (g.A.ReaderArena.segments c.args.arena.now) in
    let inside : is_some (words_at s (place_view c.in-Some.start) 0) ≡ true = search rules in
    (omega (arith, within_total s (place_view c.args.to) 1 c.requires.to, c.requires.few), omega (arith, within_total s (place_view c.in-Some.start) 0 inside, c.requires.few))

pub returns-then-pointer-eq0-clause-value : goal.returns-then-pointer-eq0-clause-value
returns-then-pointer-eq0-clause-value g c =
    let s = words_in (g.A.ReaderArena.segments c.args.arena.now) in
    let u = words_in (g.A.ReaderArena.segments c.write_word-then-pointer-eq0.new.self) in
    let now = c.write_word-then-pointer-eq0.ensures.words ∙ ap (λ (x : Segments). with_words x (place_view c.args.to) (4294967292 ∷ [])) c.write_word-2.ensures.words in
    moved_empty s u (place_view c.args.from) (place_view c.args.to) (pads_of c.args.pad 1) c.unwrap_or-word.result (search rules) (search rules) (search rules) (omega (arith, c.if-word-ge-FAR.false)) (omega (arith, c.if-pointer-eq0.true)) now

pub returns-then-pointer-eq0-clause-sizes : goal.returns-then-pointer-eq0-clause-sizes
returns-then-pointer-eq0-clause-sizes g c =
    let s = words_in (g.A.ReaderArena.segments c.args.arena.now) in
    let m = words_in (g.A.ReaderArena.segments c.write_word-2.new.self) in
    ap (λ (x : Segments). map length x) c.write_word-then-pointer-eq0.ensures.words ∙ written_sizes m (place_view c.args.to) (4294967292 ∷ []) ∙ ap (λ (x : Segments). map length x) c.write_word-2.ensures.words ∙ written_sizes s (place_view c.args.from) (0 ∷ [])

pub returns-else-pointer-eq0-clause-value : goal.returns-else-pointer-eq0-clause-value
returns-else-pointer-eq0-clause-value g c =
    let s = words_in (g.A.ReaderArena.segments c.args.arena.now) in
    let u = words_in (g.A.ReaderArena.segments c.point_at.new.arena) in
    let v = c.unwrap_or-word.result in
    let a = place_view c.args.from in
    let starts = starts_at s (place_view c.args.from) c.start_of.result c.found_at.result c.found_at.ensures.found c.start_of.ensures in
    let now = c.point_at.ensures.words ∙ ap (λ (x : Segments). pointed_at x (place_view c.args.to) (place_view c.in-Some.start) c.args.pad (c.unwrap_or-word.result % 4 + c.unwrap_or-word.result / 2 ^ 32 * 2 ^ 32)) c.write_word-2.ensures.words in
    moved_direct s u (place_view c.args.from) (place_view c.args.to) c.args.pad c.unwrap_or-word.result c.start_of.result c.in-Some.start (search rules) (search rules) (search rules) (omega (arith, c.if-word-ge-FAR.false)) starts c.in-Some.is (search rules) c.requires.reached c.requires.pad c.point_at.ensures.named (search rules) c.requires.to c.requires.few now

pub returns-else-pointer-eq0-clause-sizes : goal.returns-else-pointer-eq0-clause-sizes
returns-else-pointer-eq0-clause-sizes g c =
    let s = words_in (g.A.ReaderArena.segments c.args.arena.now) in
    let m = words_in (g.A.ReaderArena.segments c.write_word-2.new.self) in
    ap (λ (x : Segments). map length x) c.point_at.ensures.words ∙ pointed_sizes m (place_view c.args.to) (place_view c.in-Some.start) c.args.pad _ ∙ ap (λ (x : Segments). map length x) c.write_word-2.ensures.words ∙ written_sizes s (place_view c.args.from) (0 ∷ [])
