use Rattle.std.proofs.Common.{◌≡◌, [], ◌∷◌, true, Option, Some, refl, ap, sym, ◌∙◌, subst, arith}
use Rattle.std.specs.Option.{is_some}
use Rattle.capnp_model.specs.Segments.{Segments, after, words_at}
use Rattle.capnp_units.specs.Segments.{words_in}
use Rattle.capnp_wire_objects.specs.Places.{place_view}
use Rattle.capnp_wire_objects.specs.declared.place.Place as code
use Rattle.capnp_model_writes.specs.Writes.{with_words}
use Rattle.capnp_model_writes.specs.NewObjects.{far_pointer, double_far_pointer}
use Rattle.capnp_copy_arenas.proofs.lemmas.Parts.{section_there}
use Rattle.capnp_copy_arenas.proofs.lemmas.RoomLaws.{still_written}
use Rattle.capnp_copy_widening.specs.Moves.{HasPads, pointed_at}
use Rattle.capnp_copy_widening.proofs.lemmas.Standing.{written_then}
use Rattle.capnp_copy_widening.proofs.moves.point_at.Goals as goal

pub write_word-requires-in-Some-2 : goal.write_word-requires-in-Some-2
write_word-requires-in-Some-2 g c =
    let s = words_in (g.A.ReaderArena.segments c.args.arena.now) in
    let pad = c.in-Some.pad in
    let has : HasPads s (Some c.in-Some.pad) 1 = subst (λ (o : Option code.Place). HasPads s o 1) c.in-Some.is c.requires.pad in
    let two : is_some (words_at s (place_view c.in-Some.pad) 2) ≡ true = has.0 in
    subst (λ (x : Segments). is_some (words_at x (after (place_view c.in-Some.pad) 1) 1) ≡ true) (sym c.write_word-in-Some.ensures.words) (still_written s (place_view c.in-Some.pad) (after (place_view c.in-Some.pad) 1) _ 1 (section_there s (place_view c.in-Some.pad) 1 1 2 (omega arith) two))

pub write_word-requires-in-Some-3 : goal.write_word-requires-in-Some-3
write_word-requires-in-Some-3 g c =
    let s = words_in (g.A.ReaderArena.segments c.args.arena.now) in
    let p = place_view c.args.slot in
    let one = subst (λ (x : Segments). is_some (words_at x (place_view c.args.slot) 1) ≡ true) (sym c.write_word-in-Some.ensures.words) (still_written s (place_view c.in-Some.pad) (place_view c.args.slot) _ 1 c.requires.slot) in
    subst (λ (x : Segments). is_some (words_at x (place_view c.args.slot) 1) ≡ true) (sym c.write_word-in-Some-2.ensures.words) (still_written (words_in (g.A.ReaderArena.segments c.write_word-in-Some.new.self)) (after (place_view c.in-Some.pad) 1) (place_view c.args.slot) _ 1 one)

pub returns-in-Some-clause-words : goal.returns-in-Some-clause-words
returns-in-Some-clause-words g c =
    let s = words_in (g.A.ReaderArena.segments c.args.arena.now) in
    let pad = place_view c.in-Some.pad in
    let r = place_view c.args.start in
    let first = c.write_word-in-Some.ensures.words in
    let second = c.write_word-in-Some-2.ensures.words ∙ ap (λ (x : Segments). with_words x (after (place_view c.in-Some.pad) 1) (c.args.pointer ∷ [])) first ∙ written_then s (place_view c.in-Some.pad) 1 (far_pointer (place_view c.args.start) ∷ []) (c.args.pointer ∷ []) refl in
    let third = c.write_word-in-Some-3.ensures.words ∙ ap (λ (x : Segments). with_words x (place_view c.args.slot) (double_far_pointer (place_view c.in-Some.pad) ∷ [])) second in
    subst (λ (o : Option code.Place). words_in (g.A.ReaderArena.segments c.write_word-in-Some-3.new.self) ≡ pointed_at s (place_view c.args.slot) (place_view c.args.start) o c.args.pointer) (sym c.in-Some.is) third
