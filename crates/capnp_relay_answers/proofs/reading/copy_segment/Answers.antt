use Rattle.std.proofs.Common.{◌≡◌, List, ℕ, ◌/◌, ◌++◌, length, drop, ap, ◌∙◌}
use Rattle.capnp_wire_canonical.specs.Writes.{words_view}
use Rattle.capnp_wire_objects.proofs.lemmas.Words.{chunks_are_words}
use Rattle.capnp_relay_answers.proofs.Alone.{front_filled}
use Rattle.capnp_relay_answers.proofs.reading.copy_segment.Goals as goal

pub returns-clause-words : goal.returns-clause-words
returns-clause-words c =
    let bytes = c.args.bytes.now in
    let row = c.as_chunks.result.0.now in
    let items = c.make_room.new.words.items in
    let laid : c.lay_front.new.into ≡ row ++ drop (length row) items = c.lay_front.ensures ∙ ap (λ (xs : List (List ℕ)). row ++ drop (length row) xs) c.as_mut_slice.ensures.value in
    front_filled c.make_room.new.words.len items c.lay_front.new.into row c.make_room.new.words.ok.0 c.in_ok-make_room.ensures laid
    ∙ ap words_view c.as_chunks.ensures.front ∙ chunks_are_words (length bytes / 8) bytes
