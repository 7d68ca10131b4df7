use Rattle.std.proofs.Common.{◌≡◌, ◌*◌, ◌/◌, length, take, true, sym, subst, arith}
use Rattle.std.specs.Option.{is_some}
use Rattle.capnp_model.specs.Bytes.{words_in_bytes}
use Rattle.capnp_model.specs.Segments.{Segments, after, words_at}
use Rattle.capnp_units.specs.Segments.{words_in}
use Rattle.capnp_wire_objects.specs.Places.{place_view}
use Rattle.capnp_model_writes.proofs.lemmas.Splices.{splice_grows}
use Rattle.capnp_copy_arenas.proofs.lemmas.RoomLaws.{part_there, still_some}
use Rattle.capnp_copy_arenas.proofs.blobs.write_bytes.Goals as goal

pub write_word-requires : goal.write_word-requires
write_word-requires g c =
    let s = words_in (g.A.ReaderArena.segments c.args.arena.now) in
    let p = place_view c.args.start in
    let i = length c.args.bytes.now / 8 in
    let l = c.if-whole-words.true in
    let there = part_there s p i c.args.words (omega (arith, l)) c.requires.there in
    subst (λ (v : Segments). is_some (words_at v (after p i) 1) ≡ true) (sym c.write_words.ensures.words) (still_some s _ (after p i) 1 (splice_grows s p _) there)
