use Rattle.std.proofs.Common.{◌+◌, ◌-◌, ◌/◌, length, map, ap, ◌∙◌, arith}
use Rattle.capnp_model.specs.Segments.{Segments, Place, after}
use Rattle.capnp_units.specs.Segments.{words_in}
use Rattle.capnp_wire_objects.specs.Places.{place_view}
use Rattle.capnp_copy_arenas.proofs.lemmas.ZeroedWords.{written_sizes}
use Rattle.capnp_copy_arenas.proofs.lemmas.RoomLaws.{sizes_grow, still_some}
use Rattle.capnp_copy_arenas.proofs.lemmas.Taken.{bytes_sizes}
use Rattle.capnp_model.proofs.lemmas.WordsInBytes.{words_for_bytes}
use Rattle.capnp_copy_values.proofs.TakenContent.{data_written}
use Rattle.capnp_copy_values.proofs.Parts.{part_there}
use Rattle.capnp_copy_values.proofs.contents.write_data.Goals as goal

pub zero_words-requires : goal.zero_words-requires
zero_words-requires g c =
    let s : Segments = words_in (g.A.ReaderArena.segments c.args.arena.now) in
    let m : Segments = words_in (g.A.ReaderArena.segments c.write_bytes.new.arena) in
    let r : Place = place_view c.args.object.start in
    let fit = c.requires.fit in
    still_some s m (after r ((length c.args.bytes.now + 7) / 8)) (c.args.object.data_words - (length c.args.bytes.now + 7) / 8) (sizes_grow s m (ap (λ (v : Segments). map length v) c.write_bytes.ensures.words ∙ bytes_sizes s r ((length c.args.bytes.now + 7) / 8) c.args.bytes.now))
    (part_there s r c.args.object.data_words c.requires.there ((length c.args.bytes.now + 7) / 8) (c.args.object.data_words - (length c.args.bytes.now + 7) / 8) (omega (arith, fit)))

pub returns-clause-section : goal.returns-clause-section
returns-clause-section g c =
    let s : Segments = words_in (g.A.ReaderArena.segments c.args.arena.now) in
    let m : Segments = words_in (g.A.ReaderArena.segments c.write_bytes.new.arena) in
    let u : Segments = words_in (g.A.ReaderArena.segments c.zero_words.new.self) in
    let r : Place = place_view c.args.object.start in
    let fit = c.requires.fit in
    let w = (length c.args.bytes.now + 7) / 8 in
    λ n own kids o. data_written n s m u r c.args.object.data_words c.args.object.pointers own ((length c.args.bytes.now + 7) / 8) (c.args.object.data_words - (length c.args.bytes.now + 7) / 8) kids c.args.bytes.now (λ i. let h = c.type_inv.bytes i in omega (arith, h)) (words_for_bytes (length c.args.bytes.now)) (omega (arith, fit)) c.requires.there c.write_bytes.ensures.words c.zero_words.ensures.words o

pub returns-clause-sizes : goal.returns-clause-sizes
returns-clause-sizes g c =
    let s : Segments = words_in (g.A.ReaderArena.segments c.args.arena.now) in
    let m : Segments = words_in (g.A.ReaderArena.segments c.write_bytes.new.arena) in
    let r : Place = place_view c.args.object.start in
    ap (λ (v : Segments). map length v) c.zero_words.ensures.words ∙ written_sizes m _ _ ∙ ap (λ (v : Segments). map length v) c.write_bytes.ensures.words ∙ bytes_sizes s r ((length c.args.bytes.now + 7) / 8) c.args.bytes.now
