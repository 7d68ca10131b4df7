-- A struct's data, or a plain element.
use Rattle.std.proofs.Common.{◌+◌, arith}
use Rattle.capnp_model.specs.Segments.{Segments}
use Rattle.capnp_model.specs.Edits.{put_bits}
use Rattle.capnp_units.specs.Segments.{words_in}
use Rattle.capnp_wire_objects.specs.Places.{place_view}
use Rattle.capnp_copy_arenas.proofs.lemmas.Parts.{front_there}
use Rattle.capnp_schema_lists.proofs.lemmas.Fronts.{plain_front}
use Rattle.capnp_schema_lists.proofs.elements.set_front.Goals as goal
use Rattle.capnp_units.proofs.lemmas.Sizes.{composite_by_number}

pub set_bits-requires : goal.set_bits-requires
set_bits-requires g c =
    let s : Segments = words_in (g.A.ReaderArena.segments c.args.arena.now) in
    let p = c.element_struct.result in
    let at = c.element_struct.ensures in
    let x = c.elements_as_structs.ensures.there s c.args.list c.args.index p c.requires.index at c.requires.there in
    let near = x.near in
    let room = c.requires.room.structs at.structs in
    let some = room.0 in
    let few = room.1 in
    let same = at.data_words in
    record {
      there = front_there s (place_view p.start) p.data_words (p.data_words + p.pointers) (omega arith) x.words;
      near = omega (arith, near);
      inside = (omega (arith, some, few, same), omega (arith, few), c.requires.some);
      fits = c.requires.fits;
    }

pub returns-in-InlineComposite-clause-edits : goal.returns-in-InlineComposite-clause-edits
returns-in-InlineComposite-clause-edits g c =
    let s : Segments = words_in (g.A.ReaderArena.segments c.args.arena.now) in
    let u : Segments = words_in (g.A.ReaderArena.segments c.set_bits.new.arena) in
    c.elements_as_structs.ensures.edits s u c.args.list c.args.index c.element_struct.result (λ words pointers. put_bits 0 c.args.width c.args.value) c.requires.index c.element_struct.ensures c.set_bits.ensures.sets

pub returns-in_default : goal.returns-in_default
returns-in_default g c =
    let s : Segments = words_in (g.A.ReaderArena.segments c.args.arena.now) in
    let u : Segments = words_in (g.A.ReaderArena.segments c.set_element.new.arena) in
    let o = c.args.list in
    let room = c.requires.room.plain (λ e. c.in_default.not-InlineComposite (composite_by_number o.size e)) in
    let few = room.0 in
    record {
      edits = plain_front s u o c.args.index c.args.width c.args.value room.0 room.1 c.requires.fits c.requires.index (c.requires.there.counted (omega (arith, few))) c.set_element.ensures.sets;
      sizes = c.set_element.ensures.sizes;
      books = c.set_element.ensures.books;
    }
