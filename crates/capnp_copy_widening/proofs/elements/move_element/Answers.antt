use Rattle.std.proofs.Common.{◌≡◌, ◌+◌, true, ap, sym, subst, arith}
use Rattle.std.specs.Option.{is_some}
use Rattle.capnp_model.specs.Segments.{Place, after, words_at}
use Rattle.capnp_units.specs.Segments.{words_in}
use Rattle.capnp_wire_objects.specs.Places.{place_view}
use Rattle.capnp_copy_arenas.proofs.lemmas.RoomLaws.{still_some, sizes_grow}
use Rattle.capnp_copy_arenas.proofs.lemmas.Taken.{same_total}
use Rattle.capnp_copy_arenas.proofs.lemmas.Parts.{section_there, front_there}
use Rattle.capnp_copy_widening.specs.Moves.{MovesRow, pads_of}
use Rattle.capnp_copy_widening.proofs.lemmas.Standing.{pads_stay, within_total}
use Rattle.capnp_copy_widening.proofs.elements.move_element.Goals as goal

pub copy_words-requires-clause-from : goal.copy_words-requires-clause-from
copy_words-requires-clause-from g c =
    let s = words_in (g.A.ReaderArena.segments c.args.arena.now) in
    front_there s (place_view c.args.from.start) c.args.from.data_words (c.args.from.data_words + c.args.from.pointers) (omega arith) c.requires.from

pub copy_words-requires-clause-to : goal.copy_words-requires-clause-to
copy_words-requires-clause-to g c =
    let s = words_in (g.A.ReaderArena.segments c.args.arena.now) in
    front_there s (place_view c.args.to.start) c.args.from.data_words (c.args.to.data_words + c.args.to.pointers) (omega (arith, c.requires.wider.0)) c.requires.to

pub copy_words-requires-clause-near : goal.copy_words-requires-clause-near
copy_words-requires-clause-near g c =
    let s = words_in (g.A.ReaderArena.segments c.args.arena.now) in
    let a = within_total s (place_view c.args.from.start) (c.args.from.data_words + c.args.from.pointers) c.requires.from in
    let b = within_total s (place_view c.args.to.start) (c.args.to.data_words + c.args.to.pointers) c.requires.to in
    (omega (arith, a, c.requires.few), omega (arith, b, c.requires.few, c.requires.wider.0))

pub pointers_of-source-requires : goal.pointers_of-source-requires
pointers_of-source-requires g c =
    let s = words_in (g.A.ReaderArena.segments c.args.arena.now) in
    let a = within_total s (place_view c.args.from.start) (c.args.from.data_words + c.args.from.pointers) c.requires.from in
    omega (arith, a, c.requires.few)

pub pointers_of-target-requires : goal.pointers_of-target-requires
pointers_of-target-requires g c =
    let s = words_in (g.A.ReaderArena.segments c.args.arena.now) in
    let b = within_total s (place_view c.args.to.start) (c.args.to.data_words + c.args.to.pointers) c.requires.to in
    omega (arith, b, c.requires.few)

pub move_pointers-requires-clause-from : goal.move_pointers-requires-clause-from
move_pointers-requires-clause-from g c =
    let s = words_in (g.A.ReaderArena.segments c.args.arena.now) in
    let x = words_in (g.A.ReaderArena.segments c.copy_words.new.arena) in
    let a = section_there s (place_view c.args.from.start) c.args.from.data_words c.args.from.pointers (c.args.from.data_words + c.args.from.pointers) (omega arith) c.requires.from in
    let b = still_some s x (after (place_view c.args.from.start) c.args.from.data_words) c.args.from.pointers (sizes_grow s x c.copy_words.ensures.sizes) a in
    subst (λ (q : Place). is_some (words_at x q c.args.from.pointers) ≡ true) (sym c.pointers_of-source.ensures) b

pub move_pointers-requires-clause-to : goal.move_pointers-requires-clause-to
move_pointers-requires-clause-to g c =
    let s = words_in (g.A.ReaderArena.segments c.args.arena.now) in
    let x = words_in (g.A.ReaderArena.segments c.copy_words.new.arena) in
    let a = section_there s (place_view c.args.to.start) c.args.to.data_words c.args.from.pointers (c.args.to.data_words + c.args.to.pointers) (omega (arith, c.requires.wider.1)) c.requires.to in
    let b = still_some s x (after (place_view c.args.to.start) c.args.to.data_words) c.args.from.pointers (sizes_grow s x c.copy_words.ensures.sizes) a in
    subst (λ (q : Place). is_some (words_at x q c.args.from.pointers) ≡ true) (sym c.pointers_of-target.ensures) b

pub move_pointers-requires-clause-pads : goal.move_pointers-requires-clause-pads
move_pointers-requires-clause-pads g c =
    let s = words_in (g.A.ReaderArena.segments c.args.arena.now) in
    let x = words_in (g.A.ReaderArena.segments c.copy_words.new.arena) in
    pads_stay s x c.args.pads c.args.from.pointers (sizes_grow s x c.copy_words.ensures.sizes) c.requires.pads

pub move_pointers-requires-clause-few : goal.move_pointers-requires-clause-few
move_pointers-requires-clause-few g c =
    let s = words_in (g.A.ReaderArena.segments c.args.arena.now) in
    let x = words_in (g.A.ReaderArena.segments c.copy_words.new.arena) in
    omega (arith, same_total s x c.copy_words.ensures.sizes, c.requires.few)

pub move_pointers-requires-clause-near : goal.move_pointers-requires-clause-near
move_pointers-requires-clause-near g c =
    let s = words_in (g.A.ReaderArena.segments c.args.arena.now) in
    let a = within_total s (place_view c.args.from.start) (c.args.from.data_words + c.args.from.pointers) c.requires.from in
    let b = within_total s (place_view c.args.to.start) (c.args.to.data_words + c.args.to.pointers) c.requires.to in
    let at = ap (λ (q : Place). q.position) c.pointers_of-source.ensures in
    let to = ap (λ (q : Place). q.position) c.pointers_of-target.ensures in
    (omega (arith, a, at, c.requires.few), omega (arith, b, to, c.requires.few, c.requires.wider.1))

pub returns-clause-moves : goal.returns-clause-moves
returns-clause-moves g c =
    let x = words_in (g.A.ReaderArena.segments c.copy_words.new.arena) in
    let w = words_in (g.A.ReaderArena.segments c.move_pointers.new.arena) in
    let one : MovesRow x w (after (place_view c.args.from.start) c.args.from.data_words) (place_view c.pointers_of-target.result) c.args.from.pointers (pads_of c.args.pads c.args.from.pointers) = subst (λ (q : Place). MovesRow x w q (place_view c.pointers_of-target.result) c.args.from.pointers (pads_of c.args.pads c.args.from.pointers)) c.pointers_of-source.ensures c.move_pointers.ensures.row in
    let row : MovesRow x w (after (place_view c.args.from.start) c.args.from.data_words) (after (place_view c.args.to.start) c.args.to.data_words) c.args.from.pointers (pads_of c.args.pads c.args.from.pointers) = subst (λ (q : Place). MovesRow x w (after (place_view c.args.from.start) c.args.from.data_words) q c.args.from.pointers (pads_of c.args.pads c.args.from.pointers)) c.pointers_of-target.ensures one in
    (x, c.copy_words.ensures.words, row)
