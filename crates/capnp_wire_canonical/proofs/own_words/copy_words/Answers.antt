-- The row is that of the section.
use Rattle.std.proofs.Common.{ℕ, ◌+◌, ◌++◌, take, drop, ap, sym, ◌∙◌}
use Rattle.capnp_model.specs.Segments.{Segments, Place}
use Rattle.capnp_units.specs.Segments.{words_in}
use Rattle.capnp_wire_objects.specs.Places.{place_view}
use Rattle.capnp_wire_objects.specs.Inside.{section_at}
use Rattle.capnp_wire_canonical.proofs.Holding.{own_words_are}
use Rattle.capnp_wire_canonical.proofs.Rowing.{row_put, row_behind}
use Rattle.capnp_wire_canonical.proofs.own_words.copy_words.Goals as goal

pub returns-clause-words : goal.returns-clause-words
returns-clause-words g c =
    let s : Segments = words_in (g.A.ReaderArena.segments c.args.arena.now) in
    let p : Place = place_view c.args.start in
    let count = c.args.count in
    let at = c.args.at in
    let old = c.args.into.now in
    let row = c.row_of.result.now in
    let is = c.lay.ensures ∙ ap (λ (n : ℕ). take at old ++ (row ++ drop (at + n) old)) c.row_of.ensures.len in
    row_put at count (section_at s p count) old c.lay.new.into row is (c.row_of.ensures.words ∙ sym (own_words_are s p count c.requires.there.0 c.are_words_of.ensures))

pub returns-clause-behind : goal.returns-clause-behind
returns-clause-behind g c =
    let at = c.args.at in
    let old = c.args.into.now in
    let row = c.row_of.result.now in
    let is = c.lay.ensures ∙ ap (λ (n : ℕ). take at old ++ (row ++ drop (at + n) old)) c.row_of.ensures.len in
    row_behind at c.args.count old c.lay.new.into row is c.row_of.ensures.len c.requires.room
