-- Each struct's words are among those that are there.
use Rattle.std.proofs.Common.{◌≡◌, ℕ, ◌+◌, ◌*◌, ap, sym, ◌∙◌, arith}
use Rattle.std.specs.Option.{is_some}
use Rattle.capnp_model.specs.Segments.{Segments, Place, place, words_at}
use Rattle.capnp_units.specs.Segments.{words_in}
use Rattle.capnp_wire_objects.specs.Places.{place_view}
use Rattle.capnp_wire_canonical.proofs.Parts.{part_there, part_room}
use Rattle.capnp_wire_canonical.proofs.cuts.cut_of.Goals as goal

pub most_needed-requires-clause-there : goal.most_needed-requires-clause-there
most_needed-requires-clause-there g c = λ i h.
    let s : Segments = words_in (g.A.ReaderArena.segments c.args.arena.now) in
    let p : Place = place_view c.args.start in
    let w = c.args.data_words + c.args.pointers in
    let room = part_room i c.args.count w h in
    let bound = c.requires.inside.1 in
    (part_there s p (c.args.count * w) c.requires.inside.0 (i * w) c.args.data_words (omega arith), omega arith)

pub most_needed-requires-2-clause-there : goal.most_needed-requires-2-clause-there
most_needed-requires-2-clause-there g c = λ i h.
    let s : Segments = words_in (g.A.ReaderArena.segments c.args.arena.now) in
    let p : Place = place_view c.args.start in
    let w = c.args.data_words + c.args.pointers in
    let room = part_room i c.args.count w h in
    let bound = c.requires.inside.1 in
    let there : p.position + (i * w + c.args.data_words) ≡ p.position + c.args.data_words + i * w = omega arith in
    (ap (λ (q : ℕ). is_some (words_at s (place p.segment q) c.args.pointers)) (sym there) ∙ part_there s p (c.args.count * w) c.requires.inside.0 (i * w + c.args.data_words) c.args.pointers (omega arith), omega arith)
