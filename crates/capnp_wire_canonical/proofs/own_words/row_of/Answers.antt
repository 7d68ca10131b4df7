-- A part of the segment's words.
use Rattle.std.proofs.Common.{◌≡◌, ℕ, ◌+◌, ◌-◌, List, take, drop, ap, ◌∙◌, arith}
use Rattle.capnp_wire_objects.proofs.lemmas.Words.{words_end}
use Rattle.capnp_wire_canonical.specs.Writes.{words_view}
use Rattle.capnp_wire_canonical.proofs.Held.{segment_held}
use Rattle.capnp_wire_canonical.proofs.Rowing.{part_is_there}
use Rattle.capnp_wire_canonical.proofs.own_words.row_of.Goals as goal

pub slice_bounds-result-end : goal.slice_bounds-result-end
slice_bounds-result-end g c =
    let end = words_end (g.A.ReaderArena.segments c.args.arena.now) c.args.start.segment c.args.start.position c.args.count c.args.bytes.now (segment_held (g.A.ReaderArena.segments c.args.arena.now) c.args.start.segment c.args.bytes.now c.requires.bytes c.args.start.position c.args.count c.requires.there.0) c.requires.there.0 in
    omega (arith, c.as_chunks.ensures.front_len)

pub returns-clause-words : goal.returns-clause-words
returns-clause-words g c =
    let segments = g.A.ReaderArena.segments c.args.arena.now in
    let p = c.args.start.position in
    let count : p + c.args.count - p ≡ c.args.count = omega arith in
    ap (λ (n : ℕ). words_view (take n (drop p c.as_chunks.result.0.now))) count ∙ ap (λ (ws : List (List ℕ)). words_view (take c.args.count (drop p ws))) c.as_chunks.ensures.front
    ∙ part_is_there segments c.args.start.segment p c.args.count c.args.bytes.now (segment_held (g.A.ReaderArena.segments c.args.arena.now) c.args.start.segment c.args.bytes.now c.requires.bytes c.args.start.position c.args.count c.requires.there.0) c.requires.there.0
