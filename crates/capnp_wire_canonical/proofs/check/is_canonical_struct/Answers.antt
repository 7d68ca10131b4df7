-- A struct that needs all its words, and the row of the pointers.
use Rattle.std.proofs.Common.{◌+◌, sym}
use Rattle.capnp_model.specs.Sections.{needed_words}
use Rattle.capnp_model.specs.Segments.{Segments, Place, after}
use Rattle.capnp_units.specs.Segments.{words_in}
use Rattle.capnp_wire_objects.specs.Places.{place_view}
use Rattle.capnp_wire_objects.specs.Inside.{section_at, words_there}
use Rattle.capnp_wire_canonical.specs.Widths.{kept}
use Rattle.capnp_wire_canonical.proofs.Kept.{widest_one}
use Rattle.capnp_wire_canonical.proofs.StandingStructs.{wide_told, kept_told}
use Rattle.capnp_wire_canonical.proofs.check.is_canonical_struct.Goals as goal

pub returns-then-not-is_least : goal.returns-then-not-is_least
returns-then-not-is_least g c =
    let s : Segments = words_in (g.A.ReaderArena.segments c.args.arena.now) in
    let q : Place = place_view c.args.start in
    let d = c.args.size.data_words in
    let k = c.args.size.pointers in
    wide_told c.args.levels s q d k (needed_words d (section_at s q d)) (kept (words_there s (after q d) k)) c.requires.0 (sym (widest_one (λ r. needed_words d (section_at s r d)) q (d + k))) (sym (widest_one (λ r. kept (words_there s r k)) (after q d) (d + k)))
    (place_view c.args.head.now) c.args.limiter.now c.if-not-is_least.ensures.less

pub returns : goal.returns
returns g c =
    let s : Segments = words_in (g.A.ReaderArena.segments c.args.arena.now) in
    let q : Place = place_view c.args.start in
    let d = c.args.size.data_words in
    let k = c.args.size.pointers in
    let least = c.if-not-is_least.ensures.least in
    kept_told c.args.levels s q d k (needed_words d (section_at s q d)) (kept (words_there s (after q d) k)) c.requires.0 (sym (widest_one (λ r. needed_words d (section_at s r d)) q (d + k))) (sym (widest_one (λ r. kept (words_there s r k)) (after q d) (d + k)))
    (place_view c.args.head.now) c.args.limiter.now c.are_canonical.result (place_view c.are_canonical.new.head) c.are_canonical.new.limiter least.0 least.1 c.are_canonical.ensures
