-- The word of a null.
use Rattle.std.proofs.Common.{◌≡◌, ℕ, Some, ap, sym, ◌∙◌}
use Rattle.capnp_model.specs.Segments.{Segments, Place, word_at}
use Rattle.capnp_units.specs.Segments.{words_in}
use Rattle.capnp_wire_objects.specs.Places.{place_view}
use Rattle.capnp_wire_canonical.proofs.Held.{word_held}
use Rattle.capnp_wire_canonical.proofs.NearFollowed.{null_paid}
use Rattle.capnp_wire_canonical.proofs.follow.follow_null.Goals as goal

pub returns-then-word-eq0-clause-paid : goal.returns-then-word-eq0-clause-paid
returns-then-word-eq0-clause-paid g c =
    let segments = g.A.ReaderArena.segments c.args.arena.now in
    let s : Segments = words_in segments in
    let p : Place = place_view c.args.place in
    let here : word_at s p ≡ Some 0 = sym (c.in-Some.ensures.word ∙ word_held segments p.segment c.args.bytes.now c.requires p.position) ∙ ap (λ (w : ℕ). Some w) c.if-word-eq0.true in
    null_paid s p here c.args.limiter.now c.follow.new.self (c.follow.ensures.limit, c.follow.ensures.granted) c.follow.ensures.followed
