-- No pointer is null, and a default is read without a limit.
use Rattle.std.proofs.Common.{Bool, false, Option, ap, sym, subst}
use Rattle.capnp_model.specs.Segments.{Segments, Place}
use Rattle.capnp_model.specs.Sizes.{object_words, capability_count}
use Rattle.capnp_model.specs.Traversal.{tree_at}
use Rattle.capnp_model.specs.Visits.{visits}
use Rattle.capnp_units.specs.Segments.{words_in}
use Rattle.capnp_wire_objects.specs.Places.{place_view}
use Rattle.capnp_wire.specs.Views.{backing_bytes, is_paid, seen_pointer, place_seen}
use Rattle.capnp_wire.specs.ValueSizes.{SizeOn, tree_behind, visits_behind}
use Rattle.capnp_wire.proofs.Sizing.{freely, value_size, null_size}
use Rattle.capnp_wire.proofs.pointer.PointerReader.total_size.Goals as goal

pub returns-in_default-place : goal.returns-in_default-place
returns-in_default-place g c = null_size (seen_pointer g.A.ReaderArena.segments c.args.self.now) c.in-Some.levels c.args.limiter.now c.in-Some.is (ap place_seen c.in_default-place.is)

pub returns-in-Default : goal.returns-in-Default
returns-in-Default g c =
    let s : Segments = words_in (backing_bytes g.A.ReaderArena.segments c.args.self.now.backing) in
    let n = c.in-Some.levels in
    let p = c.in-Some-place.place in
    let free = freely object_words capability_count (tree_at n s (place_view p)) (visits n s (place_view p)) c.args.limiter.now c.new-unlimited.result c.size_at-in-Default.new.limiter c.size_at-in-Default.result c.new-unlimited.ensures.limit c.size_at-in-Default.ensures in
    let there = subst (λ (o : Option Place). SizeOn false object_words capability_count (tree_behind n s o) (visits_behind n s o) c.args.limiter.now c.size_at-in-Default.result c.args.limiter.now) (sym (ap place_seen c.in-Some-place.is)) free in
    value_size (seen_pointer g.A.ReaderArena.segments c.args.self.now) n c.args.limiter.now c.args.limiter.now c.size_at-in-Default.result c.in-Some.is
    (subst (λ (b : Bool). SizeOn b object_words capability_count (tree_behind n s (place_seen c.args.self.now.place)) (visits_behind n s (place_seen c.args.self.now.place)) c.args.limiter.now c.size_at-in-Default.result c.args.limiter.now) (sym (ap is_paid c.in-Default.is)) there)
