use Rattle.std.proofs.Common.{◌≡◌, ◌+◌, arith}
use Rattle.capnp_model.specs.Segments.{after}
use Rattle.capnp_wire_objects.specs.Places.{place_view, placed}
use Rattle.hagzimot_explain.specs.Reached.{IsInRow}
use Rattle.hagzimot_explain.proofs.PointerLemmas.{adds_none, adds_then, row_longer, row_end, row_has, still}
use Rattle.hagzimot_explain.proofs.pointers.add_row.Goals as goal

pub loop-i-init : goal.loop-i-init
loop-i-init c = record { adds = adds_none (IsInRow (place_view c.args.first) 0) c.args.places.now.items c.args.seen.now.items c.requires.listed; has = λ i h. absurd (omega arith) }

pub loop-i-preserved : goal.loop-i-preserved
loop-i-preserved c =
    let first = place_view c.args.first in
    let i = c.loop-i.i in
    let added = c.in_ok-add.ensures.adds in
    let new = c.add.new.places.items in
    record {
      adds = adds_then (IsInRow first i) (λ p. p ≡ placed (after first i)) (IsInRow first (i + 1)) c.args.places.now.items c.loop-i.places.items new c.args.seen.now.items c.loop-i.seen.items c.add.new.seen.items (row_longer first i) (row_end first i) c.loop-i.invariant.adds added;
      has = row_has first i new (λ k h. still (λ p. p ≡ placed (after first i)) c.loop-i.places.items new c.loop-i.seen.items c.add.new.seen.items (placed (after first k)) added (c.loop-i.invariant.has k h)) c.in_ok-add.ensures.has;
    }

pub add-requires : goal.add-requires
add-requires c = c.loop-i.invariant.adds.listed
