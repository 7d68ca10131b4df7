use Rattle.std.proofs.Common.{◌+◌, ◌*◌, arith}
use Rattle.capnp_model.specs.Segments.{after, place}
use Rattle.capnp_wire_objects.specs.Places.{place_view, placed}
use Rattle.hagzimot_explain.specs.Reached.{IsInRow, IsInElements}
use Rattle.hagzimot_explain.proofs.PointerLemmas.{adds_none, adds_then, elements_longer, element_row, elements_have, still}
use Rattle.hagzimot_explain.proofs.pointers.add_elements.Goals as goal

pub loop-i-init : goal.loop-i-init
loop-i-init c = record { adds = adds_none (IsInElements (place_view c.args.start) 0 c.args.data_words c.args.pointers) c.args.places.now.items c.args.seen.now.items c.requires.listed; has = λ e i h w. absurd (omega arith) }

pub loop-i-preserved : goal.loop-i-preserved
loop-i-preserved c =
    let start = place_view c.args.start in
    let n = c.loop-i.i in
    let d = c.args.data_words in
    let k = c.args.pointers in
    let added = c.in_ok-add_row.ensures.adds in
    let new = c.add_row.new.places.items in
    let row = place start.segment (start.position + n * (d + k) + d) in
    record {
      adds = adds_then (IsInElements start n d k) (IsInRow row k) (IsInElements start (n + 1) d k) c.args.places.now.items c.loop-i.places.items new c.args.seen.now.items c.loop-i.seen.items c.add_row.new.seen.items (elements_longer start n d k) (element_row start n d k) c.loop-i.invariant.adds added;
      has = elements_have start n d k new (λ e i h w. still (IsInRow row k) c.loop-i.places.items new c.loop-i.seen.items c.add_row.new.seen.items (placed (after start (e * (d + k) + d + i))) added (c.loop-i.invariant.has e i h w)) c.in_ok-add_row.ensures.has;
    }
