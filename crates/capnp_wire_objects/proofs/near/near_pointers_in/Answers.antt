-- The list is that of the word.
use Rattle.std.proofs.Common.{ap, sym, ◌∙◌}
use Rattle.capnp_model.specs.Segments.{after}
use Rattle.capnp_model.specs.Pointers.{to_list}
use Rattle.capnp_units.specs.declared.sizes.ElementSize.{ElementSize}
use Rattle.capnp_units.specs.Sizes.{size_number}
use Rattle.capnp_wire_objects.specs.Places.{place_view}
use Rattle.capnp_wire_objects.proofs.lemmas.NearObjects.{begins_where, held, pointers_near}
use Rattle.capnp_wire_objects.proofs.near.near_pointers_in.Goals as goal

pub returns-clause-near : goal.returns-clause-near
returns-clause-near c = λ segments is.
    let place = c.args.place in
    let b = c.in-List-default-Pointer-default in
    let says = ap (λ (size : ElementSize). to_list b.offset (size_number size) b.count) (sym b.size-is) ∙ b.ensures in
    let there = held segments place.segment place.position c.in_ok-word.word c.args.bytes.now is c.in_ok-word.ensures.word in
    pointers_near segments c.args.bytes.now (place_view place) c.in_ok-word.word b.offset c.in-Ok.start there c.in_ok-word.ensures.word c.in-Ok.ensures
    b.count says (sym c.if-not-reach.ensures.there) c.if-not-reach.ensures.near

pub returns-clause-segment : goal.returns-clause-segment
returns-clause-segment c = begins_where (after (place_view c.args.place) 1) (place_view c.in-Ok.start) c.in-List-default-Pointer-default.offset (sym c.in-Ok.ensures)
