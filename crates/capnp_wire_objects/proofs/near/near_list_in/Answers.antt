-- The list is that of the word.
use Rattle.std.proofs.Common.{ap, sym, ◌∙◌, subst, arith}
use Rattle.capnp_model.specs.Sections.{words_for}
use Rattle.capnp_model.specs.Segments.{after}
use Rattle.capnp_units.specs.Segments.{words_in}
use Rattle.capnp_wire_objects.specs.declared.object.Object.{Object}
use Rattle.capnp_wire_objects.specs.Places.{place_view}
use Rattle.capnp_wire_objects.specs.Near.{IsNear}
use Rattle.capnp_wire_objects.proofs.lemmas.NearObjects.{begins_where, held, list_near, bits_of, segment_of}
use Rattle.capnp_wire_objects.proofs.near.near_list_in.Goals as goal

pub returns-clause-near : goal.returns-clause-near
returns-clause-near c = λ segments is.
    let number = c.number.ensures in
    let plain = c.if-number-ge-PLAIN_SIZES.false in
    let list = c.new-list.ensures in
    let words = list.measured.1 ∙ ap words_for (list.measured.0 ∙ ap bits_of list.object) in
    let place = c.args.place in
    let there = held segments place.segment place.position c.in_ok-word.word c.args.bytes.now is c.in_ok-word.ensures.word in
    subst (λ (o : Object). IsNear (words_in segments) (place_view place) o) (sym list.object)
    (list_near segments c.args.bytes.now (place_view place) c.in_ok-word.word c.in-List.offset c.in-Ok.start there c.in_ok-word.ensures.word c.in-Ok.ensures
    c.in-List.size c.in-List.count c.new-list.result.words c.in-List.ensures words (omega arith) (sym c.if-not-reach.ensures.there) c.if-not-reach.ensures.near)

pub returns-clause-segment : goal.returns-clause-segment
returns-clause-segment c = ap segment_of c.new-list.ensures.object ∙ begins_where (after (place_view c.args.place) 1) (place_view c.in-Ok.start) c.in-List.offset (sym c.in-Ok.ensures)
