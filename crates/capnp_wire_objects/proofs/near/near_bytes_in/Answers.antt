-- The list is that of the word.
use Rattle.std.proofs.Common.{◌+◌, ◌/◌, ◌%◌, ◌^◌, ap, sym, ◌∙◌, subst, arith}
use Rattle.capnp_model.specs.Sections.{words_for}
use Rattle.capnp_model.specs.Segments.{after}
use Rattle.capnp_model.proofs.lemmas.PointerWords.{begins_behind}
use Rattle.capnp_units.specs.declared.sizes.ElementSize.TheVariants.{Byte}
use Rattle.capnp_units.specs.Segments.{words_in}
use Rattle.capnp_wire_objects.specs.declared.object.Object.{Object}
use Rattle.capnp_wire_objects.specs.Places.{place_view}
use Rattle.capnp_wire_objects.specs.Near.{IsNear}
use Rattle.capnp_wire_objects.proofs.lemmas.NearObjects.{held, list_near, bits_of, segment_of, size_of, onwards_bytes}
use Rattle.capnp_wire_objects.proofs.near.near_bytes_in.Goals as goal

pub returns-clause-near : goal.returns-clause-near
returns-clause-near c = λ segments is.
    let list = c.new-list.ensures in
    let words = list.measured.1 ∙ ap words_for (list.measured.0 ∙ ap bits_of list.object) in
    let place = c.args.place in
    let w = c.in_ok-word.word in
    let there = held segments place.segment place.position w c.args.bytes.now is c.in_ok-word.ensures.word in
    subst (λ (o : Object). IsNear (words_in segments) (place_view place) o) (sym list.object)
    (list_near segments c.args.bytes.now (place_view place) w (w / 4 % 2 ^ 29) (record { segment = place.segment; position = place.position + 1 + w / 4 % 2 ^ 29 }) there c.in_ok-word.ensures.word (sym (begins_behind (after (place_view place) 1) (w / 4 % 2 ^ 29) (omega arith)))
    Byte (w / 2 ^ 35) c.new-list.result.words (onwards_bytes w (omega arith) (omega arith) (omega arith)) words (omega arith) (sym c.if-not-reach.ensures.there) c.if-not-reach.ensures.near)

pub returns-clause-segment : goal.returns-clause-segment
returns-clause-segment c = ap segment_of c.new-list.ensures.object

pub returns-clause-size : goal.returns-clause-size
returns-clause-size c = ap size_of c.new-list.ensures.object
