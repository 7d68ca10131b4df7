-- The struct is that of the word.
use Rattle.std.proofs.Common.{sym}
use Rattle.capnp_model.specs.Segments.{after}
use Rattle.capnp_wire_objects.specs.Places.{place_view}
use Rattle.capnp_wire_objects.proofs.lemmas.NearObjects.{begins_where, held, struct_near}
use Rattle.capnp_wire_objects.proofs.near.near_struct_in.Goals as goal

pub returns-clause-near : goal.returns-clause-near
returns-clause-near c = λ segments is.
    let place = c.args.place in
    let there = held segments place.segment place.position c.in_ok-word.word c.args.bytes.now is c.in_ok-word.ensures.word in
    struct_near segments c.args.bytes.now (place_view place) c.in_ok-word.word c.in-Struct.offset c.in-Ok.start there c.in_ok-word.ensures.word c.in-Ok.ensures
    c.in-Struct.data_words c.in-Struct.pointers c.in-Struct.ensures c.if-word-eq0.false (sym c.if-not-reach.ensures.there) c.if-not-reach.ensures.near

pub returns-clause-segment : goal.returns-clause-segment
returns-clause-segment c = begins_where (after (place_view c.args.place) 1) (place_view c.in-Ok.start) c.in-Struct.offset (sym c.in-Ok.ensures)
