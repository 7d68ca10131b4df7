-- A member, or another field.
use Rattle.capnp_values_queries.specs.Handles.{body_of_place}
use Rattle.capnp_calls.specs.CallViews.{slot_value_view}
use Rattle.capnp_calls.proofs.PutsAt.{member_put, plain_put}
use Rattle.capnp_calls.proofs.splices.put_by.Goals as goal

pub returns-in-Some-clause-put : goal.returns-in-Some-clause-put
returns-in-Some-clause-put c = member_put c.args.course (body_of_place c.args.place) (slot_value_view c.args.value.now) c.in-Some.mark c.member_at.result c.in-Some.is c.member_at.ensures

pub returns-in-None-clause-put : goal.returns-in-None-clause-put
returns-in-None-clause-put c = plain_put c.args.course (body_of_place c.args.place) (slot_value_view c.args.value.now) c.put_at.result c.if-course.true c.put_at.ensures.put
