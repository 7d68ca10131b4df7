-- The element.
use Rattle.capnp_values_queries.specs.Types.{ty_of}
use Rattle.capnp_calls.specs.CallViews.{slot_value_view}
use Rattle.capnp_calls.proofs.PutsAt.{element_put}
use Rattle.capnp_calls.proofs.splices.put_into.Goals as goal

pub returns-in-Some-clause-put : goal.returns-in-Some-clause-put
returns-in-Some-clause-put c = element_put c.args.course c.in-Some.place (ty_of c.args.ty) (slot_value_view c.args.value.now) c.in-Some.is c.element_at.result c.element_at.ensures.put
