-- A slot.
use Rattle.std.proofs.Common.{sym, subst}
use Rattle.std.specs.Prelude.{IfOk, IfSome}
use Rattle.capnp_model.specs.Calls.{set_to}
use Rattle.capnp_calls.specs.CallViews.{slot_value_view}
use Rattle.capnp_calls.specs.Ends.{end_view}
use Rattle.capnp_calls.specs.Hops.{SetsEnd}
use Rattle.capnp_calls.specs.declared.ends.End.{End}
use Rattle.capnp_calls.proofs.splices.put_for.Goals as goal

pub returns-in-Slot-clause-put : goal.returns-in-Slot-clause-put
returns-in-Slot-clause-put c = subst (λ (e : End). IfOk c.put_by.result (λ found. IfSome found (λ put. SetsEnd put c.args.course (end_view e) (set_to (slot_value_view c.args.value.now))))) (sym c.in-Slot.is) c.put_by.ensures.put
