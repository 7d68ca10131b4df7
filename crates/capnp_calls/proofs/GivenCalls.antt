-- What calls set are values of their sorts.
use Rattle.std.proofs.Common.{List, [], ◌∷◌, arith}
use Rattle.std.specs.Prelude.{IsTrue, map}
use Rattle.capnp_model.specs.CallRuns.{IsGiven, AreGiven}
use Rattle.capnp_calls.specs.declared.call.Call.{Call}
use Rattle.capnp_calls.specs.declared.call.SlotValue.TheVariants as value
use Rattle.capnp_calls.specs.declared.call.Action.{Action}
use Rattle.capnp_calls.specs.declared.call.Action.TheVariants as action
use Rattle.capnp_calls.specs.Actions.{is_in_range}
use Rattle.capnp_calls.specs.CallViews.{action_view, call_view}

given_action : (a : Action) → IsTrue (is_in_range a) → IsGiven (action_view a)
given_action action.Get h = tt
given_action (action.Set (value.Number z)) h = tt
given_action (action.Set (value.Bool b)) h = tt
given_action (action.Set (value.Enum n)) h = grind (arith, h)
given_action (action.Set (value.Text t)) h = tt
given_action (action.Set (value.Data bs)) h = tt
given_action (action.Set (value.Message m)) h = tt
given_action action.Init h = tt
given_action (action.Initn n) h = tt
given_action action.Clear h = tt

pub given_calls : (calls : List Call) → AreGiven (map call_view calls)
given_calls [] = tt
given_calls (c ∷ calls) = (given_action c.action c.in_range, given_calls calls)
