use Rattle.std.proofs.Common.{◌≡◌, ◌↔◌, ℕ, true, ap, sym, subst, ◌^◌, ◌≤◌, ◌∙◌}
use Rattle.capnp_model.specs.Accepted.{schema_of}
use Rattle.capnp_model.specs.Calls.{initn, set_to, element_content}
use Rattle.capnp_model.specs.InKindCalls.{at_value}
use Rattle.capnp_model.specs.Kinds.{WrongStep}
use Rattle.capnp_records.specs.Sets.{nodes_of}
use Rattle.capnp_values_queries.specs.Types.{ty_of}
use Rattle.capnp_calls.specs.CallViews.{action_view, slot_value_view}
use Rattle.capnp_calls.specs.Sizes.{content_len}
use Rattle.capnp_calls.specs.Ends.{end_view}
use Rattle.capnp_calls.specs.LongLists.{sets_message}
use Rattle.capnp_calls.proofs.LongPuts.{element_len, long_at}
use Rattle.capnp_calls.proofs.long.puts_long_at.Goals as goal

pub returns-in-Value-clause-long : goal.returns-in-Value-clause-long
returns-in-Value-clause-long c h =
    let s = schema_of (nodes_of c.args.set.now) in
    let n : ℕ = c.in-Initn.count in
    let ty = ty_of c.in-Value.ty in
    let here : (c.is_long_list-in-Value.result ≡ true) ↔ (2 ^ 29 ≤ content_len (element_content s (initn n) ty)) = subst (λ len. (c.is_long_list-in-Value.result ≡ true) ↔ (2 ^ 29 ≤ len)) (element_len s n ty WrongStep) (c.is_long_list-in-Value.ensures WrongStep) in
    long_at s (action_view c.args.action.now) (initn n) (end_view c.args.end) (at_value ty) (ap action_view c.in-Initn.is) (ap end_view c.in-Value.is) _ here

pub returns-in-Value-end-clause-long : goal.returns-in-Value-end-clause-long
returns-in-Value-end-clause-long c h =
    let s = schema_of (nodes_of c.args.set.now) in
    let v = slot_value_view c.in-Set.value in
    long_at s (action_view c.args.action.now) (set_to v) (end_view c.args.end) (at_value (ty_of c.in-Value-end.ty)) (ap action_view c.in-Set.is) (ap end_view c.in-Value-end.is) _ (c.is_long_element.ensures.long s (sym (ap (λ a. sets_message (action_view a)) c.in-Set.is) ∙ h))
