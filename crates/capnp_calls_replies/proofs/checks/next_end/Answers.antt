use Rattle.std.proofs.Common.{ap, sym, ◌∙◌}
use Rattle.capnp_model.specs.Accepted.{schema_of}
use Rattle.capnp_model.specs.InKindCalls.{next_end}
use Rattle.capnp_records.specs.Sets.{nodes_of}
use Rattle.capnp_values_queries.specs.Handles.{entry_of_field}
use Rattle.capnp_values_queries.specs.Types.{ty_of}
use Rattle.capnp_calls.specs.CallViews.{step_view}
use Rattle.capnp_calls_replies.specs.Checks.{end_view}
use Rattle.capnp_calls_replies.proofs.CheckedEnds.{typed_step, index_step}
use Rattle.capnp_calls_replies.proofs.checks.next_end.Goals as goal

pub returns-in-None-clause-end : goal.returns-in-None-clause-end
returns-in-None-clause-end c =
    let s = schema_of (nodes_of c.args.set.now) in
    let st = step_view c.args.step.now in
    let f = c.in-Name-Field.field in
    c.step_into.ensures.end ∙ typed_step s st (entry_of_field f) (ty_of c.get_type.result) c.in-None.ensures c.get_type.ensures.ty
    ∙ ap (λ e. next_end s st (end_view e)) (sym c.in-Name-Field.is-1)

pub returns-in-Index-Field-clause-end : goal.returns-in-Index-Field-clause-end
returns-in-Index-Field-clause-end c =
    let s = schema_of (nodes_of c.args.set.now) in
    let st = step_view c.args.step.now in
    let f = c.in-Index-Field.field in
    c.step_into-in-Index-Field.ensures.end ∙ index_step s st c.in-Index-Field.field-0-0 (entry_of_field f) (ty_of c.get_type-in-Index-Field.result) (ap step_view c.in-Index-Field.is-0) c.get_type-in-Index-Field.ensures.ty
    ∙ ap (λ e. next_end s st (end_view e)) (sym c.in-Index-Field.is-1)
