use Rattle.std.proofs.Common.{subst, ◌∙◌}
use Rattle.capnp_calls.specs.CallViews.{call_view}
use Rattle.capnp_records.specs.declared.raw.RawBrandedStructSchema.{RawBrandedStructSchema}
use Rattle.hagzimot_commands.specs.Strict.{IsMisfit}
use Rattle.hagzimot_commands.proofs.strict.check_call.Goals as goal

pub returns-clause-misfit : goal.returns-clause-misfit
returns-clause-misfit c =
    let call = call_view c.args.call.now in
    let nodes = c.nodes.result.now in
    (nodes, c.nodes.ensures ∙ c.set.ensures, subst (λ (r : RawBrandedStructSchema). IsMisfit nodes r.id call.path call.verb c.misfit_of.result) c.raw.ensures c.misfit_of.ensures)
