use Rattle.std.proofs.Common.{List, IfOk, map, subst}
use Rattle.capnp_model.specs.Partners.{Renaming}
use Rattle.capnp_calls.specs.CallViews.{call_view}
use Rattle.capnp_calls_versions.specs.Roots.{is_admitted_with_at}
use Rattle.capnp_calls_versions.specs.Ways.{IsAdmissionOf}
use Rattle.capnp_calls_versions.proofs.admitted.admitted.Goals as goal

pub returns-clause-answer : goal.returns-clause-answer
returns-clause-answer c =
    subst (λ (rs : List Renaming). IfOk c.admitted_with.result (IsAdmissionOf (is_admitted_with_at rs c.args.older c.args.newer) (map call_view c.args.calls.now)))
    c.none.ensures c.admitted_with.ensures.answer
