use Rattle.std.proofs.Common.{List, IfOk, subst}
use Rattle.std.specs.Bool.{MatchBool}
use Rattle.capnp_model.specs.Partners.{Renaming}
use Rattle.capnp_calls_versions.specs.Roots.{AreRootsCompatibleWith}
use Rattle.capnp_calls_versions.proofs.OlderViews.{viewed}
use Rattle.capnp_calls_versions.proofs.compatible.compatible.Goals as goal

pub returns-clause-answer : goal.returns-clause-answer
returns-clause-answer c =
    subst (λ (rs : List Renaming). IfOk c.compatible_with.result (λ b. MatchBool b (AreRootsCompatibleWith rs c.args.older c.args.newer) (AreRootsCompatibleWith rs c.args.older c.args.newer → ⊥)))
    c.none.ensures c.compatible_with.ensures.answer

pub returns-clause-view : goal.returns-clause-view
returns-clause-view c = viewed c.older_records.ensures c.args.older c.args.newer c.compatible_with.result (returns-clause-answer c)
