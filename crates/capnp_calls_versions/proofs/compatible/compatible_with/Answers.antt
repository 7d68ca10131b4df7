use Rattle.std.proofs.Common.{Bool, subst}
use Rattle.std.specs.Bool.{MatchBool}
use Rattle.capnp_calls_versions.specs.Roots.{AreRootsCompatibleWith}
use Rattle.capnp_calls_versions.specs.Renamed.{renamings_of}
use Rattle.capnp_calls_versions.proofs.AllKept.{not_back}
use Rattle.capnp_calls_versions.proofs.OlderViews.{viewed-with}
use Rattle.capnp_calls_versions.proofs.compatible.compatible_with.Goals as goal

pub returns-clause-answer : goal.returns-clause-answer
returns-clause-answer c =
    subst (λ (b : Bool). MatchBool b (AreRootsCompatibleWith (renamings_of c.args.renamings.now) c.args.older c.args.newer) (AreRootsCompatibleWith (renamings_of c.args.renamings.now) c.args.older c.args.newer → ⊥))
    (not_back _ _ c.is_none.ensures) c.in_ok-first_break.ensures.answer

pub returns-clause-view : goal.returns-clause-view
returns-clause-view c = viewed-with c.records_by_older_names.ensures (renamings_of c.args.renamings.now) c.args.older c.args.newer c.is_none.result (returns-clause-answer c)
