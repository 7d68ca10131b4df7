use Rattle.std.proofs.Common.{List, sym, subst}
use Rattle.capnp_calls.specs.Resolved.{KnowSplices}
use Rattle.capnp_calls.specs.declared.resolved.Resolved.{Resolved}
use Rattle.capnp_relay_answers.specs.Found.{IsFound}
use Rattle.capnp_relay_answers.proofs.root_calls.RootCalls.new.Goals as goal

pub invariant_of-result-clause-known : goal.invariant_of-result-clause-known
invariant_of-result-clause-known c =
    let schema = c.args.schema in
    let same = c.deref.ensures.value in
    let here : KnowSplices schema c.deref.result.now = subst (KnowSplices schema) (sym same) c.in_ok-calls.ensures.splices in
    ∣ subst (λ (rs : List Resolved). IsFound schema rs c.in_ok-found.found) same (c.in_ok-found.ensures.found schema here) ∣₁
