-- what is found in the map of nodes is a node
use Rattle.std.proofs.Common.{◌≢◌, IsTrue, AllPairs, subst, ◌∙◌}
use Rattle.std.proofs.lemmas.Result.{IfOk-weaker}
use Rattle.capnp_source_rules.specs.Groups.{AreGoodGroups}
use Rattle.capnp_source_rules.proofs.Numbers.{homes_found}
use Rattle.capnp_source_rules.proofs.groups.are_good_groups.Goals as goal

pub returns : goal.returns
returns c =
    let nodes = c.args.nodes.now in
    let groups = c.deref.result.now in
    IfOk-weaker c.are_distinct.result (λ b. IsTrue b → AllPairs (λ x y. x ≢ y) groups) (λ b. IsTrue b → AreGoodGroups nodes)
    (λ b f is. record {
      homes = homes_found nodes c.in_ok-homes.homes c.in_ok-homes.ensures (c.hold_groups.ensures c.if-not-hold_groups.false);
      once = subst (AllPairs (λ x y. x ≢ y)) (c.deref.ensures.value ∙ c.in_ok-groups.ensures) (f is);
    })
    c.are_distinct.ensures
