use Rattle.std.proofs.Common.{◌≡◌, ◌==◌, ◌-◌, ◌<◌, ℕ, Bool, true, false, List, [], Some, map, length, sym, ◌∙◌, ap, subst, arith}
use Rattle.std.specs.List.{list_any, flat_map}
use Rattle.std.proofs.lemmas.Bool.Decides.{nat_tests}
use Rattle.capnp_model.specs.Accepted.{meets_below}
use Rattle.capnp_records.specs.NodeViews.{node_of}
use Rattle.capnp_records.specs.Levels.{groups_below, PassSame}
use Rattle.capnp_records.proofs.Below.{meets_in, from_node, met_here, one_down, no_more_below}
use Rattle.capnp_records.proofs.groups.meets_itself.Goals as goal

pub loop-left-init : goal.loop-left-init
loop-left-init c =
    let nodes = map node_of c.args.nodes.records.now in
    let some : (length c.args.nodes.records.now == 0) ≡ false = sym c.is_empty.ensures ∙ c.if-is_empty.false in
    let long : 0 < length c.args.nodes.records.now = grind (arith, nat_tests) in
    ap (λ (gs : List ℕ). meets_in nodes c.args.node.now.id (length c.args.nodes.records.now - 1) gs) c.in_ok-ids.ensures
    ∙ from_node nodes c.args.node.now.id (node_of c.args.node.now) (length c.args.nodes.records.now) long

pub loop-left-preserved : goal.loop-left-preserved
loop-left-preserved c =
    let nodes = map node_of c.args.nodes.records.now in
    let id = c.args.node.now.id in
    let all : Bool = meets_below nodes (length c.args.nodes.records.now) id (Some (node_of c.args.node.now)) in
    let gs = c.loop-left.ids.items in
    let not_here : list_any (λ g. g == id) gs ≡ false = ap (list_any (λ g. g == id)) (sym c.deref.ensures.value) ∙ sym c.has_group.ensures ∙ c.if-has_group.false in
    let same : PassSame c.in_ok-ids-2.ids.items (flat_map (groups_below nodes) gs) = subst (λ (xs : List ℕ). PassSame c.in_ok-ids-2.ids.items (flat_map (groups_below nodes) xs)) c.deref-in-loop-left.ensures.value c.in_ok-ids-2.ensures in
    one_down nodes id c.loop-left.left gs c.in_ok-ids-2.ids.items all c.loop-left-test.true not_here same c.loop-left.invariant

pub returns-then-has_group : goal.returns-then-has_group
returns-then-has_group c =
    let nodes = map node_of c.args.nodes.records.now in
    let id = c.args.node.now.id in
    let all : Bool = meets_below nodes (length c.args.nodes.records.now) id (Some (node_of c.args.node.now)) in
    let gs = c.loop-left.ids.items in
    let here : list_any (λ g. g == id) gs ≡ true = ap (list_any (λ g. g == id)) (sym c.deref.ensures.value) ∙ sym c.has_group.ensures ∙ c.if-has_group.true in
    met_here nodes id c.loop-left.left gs all c.loop-left-test.true here c.loop-left.invariant

pub returns-then-is_nothing : goal.returns-then-is_nothing
returns-then-is_nothing c =
    let nodes = map node_of c.args.nodes.records.now in
    let id = c.args.node.now.id in
    let all : Bool = meets_below nodes (length c.args.nodes.records.now) id (Some (node_of c.args.node.now)) in
    let gs = c.loop-left.ids.items in
    let not_here : list_any (λ g. g == id) gs ≡ false = ap (list_any (λ g. g == id)) (sym c.deref.ensures.value) ∙ sym c.has_group.ensures ∙ c.if-has_group.false in
    let same : PassSame c.in_ok-ids-2.ids.items (flat_map (groups_below nodes) gs) = subst (λ (xs : List ℕ). PassSame c.in_ok-ids-2.ids.items (flat_map (groups_below nodes) xs)) c.deref-in-loop-left.ensures.value c.in_ok-ids-2.ensures in
    let none : c.in_ok-ids-2.ids.items ≡ [] = sym c.deref-in-loop-left-2.ensures.value ∙ c.is_nothing.ensures c.if-is_nothing.true in
    no_more_below nodes id c.loop-left.left gs c.in_ok-ids-2.ids.items all c.loop-left-test.true not_here same none c.loop-left.invariant
