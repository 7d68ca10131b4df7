use Rattle.std.proofs.Common.{◌≡◌, ◌∙◌, ◌||◌, ℕ, List, ap, map, get_or}
use Rattle.std.specs.List.{list_any}
use Rattle.capnp_records.specs.NodeViews.{node_of}
use Rattle.capnp_records.specs.Levels.{groups_below, PassMore}
use Rattle.capnp_records.proofs.lemmas.ListTests.{default_any}
use Rattle.capnp_records.proofs.Below.{level_one_more}
use Rattle.capnp_records.proofs.groups.next_level.Goals as goal

pub loop-id-preserved : goal.loop-id-preserved
loop-id-preserved c =
    let below : ℕ → List ℕ = groups_below (map node_of c.args.nodes.records.now) in
    let ids = c.args.ids.now in
    let i = c.loop-id.id-index in
    let id : ℕ = get_or ids i 0 in
    let next = c.loop-id.next.items in
    let new = c.push_all_new.new.ids.items in
    let used : c.deref.result.now ≡ below id = c.deref.ensures.value ∙ c.in_ok-more.ensures in
    let more : PassMore next new (below id) = λ test. c.in_ok-push_all_new.ensures.more test ∙ ap (λ (ys : List ℕ). list_any test next || list_any test ys) used in
    record {
      same = c.in_ok-push_all_new.ensures.same;
      below = level_one_more below next new ids i id c.loop-id-test.true (default_any ids i 0 id c.loop-id-test.true) c.loop-id.invariant.below more;
    }
