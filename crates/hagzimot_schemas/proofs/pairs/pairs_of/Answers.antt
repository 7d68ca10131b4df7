use Rattle.std.proofs.Common.{◌≡◌, ◌++◌, ℕ, List, Bor, option_map, take, ap, sym, ◌∙◌}
use Rattle.std.specs.List.{filter_map}
use Rattle.std.specs.Option.{option_to_list}
use Rattle.hagzimot_schemas.specs.Twins.{paired, lacked}
use Rattle.hagzimot_schemas.proofs.Walks.{filter_more}
use Rattle.hagzimot_schemas.proofs.pairs.pairs_of.Goals as goal

pub loop-node-preserved : goal.loop-node-preserved
loop-node-preserved c =
    let newer = c.in_ok-structs.structs.nodes.now in
    let older = c.args.older.now in
    let i = c.loop-node.node-index in
    let x = c.node-item.result in
    record {
      pairs =
          c.in_ok-push_pair.ensures
          ∙ ap (λ ps. ps ++ option_to_list c.paired.result) c.loop-node.invariant.pairs
          ∙ ap (λ o. filter_map (paired newer) (take i older) ++ option_to_list o) c.paired.ensures
          ∙ sym (filter_more (paired newer) older i x c.loop-node-test.true c.node-item.is);
      left_out =
          c.in_ok-push_name.ensures
          ∙ ap (λ ns. ns ++ option_to_list (option_map (λ (s : Bor (List ℕ)). s.now) c.lacked.result)) c.loop-node.invariant.left_out
          ∙ ap (λ o. filter_map (lacked newer) (take i older) ++ option_to_list o) c.lacked.ensures
          ∙ sym (filter_more (lacked newer) older i x c.loop-node-test.true c.node-item.is);
    }
