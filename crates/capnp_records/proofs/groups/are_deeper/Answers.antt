use Rattle.std.proofs.Common.{nat_eq, sym, ◌∙◌, rules}
use Rattle.std.specs.HashMap.{get}
use Rattle.std.proofs.lemmas.Iterator.{YieldsList-from_slice}
use Rattle.std.proofs.lemmas.Iterator.Search.{all_from_yields_List}
use Rattle.std.proofs.lemmas.List.Folds.{list_all-map}
use Rattle.capnp_records.specs.NodeViews.{node_of}
use Rattle.capnp_records.specs.Uses.{depths_in, holds_deeper}
use Rattle.capnp_records.proofs.groups.are_deeper.Goals as goal

pub returns : goal.returns
returns c =
    all_from_yields_List (λ n. holds_deeper (depths_in (get nat_eq c.args.depths.now)) (node_of n)) _ _ _ c.all.ensures.ran (YieldsList-from_slice c.args.nodes.now cc) (λ x b q k. search rules)
    ∙ sym (list_all-map (holds_deeper (depths_in (get nat_eq c.args.depths.now))) node_of c.args.nodes.now)
