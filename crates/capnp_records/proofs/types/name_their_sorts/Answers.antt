use Rattle.std.proofs.Common.{map, sym, ◌∙◌, rules}
use Rattle.std.proofs.lemmas.Iterator.{YieldsList-from_slice}
use Rattle.std.proofs.lemmas.Iterator.Search.{all_from_yields_List}
use Rattle.std.proofs.lemmas.List.Folds.{list_all-map}
use Rattle.capnp_model.specs.Schemas.{TypeRecord}
use Rattle.capnp_model.specs.Accepted.{names_its_sort}
use Rattle.capnp_records.specs.NodeViews.{type_record_of, node_of}
use Rattle.capnp_records.proofs.types.name_their_sorts.Goals as goal

pub returns : goal.returns
returns c =
    all_from_yields_List (λ t. names_its_sort (map node_of c.args.nodes.records.now) (type_record_of t).base) _ _ _ c.all.ensures.ran (YieldsList-from_slice c.args.types.now cc) (λ x b q k. search rules)
    ∙ sym (list_all-map (λ (t : TypeRecord). names_its_sort (map node_of c.args.nodes.records.now) t.base) (type_record_of) (c.args.types.now))
