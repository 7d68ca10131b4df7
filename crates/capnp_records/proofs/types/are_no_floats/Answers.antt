use Rattle.std.proofs.Common.{not, sym, ◌∙◌, rules}
use Rattle.std.proofs.lemmas.Iterator.{YieldsList-from_slice}
use Rattle.std.proofs.lemmas.Iterator.Search.{all_from_yields_List}
use Rattle.std.proofs.lemmas.List.Folds.{list_all-map}
use Rattle.capnp_model.specs.Schemas.{TypeRecord}
use Rattle.capnp_model.specs.Accepted.{is_float}
use Rattle.capnp_records.specs.NodeViews.{type_record_of}
use Rattle.capnp_records.proofs.types.are_no_floats.Goals as goal

pub returns : goal.returns
returns c =
    all_from_yields_List (λ t. not (is_float (type_record_of t).base)) _ _ _ c.all.ensures.ran (YieldsList-from_slice c.args.types.now cc) (λ x b q k. search rules)
    ∙ sym (list_all-map (λ (t : TypeRecord). not (is_float t.base)) (type_record_of) (c.args.types.now))
