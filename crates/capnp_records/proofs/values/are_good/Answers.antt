use Rattle.std.proofs.Common.{true, Some, sym, ◌∙◌, rules}
use Rattle.std.proofs.lemmas.Iterator.{YieldsList-from_slice}
use Rattle.std.proofs.lemmas.Iterator.Search.{all_from_yields_List}
use Rattle.std.proofs.lemmas.List.Folds.{list_all-map}
use Rattle.capnp_model.specs.Schemas.{Annotation}
use Rattle.capnp_model.specs.Accepted.{is_good_value}
use Rattle.capnp_records.specs.NodeViews.{annotation_of}
use Rattle.capnp_records.proofs.values.are_good.Goals as goal

pub returns : goal.returns
returns c =
    all_from_yields_List (λ a. is_good_value (λ t. true) (Some (annotation_of a).value)) _ _ _ c.all.ensures.ran (YieldsList-from_slice c.args.annotations.now cc) (λ x b q k. search rules)
    ∙ sym (list_all-map (λ (a : Annotation). is_good_value (λ t. true) (Some a.value)) (annotation_of) (c.args.annotations.now))
