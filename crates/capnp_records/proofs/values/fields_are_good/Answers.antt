use Rattle.std.proofs.Common.{Bool, true, List, Some, map, sym, ◌∙◌, rules}
use Rattle.std.specs.List.{list_all}
use Rattle.std.proofs.lemmas.Iterator.{YieldsList-from_slice}
use Rattle.std.proofs.lemmas.Iterator.Search.{all_from_yields_List}
use Rattle.std.proofs.lemmas.List.Folds.{list_all-map}
use Rattle.capnp_model.specs.Schemas.{Annotation, Field}
use Rattle.capnp_model.specs.Accepted.{is_good_value}
use Rattle.capnp_records.specs.NodeViews.{field_of}
use Rattle.capnp_records.proofs.lemmas.ListTests.{list_all-flat_map}
use Rattle.capnp_records.proofs.values.fields_are_good.Goals as goal

pub returns : goal.returns
returns c =
    let good : Annotation → Bool = λ a. is_good_value (λ t. true) (Some a.value) in
    let fields = c.args.fields.now in
    all_from_yields_List (λ f. list_all good (field_of f).annotations) _ _ _ c.all.ensures.ran (YieldsList-from_slice fields cc) (λ x b q k. search rules)
    ∙ sym (list_all-map (λ (f : Field). list_all good f.annotations) field_of fields)
    ∙ sym (list_all-map (λ (as' : List Annotation). list_all good as') (λ (f : Field). f.annotations) (map field_of fields))
    ∙ sym (list_all-flat_map good (λ (as' : List Annotation). as') (map (λ (f : Field). f.annotations) (map field_of fields)))
