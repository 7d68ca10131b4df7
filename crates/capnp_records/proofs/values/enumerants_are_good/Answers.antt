use Rattle.std.proofs.Common.{Bool, true, List, Some, map, sym, ◌∙◌, rules}
use Rattle.std.specs.List.{list_all}
use Rattle.std.proofs.lemmas.Iterator.{YieldsList-from_slice}
use Rattle.std.proofs.lemmas.Iterator.Search.{all_from_yields_List}
use Rattle.std.proofs.lemmas.List.Folds.{list_all-map}
use Rattle.capnp_model.specs.Schemas.{Annotation, Enumerant}
use Rattle.capnp_model.specs.Accepted.{is_good_value}
use Rattle.capnp_records.specs.NodeViews.{enumerant_of}
use Rattle.capnp_records.proofs.lemmas.ListTests.{list_all-flat_map}
use Rattle.capnp_records.proofs.values.enumerants_are_good.Goals as goal

pub returns : goal.returns
returns c =
    let good : Annotation → Bool = λ a. is_good_value (λ t. true) (Some a.value) in
    let enumerants = c.args.enumerants.now in
    all_from_yields_List (λ e. list_all good (enumerant_of e).annotations) _ _ _ c.all.ensures.ran (YieldsList-from_slice enumerants cc) (λ x b q k. search rules)
    ∙ sym (list_all-map (λ (e : Enumerant). list_all good e.annotations) enumerant_of enumerants)
    ∙ sym (list_all-map (λ (as' : List Annotation). list_all good as') (λ (e : Enumerant). e.annotations) (map enumerant_of enumerants))
    ∙ sym (list_all-flat_map good (λ (as' : List Annotation). as') (map (λ (e : Enumerant). e.annotations) (map enumerant_of enumerants)))
