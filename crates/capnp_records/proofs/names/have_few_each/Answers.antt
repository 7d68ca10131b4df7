use Rattle.std.proofs.Common.{◌^◌, nat_lt, map, length, sym, ◌∙◌, rules}
use Rattle.std.proofs.lemmas.Iterator.{YieldsList-from_slice}
use Rattle.std.proofs.lemmas.Iterator.Search.{all_from_yields_List}
use Rattle.std.proofs.lemmas.List.Folds.{list_all-map}
use Rattle.capnp_model.specs.Schemas.{Enumerant}
use Rattle.capnp_records.specs.NodeViews.{enumerant_of}
use Rattle.capnp_records.proofs.names.have_few_each.Goals as goal

pub returns : goal.returns
returns c =
    all_from_yields_List (λ e. nat_lt (length (enumerant_of e).annotations) (2 ^ 29)) _ _ _ c.all.ensures.ran (YieldsList-from_slice c.args.enumerants.now cc) (λ x b q k. search rules)
    ∙ sym (list_all-map (λ (e : Enumerant). nat_lt (length e.annotations) (2 ^ 29)) (enumerant_of) (c.args.enumerants.now))
    ∙ sym (list_all-map (λ l. nat_lt (length l) (2 ^ 29)) (λ e. e.annotations) (map enumerant_of c.args.enumerants.now))
