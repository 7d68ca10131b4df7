use Rattle.std.proofs.Common.{◌^◌, nat_lt, map, length, sym, ◌∙◌, rules}
use Rattle.std.proofs.lemmas.Iterator.{YieldsList-from_slice}
use Rattle.std.proofs.lemmas.Iterator.Search.{all_from_yields_List}
use Rattle.std.proofs.lemmas.List.Folds.{list_all-map}
use Rattle.capnp_model.specs.Schemas.{Field}
use Rattle.capnp_records.specs.NodeViews.{field_of}
use Rattle.capnp_records.proofs.names.have_few.Goals as goal

pub returns : goal.returns
returns c =
    all_from_yields_List (λ f. nat_lt (length (field_of f).annotations) (2 ^ 29)) _ _ _ c.all.ensures.ran (YieldsList-from_slice c.args.fields.now cc) (λ x b q k. search rules)
    ∙ sym (list_all-map (λ (f : Field). nat_lt (length f.annotations) (2 ^ 29)) (field_of) (c.args.fields.now))
    ∙ sym (list_all-map (λ l. nat_lt (length l) (2 ^ 29)) (λ f. f.annotations) (map field_of c.args.fields.now))
