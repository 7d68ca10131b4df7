use Rattle.std.proofs.Common.{sym, ◌∙◌, rules}
use Rattle.std.proofs.lemmas.Iterator.{YieldsList-from_slice}
use Rattle.std.proofs.lemmas.Iterator.Search.{all_from_yields_List}
use Rattle.std.proofs.lemmas.List.Folds.{list_all-map}
use Rattle.capnp_model.specs.Schemas.{Field}
use Rattle.capnp_model.specs.Accepted.{has_its_place}
use Rattle.capnp_records.specs.NodeViews.{struct_of, field_of}
use Rattle.capnp_records.proofs.places.have_places.Goals as goal

pub returns : goal.returns
returns c =
    all_from_yields_List (λ f. has_its_place (struct_of c.args.holder.now) (field_of f).kind) _ _ _ c.all.ensures.ran (YieldsList-from_slice c.args.holder.now.fields.items cc) (λ x b q k. search rules)
    ∙ sym (list_all-map (λ (f : Field). has_its_place (struct_of c.args.holder.now) f.kind) (field_of) (c.args.holder.now.fields.items))
