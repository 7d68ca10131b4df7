use Rattle.std.proofs.Common.{sym, ◌∙◌, rules}
use Rattle.std.proofs.lemmas.Iterator.{YieldsList-from_slice}
use Rattle.std.proofs.lemmas.Iterator.Search.{all_from_yields_List}
use Rattle.std.proofs.lemmas.List.Folds.{list_all-map}
use Rattle.capnp_model.specs.Schemas.{Field}
use Rattle.capnp_model.specs.Accepted.{default_reads}
use Rattle.capnp_records.specs.NodeViews.{field_of}
use Rattle.capnp_records.proofs.values.defaults_read.Goals as goal

pub returns : goal.returns
returns c =
    all_from_yields_List (λ f. default_reads (field_of f).kind) _ _ _ c.all.ensures.ran (YieldsList-from_slice c.args.fields.now cc) (λ x b q k. search rules)
    ∙ sym (list_all-map (λ (f : Field). default_reads f.kind) (field_of) (c.args.fields.now))
