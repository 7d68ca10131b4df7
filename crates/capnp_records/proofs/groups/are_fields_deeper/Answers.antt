use Rattle.std.proofs.Common.{ℕ, nat_eq, nat_lt, map, sym, ◌∙◌, rules}
use Rattle.std.specs.HashMap.{get}
use Rattle.std.specs.List.{list_all}
use Rattle.std.proofs.lemmas.Iterator.{YieldsList-from_slice}
use Rattle.std.proofs.lemmas.Iterator.Search.{all_from_yields_List}
use Rattle.std.proofs.lemmas.List.Folds.{list_all-map}
use Rattle.capnp_model.specs.Schemas.{Field}
use Rattle.capnp_model.specs.Accepted.{groups_of_field}
use Rattle.capnp_records.specs.NodeViews.{field_of}
use Rattle.capnp_records.specs.Uses.{depths_in}
use Rattle.capnp_records.proofs.lemmas.ListTests.{list_all-flat_map}
use Rattle.capnp_records.proofs.groups.are_fields_deeper.Goals as goal

pub returns : goal.returns
returns c =
    all_from_yields_List (λ f. list_all (λ g. nat_lt c.args.least (depths_in (get nat_eq c.args.depths.now) g)) (groups_of_field (field_of f).kind)) _ _ _ c.all.ensures.ran (YieldsList-from_slice c.args.fields.now cc) (λ x b q k. search rules)
    ∙ sym (list_all-map (λ (f : Field). list_all (λ (g : ℕ). nat_lt c.args.least (depths_in (get nat_eq c.args.depths.now) g)) (groups_of_field f.kind)) field_of c.args.fields.now)
    ∙ sym (list_all-flat_map (λ (g : ℕ). nat_lt c.args.least (depths_in (get nat_eq c.args.depths.now) g)) (λ (f : Field). groups_of_field f.kind) (map field_of c.args.fields.now))
