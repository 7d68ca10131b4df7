use Rattle.std.proofs.Common.{◌≡◌, ◌≤◌, ◌<◌, ℕ, List, true, nat_lt, length, Some, sym, ◌∙◌, ap, subst}
use Rattle.std.specs.List.{list_all}
use Rattle.capnp_values_queries.specs.Fields.{field_count}
use Rattle.capnp_values_queries.specs.Structs.{fields_of_struct}
use Rattle.capnp_values_queries.proofs.structs.StructSchema.get_non_union_fields.Goals as goal

pub new-requires-clause-inside : goal.new-requires-clause-inside
new-requires-clause-inside c = ap (list_all (λ i. nat_lt i (field_count (fields_of_struct c.args.self)))) c.as_slice-others.ensures.value ∙ c.tables.ensures.others_inside

pub new-requires-clause-few : goal.new-requires-clause-few
new-requires-clause-few c = subst (λ (xs : List ℕ). length xs ≤ 65535) (sym c.as_slice-others.ensures.value) c.tables.ensures.few_others

pub returns : goal.returns
returns c = record {
  parent = c.new.ensures.parent;
  indices = c.new.ensures.indices ∙ c.as_slice-others.ensures.value ∙ c.tables.ensures.others;
}
