use Rattle.std.proofs.Common.{◌≡◌, ◌≤◌, ◌<◌, ℕ, List, true, nat_lt, length, slice_index, Some, sym, ◌∙◌, ap, subst}
use Rattle.std.specs.List.{list_all}
use Rattle.capnp_values_queries.specs.Fields.{field_count, place_of_member}
use Rattle.capnp_values_queries.specs.Structs.{fields_of_struct}
use Rattle.capnp_values_queries.proofs.structs.StructSchema.get_union_fields.Goals as goal

pub new-requires-clause-inside : goal.new-requires-clause-inside
new-requires-clause-inside c = ap (list_all (λ i. nat_lt i (field_count (fields_of_struct c.args.self)))) c.as_slice-members.ensures.value ∙ c.tables.ensures.members_inside

pub new-requires-clause-few : goal.new-requires-clause-few
new-requires-clause-few c = subst (λ (xs : List ℕ). length xs ≤ 65535) (sym c.as_slice-members.ensures.value) c.tables.ensures.few_members

pub returns : goal.returns
returns c =
    let same = c.new.ensures.indices ∙ c.as_slice-members.ensures.value in
    record {
      parent = c.new.ensures.parent;
      count = ap length same ∙ c.tables.ensures.count;
      places = λ d lt. c.tables.ensures.members d (subst (λ (xs : List ℕ). d < length xs) same lt) ∙ ap (λ (xs : List ℕ). Some (slice_index xs d)) (sym same);
    }
