use Rattle.std.proofs.Common.{◌≡◌, ◌≤◌, ◌<◌, ℕ, List, length, slice_index, Some, sym, ◌∙◌, ap, subst, arith}
use Rattle.capnp_values_queries.specs.Fields.{is_value, place_of_member}
use Rattle.capnp_values_queries.specs.Structs.{fields_of_struct}
use Rattle.capnp_values_queries.proofs.lemmas.Places.{index_inside}
use Rattle.capnp_values_queries.proofs.structs.StructSchema.get_field_by_discriminant.Goals as goal

pub returns-then-discriminant-members : goal.returns-then-discriminant-members
returns-then-discriminant-members c = record {
  index = sym (c.tables.ensures.no_more c.args.discriminant (subst (λ (xs : List ℕ). length xs ≤ c.args.discriminant) c.as_slice-members.ensures.value (omega (arith, c.if-discriminant-members.true))));
  parent = tt;
}

pub new-requires : goal.new-requires
new-requires c =
    let lt = subst (λ (xs : List ℕ). c.args.discriminant < length xs) c.as_slice-members.ensures.value (omega (arith, c.if-discriminant-members.false)) in
    let at = c.tables.ensures.members c.args.discriminant lt ∙ ap (λ (xs : List ℕ). Some (slice_index xs c.args.discriminant)) (sym c.as_slice-members.ensures.value) in
    index_inside (λ n m. is_value c.args.discriminant m) (fields_of_struct c.args.self) (slice_index c.as_slice-members.result.now c.args.discriminant) at

pub returns : goal.returns
returns c =
    let lt = subst (λ (xs : List ℕ). c.args.discriminant < length xs) c.as_slice-members.ensures.value (omega (arith, c.if-discriminant-members.false)) in
    let at = c.tables.ensures.members c.args.discriminant lt ∙ ap (λ (xs : List ℕ). Some (slice_index xs c.args.discriminant)) (sym c.as_slice-members.ensures.value) in
    record { index = ap (λ (i : ℕ). Some i) c.new.ensures.index ∙ sym at; parent = c.new.ensures.parent }
