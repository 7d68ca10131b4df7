-- The tables of a struct of an accepted set.
use Rattle.std.proofs.Common.{◌≡◌, ℕ, ◌+◌, ◌<◌, ◌≤◌, ◌==◌, ◌&&◌, nat_lt, Bool, true, false, Option, Some, None, List, length, get_or, slice_get, slice_index, refl, sym, ◌∙◌, ap, subst, arith}
use Rattle.std.specs.List.{list_all}
use Rattle.capnp_model.specs.Schemas.{Field, StructNode, NodeKind, struct_node, enum_node, Node, Fields}
use Rattle.capnp_model.specs.Printing.{fields_in}
use Rattle.capnp_model.specs.Accepted.{find_node, fields_from, schema_of, IsAccepted}
use Rattle.capnp_records.specs.Sets.{has_struct, is_at, struct_of_kind, struct_found}
use Rattle.capnp_records.specs.Tables.{place_from, members_from, others_from, AreTablesOf}
use Rattle.capnp_records.specs.declared.tables.FieldTables.{FieldTables}
use Rattle.capnp_records.proofs.lemmas.PlainStructs.{place_is_found}
use Rattle.capnp_model.proofs.lemmas.Tests.{same_number, and_left, and_right}
use Rattle.capnp_values_queries.specs.Fields.{field_count, place_of_member, union_member_count, others_at}
use Rattle.capnp_values_queries.specs.Structs.{IsRecordOf, IsTabled}
use Rattle.capnp_values_queries.proofs.lemmas.Records.{record_known, count_is, count_from}
use Rattle.capnp_values_queries.proofs.lemmas.Places.{placed, not_placed, union_kept, UnionKept, member_there, no_member_there, members_counted, members_short, table_length, table_at, table_inside, others_same, others_inside, others_short}

-- what stands at the place of a raw schema is a struct or a group
pub struct_there : (nodes : List Node) → IsAccepted nodes → (k id : ℕ) → is_at has_struct nodes k id ≡ true → (s : StructNode) × (struct_found nodes id ≡ Some s)
struct_there nodes accepted k id h = by (slice_get nodes k) refl h
  where
    by_kind : (n : Node) → find_node nodes id ≡ Some n → (x : NodeKind) → n.kind ≡ x → (elim x as (λ (y : NodeKind). Bool) [ struct_node s ↦ true | enum_node es ↦ false ]) ≡ true → (s : StructNode) × (struct_found nodes id ≡ Some s)
    by_kind n e (struct_node s) q t = (s, ap (λ (o : Option Node). elim o as (λ (p : Option Node). Option StructNode) [ None ↦ None | Some m ↦ struct_of_kind m.kind ]) e ∙ ap struct_of_kind q)
    by_kind n e (enum_node es) q t = absurd (cc t)

    by : (o : Option Node) → slice_get nodes k ≡ o → (elim o as (λ (p : Option Node). Bool) [ None ↦ false | Some n ↦ n.id == id && has_struct n ]) ≡ true → (s : StructNode) × (struct_found nodes id ≡ Some s)
    by None e t = absurd (cc t)
    by (Some n) e t =
        let is : n.id ≡ id = same_number n.id id (and_left (n.id == id) (has_struct n) t) in
        by_kind n (ap (find_node nodes) (sym is) ∙ place_is_found nodes accepted k n e) n.kind refl (and_right (n.id == id) (has_struct n) t)

here : (fs : List Field) (d k : ℕ) → place_from d 0 fs ≡ 0 + k → place_from (0 + d) 0 fs ≡ k
here fs d k e = let same : 0 + d ≡ d = omega arith in let next : 0 + k ≡ k = omega arith in ap (λ j. place_from j 0 fs) same ∙ e ∙ next

pub tabled : (nodes : List Node) → IsAccepted nodes → (k id : ℕ) → is_at has_struct nodes k id ≡ true → (t : FieldTables) → ((s : StructNode) → struct_found nodes id ≡ Some s → AreTablesOf s t) → IsTabled (fields_in ((schema_of nodes).shape_of id)) t
tabled nodes accepted k id at t tables =
    let there = struct_there nodes accepted k id at in
    let s = there.0 in
    let r = record_known nodes accepted id s there.1 in
    let u = union_kept nodes accepted id s there.1 in
    let a = tables s there.1 in
    let groups = (schema_of nodes).shape_of in
    let fields : fields_in ((schema_of nodes).shape_of id) ≡ fields_from groups s.fields = ap fields_in r.shape in
    let count : length t.members.items ≡ s.discriminant_count = ap length a.members ∙ table_length s.fields 0 s.discriminant_count in
    let whole : length s.fields ≡ field_count (fields_in ((schema_of nodes).shape_of id)) = sym (count_is nodes id s r) in
    let few = r.few in
    let short = members_short s.fields in
    let others_few = others_short 0 s.fields in
    let same_count = u.count in
    let others_length : length t.others.items ≡ length (others_from 0 s.fields) = ap length a.others in
    record {
      count = count ∙ sym u.count ∙ sym (members_counted groups s.fields) ∙ ap union_member_count (sym fields);
      members = λ d lt. member d s (subst (λ (n : ℕ). d < n) count lt) r u a;
      no_more = λ d le. ap (place_of_member d) fields ∙ not_placed groups s.fields d (no_member_there s u d (subst (λ (n : ℕ). n ≤ d) count le));
      members_inside = ap (λ xs. list_all (λ i. nat_lt i (field_count (fields_in ((schema_of nodes).shape_of id)))) xs) a.members
          ∙ ap (λ n. list_all (λ i. nat_lt i n) (members_from s.fields 0 s.discriminant_count)) (sym whole) ∙ table_inside s u 0 s.discriminant_count (omega arith);
      few_members = omega (arith, count, same_count, short, few);
      others = a.others ∙ others_same groups 0 s.fields ∙ ap (others_at 0) (sym fields);
      others_inside = ap (λ xs. list_all (λ i. nat_lt i (field_count (fields_in ((schema_of nodes).shape_of id)))) xs) a.others
          ∙ ap (λ n. list_all (λ i. nat_lt i n) (others_from 0 s.fields)) (sym whole) ∙ others_inside 0 (length s.fields) s.fields (omega arith);
      few_others = omega (arith, others_length, others_few, few);
    }
  where
    member : (d : ℕ) (s : StructNode) → d < s.discriminant_count → IsRecordOf nodes id s → UnionKept s → AreTablesOf s t → place_of_member d (fields_in ((schema_of nodes).shape_of id)) ≡ Some (slice_index t.members.items d)
    member d s lt r u a =
        let p = placed (schema_of nodes).shape_of s.fields 0 d (member_there s u d lt) in
        let place = p.place in
        let at : get_or (members_from s.fields 0 s.discriminant_count) d 0 ≡ p.steps = table_at s.fields 0 s.discriminant_count d 0 lt ∙ here s.fields d p.steps place in
        ap (place_of_member d) (ap fields_in r.shape) ∙ p.index ∙ ap (λ i. Some i) (sym at) ∙ ap (λ xs. Some (get_or xs d 0)) (sym a.members)
