use Rattle.std.proofs.Common.{◌≡◌, ◌<◌, ◌^◌, ℕ, List, map, length, Option, Some, sym, ◌∙◌, ap, subst, arith}
use Rattle.std.specs.Str.{bytes_eq}
use Rattle.capnp_model.specs.Accepted.{are_distinct}
use Rattle.capnp_records.specs.NodeViews.{struct_of, field_of}
use Rattle.capnp_records.specs.Tables.{AreByName}
use Rattle.capnp_records.specs.declared.node.FieldRecord.{FieldRecord}
use Rattle.capnp_records.specs.declared.node.StructRecord.{StructRecord}
use Rattle.capnp_records.proofs.lemmas.FieldPlaces.{length_mapped}
use Rattle.capnp_values_queries.specs.Fields.{field_count}
use Rattle.capnp_values_queries.specs.Names.{place_named}
use Rattle.capnp_values_queries.specs.Structs.{nodes_around, id_of, fields_of_struct, index_named, IsRecordOf}
use Rattle.capnp_values_queries.specs.declared.structs.StructSchema.{StructSchema}
use Rattle.capnp_values_queries.proofs.lemmas.Records.{count_is}
use Rattle.capnp_values_queries.proofs.lemmas.Places.{name_found, index_inside}
use Rattle.capnp_values_queries.proofs.lemmas.Names.{names_differ}
use Rattle.capnp_values_queries.proofs.structs.StructSchema.find_field_by_name_counted.Goals as goal

-- the place among the records is the index among the shape's fields
index_is : (s : StructSchema) (r : StructRecord) (fs : List FieldRecord) (name : List ℕ) (found : Option ℕ) → IsRecordOf (nodes_around s) (id_of s) (struct_of r) → fs ≡ r.fields.items → found ≡ place_named name 0 (map field_of fs) → index_named s name ≡ found
index_is s r fs name found known same at = sym (name_found (nodes_around s) (id_of s) (struct_of r) known name) ∙ ap (λ xs. place_named name 0 (map field_of xs)) (sym same) ∙ sym at

as_many : (s : StructSchema) (r : StructRecord) (fs : List FieldRecord) (digits : ℕ) → IsRecordOf (nodes_around s) (id_of s) (struct_of r) → fs ≡ r.fields.items → field_count (fields_of_struct s) < 2 ^ digits → length fs < 2 ^ digits
as_many s r fs digits known same fits =
    let count = count_is (nodes_around s) (id_of s) (struct_of r) known in
    let long = length_mapped field_of r.fields.items in
    let size : length fs ≡ length r.fields.items = ap length same in
    omega (arith, fits, count, long, size)

has_some : (s : StructSchema) (r : StructRecord) (fs : List FieldRecord) → IsRecordOf (nodes_around s) (id_of s) (struct_of r) → fs ≡ r.fields.items → 0 < field_count (fields_of_struct s) → 0 < length fs
has_some s r fs known same some =
    let count = count_is (nodes_around s) (id_of s) (struct_of r) known in
    let long = length_mapped field_of r.fields.items in
    let size : length fs ≡ length r.fields.items = ap length same in
    omega (arith, some, count, long, size)

pub place_of-place-requires-clause-by_name : goal.place_of-place-requires-clause-by_name
place_of-place-requires-clause-by_name c =
    let table = (c.field_tables.ensures (struct_of c.record.result.now) c.record.ensures.found).by_name in
    subst (λ (fs : List FieldRecord). AreByName (map field_of fs) c.as_slice-by_name.result.now) (sym c.deref.ensures.value)
    (subst (AreByName (map field_of c.record.result.now.fields.items)) (sym c.as_slice-by_name.ensures.value) table)

pub place_of-place-requires-clause-distinct : goal.place_of-place-requires-clause-distinct
place_of-place-requires-clause-distinct c =
    ap (λ (fs : List FieldRecord). are_distinct (map (λ f. f.name) (map field_of fs))) c.deref.ensures.value
    ∙ names_differ (nodes_around c.args.self.now) c.args.self.now.set.now.accepted (id_of c.args.self.now) (struct_of c.record.result.now) c.record.ensures.found

pub new-requires : goal.new-requires
new-requires c =
    let at = index_is c.args.self.now c.record.result.now c.deref.result.now c.args.name.now c.place_of-place.result.0 c.record.ensures c.deref.ensures.value c.place_of-place.ensures.place in
    index_inside (λ n m. bytes_eq n c.args.name.now) (fields_of_struct c.args.self.now) c.in-Some.index (at ∙ c.in-Some.is)

pub returns-in-None-clause-found : goal.returns-in-None-clause-found
returns-in-None-clause-found c =
    let at = index_is c.args.self.now c.record.result.now c.deref.result.now c.args.name.now c.place_of-place.result.0 c.record.ensures c.deref.ensures.value c.place_of-place.ensures.place in
    record { index = sym (at ∙ c.in-None.is); parent = tt }

pub returns-in-None-clause-few : goal.returns-in-None-clause-few
returns-in-None-clause-few c digits fits = c.place_of-place.ensures.few digits (as_many c.args.self.now c.record.result.now c.deref.result.now digits c.record.ensures c.deref.ensures.value fits)

pub returns-in-None-clause-some : goal.returns-in-None-clause-some
returns-in-None-clause-some c some = c.place_of-place.ensures.some (has_some c.args.self.now c.record.result.now c.deref.result.now c.record.ensures c.deref.ensures.value some)

pub returns-in-Some-clause-found : goal.returns-in-Some-clause-found
returns-in-Some-clause-found c =
    let at = index_is c.args.self.now c.record.result.now c.deref.result.now c.args.name.now c.place_of-place.result.0 c.record.ensures c.deref.ensures.value c.place_of-place.ensures.place in
    record { index = ap (λ (i : ℕ). Some i) c.new.ensures.index ∙ sym (at ∙ c.in-Some.is); parent = c.new.ensures.parent }

pub returns-in-Some-clause-few : goal.returns-in-Some-clause-few
returns-in-Some-clause-few c digits fits = c.place_of-place.ensures.few digits (as_many c.args.self.now c.record.result.now c.deref.result.now digits c.record.ensures c.deref.ensures.value fits)

pub returns-in-Some-clause-some : goal.returns-in-Some-clause-some
returns-in-Some-clause-some c some = c.place_of-place.ensures.some (has_some c.args.self.now c.record.result.now c.deref.result.now c.record.ensures c.deref.ensures.value some)
