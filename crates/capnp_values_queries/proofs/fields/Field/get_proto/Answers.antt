use Rattle.std.proofs.Common.{◌≡◌, ◌<◌, length, sym, ◌∙◌, subst, ℕ, arith}
use Rattle.capnp_records.specs.NodeViews.{struct_of, field_of}
use Rattle.capnp_records.proofs.lemmas.FieldPlaces.{length_mapped}
use Rattle.capnp_values_queries.specs.Structs.{nodes_around, id_of}
use Rattle.capnp_values_queries.proofs.lemmas.Records.{count_is}
use Rattle.capnp_values_queries.proofs.FieldRecords.{field_known}
use Rattle.capnp_values_queries.proofs.fields.Field.get_proto.Goals as goal

pub index-requires : goal.index-requires
index-requires c =
    let parent = c.args.self.now.parent in
    let count = count_is (nodes_around parent) (id_of parent) (struct_of c.record.result.now) c.record.ensures ∙ length_mapped field_of c.record.result.now.fields.items in
    subst (λ (n : ℕ). c.args.self.now.index < n) (count ∙ sym c.record.result.now.fields.ok.0) c.args.self.now.inside

pub returns : goal.returns
returns c =
    let parent = c.args.self.now.parent in
    let count = count_is (nodes_around parent) (id_of parent) (struct_of c.record.result.now) c.record.ensures ∙ length_mapped field_of c.record.result.now.fields.items in
    field_known parent c.record.result.now c.record.ensures c.args.self.now.index c.index.result.now (subst (λ (n : ℕ). c.args.self.now.index < n) count c.args.self.now.inside) c.index.ensures
