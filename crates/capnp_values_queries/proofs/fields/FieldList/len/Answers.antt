use Rattle.std.proofs.Common.{sym, ◌∙◌}
use Rattle.capnp_records.specs.NodeViews.{struct_of, field_of}
use Rattle.capnp_records.proofs.lemmas.FieldPlaces.{length_mapped}
use Rattle.capnp_values_queries.specs.Structs.{nodes_around, id_of}
use Rattle.capnp_values_queries.proofs.lemmas.Records.{count_is}
use Rattle.capnp_values_queries.proofs.fields.FieldList.len.Goals as goal

pub returns : goal.returns
returns c =
    let parent = c.args.self.now.parent in
    c.len.ensures ∙ c.record.result.now.fields.ok.0 ∙ sym (length_mapped field_of c.record.result.now.fields.items) ∙ sym (count_is (nodes_around parent) (id_of parent) (struct_of c.record.result.now) c.record.ensures)
