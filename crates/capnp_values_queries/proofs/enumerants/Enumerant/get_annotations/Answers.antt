use Rattle.std.proofs.Common.{◌≡◌, ◌<◌, ℕ, List, map, length, sym, ◌∙◌, ap, subst}
use Rattle.capnp_records.specs.NodeViews.{annotation_of, enumerant_of}
use Rattle.capnp_records.specs.declared.node.AnnotationRecord.{AnnotationRecord}
use Rattle.capnp_model.proofs.lemmas.Tests.{and_right}
use Rattle.capnp_values_queries.specs.Fields.{are_named, are_few}
use Rattle.capnp_values_queries.specs.Enums.{nodes_of_enum}
use Rattle.capnp_values_queries.proofs.lemmas.Records.{few_annotations}
use Rattle.capnp_values_queries.proofs.enumerants.Enumerant.get_annotations.Goals as goal

pub new-requires-clause-few : goal.new-requires-clause-few
new-requires-clause-few c =
    let nodes = nodes_of_enum c.args.self.parent in
    let e = enumerant_of c.get_proto.result.now in
    subst (λ (xs : List AnnotationRecord). length xs < 536870912) (sym c.deref.ensures.value) (few_annotations annotation_of c.get_proto.result.now.annotations.items (and_right (are_named nodes e.annotations) (are_few e.annotations) c.get_proto.ensures.named))
