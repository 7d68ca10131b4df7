use Rattle.std.proofs.Common.{◌≡◌, ◌<◌, ℕ, List, map, length, sym, ◌∙◌, ap, subst}
use Rattle.capnp_records.specs.NodeViews.{node_of, annotation_of}
use Rattle.capnp_records.specs.declared.node.AnnotationRecord.{AnnotationRecord}
use Rattle.capnp_values_queries.specs.Fields.{are_named}
use Rattle.capnp_values_queries.specs.Structs.{nodes_around, id_of}
use Rattle.capnp_values_queries.proofs.lemmas.Records.{node_named, few_annotations}
use Rattle.capnp_values_queries.proofs.structs.StructSchema.get_annotations.Goals as goal

pub new-requires-clause-named : goal.new-requires-clause-named
new-requires-clause-named c =
    let known = node_named (nodes_around c.args.self) c.args.self.set.now.accepted (id_of c.args.self) (node_of c.struct_node.result.now) c.struct_node.ensures in
    ap (λ as'. are_named (nodes_around c.args.self) (map annotation_of as')) c.deref.ensures.value ∙ known.0

pub new-requires-clause-few : goal.new-requires-clause-few
new-requires-clause-few c =
    let known = node_named (nodes_around c.args.self) c.args.self.set.now.accepted (id_of c.args.self) (node_of c.struct_node.result.now) c.struct_node.ensures in
    subst (λ (xs : List AnnotationRecord). length xs < 536870912) (sym c.deref.ensures.value) (few_annotations annotation_of c.struct_node.result.now.annotations.items known.1)
