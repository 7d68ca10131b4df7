use Rattle.std.proofs.Common.{◌≡◌}
use Rattle.capnp_model.specs.Accepted.{names_its_sort}
use Rattle.capnp_records.specs.NodeViews.{annotation_of}
use Rattle.capnp_records.specs.Sets.{nodes_of}
use Rattle.capnp_values_queries.proofs.lemmas.Records.{item_passes, item_there}
use Rattle.capnp_values_queries.proofs.annotations.AnnotationList.get.Goals as goal

pub invariant_of-result : goal.invariant_of-result
invariant_of-result c = record {
  named = item_passes annotation_of (λ a. names_its_sort (nodes_of c.args.self.set.now) a.type.base) c.args.self.annotations.now c.args.index c.index-self-index.result c.requires c.args.self.named;
}

pub returns-clause-annotation : goal.returns-clause-annotation
returns-clause-annotation c = item_there c.args.self.annotations.now c.args.index c.index-self-index.result c.requires
