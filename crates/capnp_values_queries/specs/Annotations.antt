-- What contracts see of annotations.
use Rattle.std.specs.Prelude.{ℕ, ◌≡◌, List, map, Option, Some, slice_get}
use Rattle.capnp_model.specs.Schemas.{Annotation as AnnotationNode, Node}
use Rattle.capnp_records.specs.NodeViews.{annotation_of}
use Rattle.capnp_records.specs.Sets.{nodes_of}
use Rattle.capnp_records.specs.declared.node.AnnotationRecord.{AnnotationRecord}
use Rattle.capnp_values_queries.specs.declared.annotations.Annotation.{Annotation}
use Rattle.capnp_values_queries.specs.declared.annotations.AnnotationList.{AnnotationList}

-- The record of an annotation.
abbrev pub annotation_seen : Annotation → AnnotationRecord
annotation_seen a = a.proto.now

-- What a clause reads of an annotation: the nodes of its set, and its record, if it is there.
abbrev pub SeenAnnotation : Type 0
SeenAnnotation = List Node × Option AnnotationRecord

abbrev pub seen_annotation : Annotation → SeenAnnotation
seen_annotation a = (nodes_of a.set.now, Some a.proto.now)

-- The annotation at an index.
abbrev pub annotated_at : AnnotationList → ℕ → SeenAnnotation
annotated_at list i = (nodes_of list.set.now, slice_get list.annotations.now i)

-- A list of the annotations that a node says, with the nodes of its set.
abbrev pub AreAnnotations : List Node → List AnnotationNode → AnnotationList → Type 0
AreAnnotations nodes said list = (nodes_of list.set.now ≡ nodes) × (map annotation_of list.annotations.now ≡ said)

-- A list of those of a field or an enumerant, which is there.
abbrev pub AreAnnotationsOf : List Node → Option (List AnnotationNode) → AnnotationList → Type 0
AreAnnotationsOf nodes said list = (nodes_of list.set.now ≡ nodes) × (Some (map annotation_of list.annotations.now) ≡ said)
