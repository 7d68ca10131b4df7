use Rattle.std.proofs.Common.{◌≡◌, ◌++◌, List, map, ◌∙◌, ap}
use Rattle.capnp_model.specs.Schemas.{Annotation, TypeRecord as ModelType}
use Rattle.capnp_records.specs.NodeViews.{type_record_of, annotation_of, enumerant_of}
use Rattle.capnp_records.specs.declared.node.AnnotationRecord.{AnnotationRecord}
use Rattle.capnp_records.proofs.OneMore.{lists_one_more}
use Rattle.capnp_records.proofs.parts.push_enumerant_types.Goals as goal

pub loop-enumerant-preserved : goal.loop-enumerant-preserved
loop-enumerant-preserved c =
    let now : List ModelType = map type_record_of c.loop-enumerant.types.items in
    let put : map type_record_of c.push_types.new.types.items ≡ now ++ map (λ (a : Annotation). a.type) (map annotation_of c.enumerant-item.result.annotations.items) =
    c.in_ok-push_types.ensures ∙ ap (λ (as' : List AnnotationRecord). now ++ map (λ (a : Annotation). a.type) (map annotation_of as')) c.deref.ensures.value in
    lists_one_more (λ a. a.type) (λ e. e.annotations) enumerant_of (map type_record_of c.args.types.now.items) now (map type_record_of c.push_types.new.types.items) c.args.enumerants.now c.loop-enumerant.enumerant-index c.enumerant-item.result
    c.loop-enumerant-test.true c.enumerant-item.is c.loop-enumerant.invariant put
