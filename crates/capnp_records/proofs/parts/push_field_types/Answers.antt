use Rattle.std.proofs.Common.{◌≡◌, ◌++◌, List, map, ◌∙◌, ap}
use Rattle.capnp_model.specs.Schemas.{Annotation, TypeRecord as ModelType}
use Rattle.capnp_records.specs.NodeViews.{type_record_of, annotation_of, field_of}
use Rattle.capnp_records.specs.declared.node.AnnotationRecord.{AnnotationRecord}
use Rattle.capnp_records.proofs.OneMore.{lists_one_more}
use Rattle.capnp_records.proofs.parts.push_field_types.Goals as goal

pub loop-field-preserved : goal.loop-field-preserved
loop-field-preserved c =
    let now : List ModelType = map type_record_of c.loop-field.types.items in
    let put : map type_record_of c.push_types.new.types.items ≡ now ++ map (λ (a : Annotation). a.type) (map annotation_of c.field-item.result.annotations.items) =
    c.in_ok-push_types.ensures ∙ ap (λ (as' : List AnnotationRecord). now ++ map (λ (a : Annotation). a.type) (map annotation_of as')) c.deref.ensures.value in
    lists_one_more (λ a. a.type) (λ f. f.annotations) field_of (map type_record_of c.args.types.now.items) now (map type_record_of c.push_types.new.types.items) c.args.fields.now c.loop-field.field-index c.field-item.result
    c.loop-field-test.true c.field-item.is c.loop-field.invariant put
