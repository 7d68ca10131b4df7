use Rattle.std.proofs.Common.{ℕ, List, ◌++◌, map, take, append_assoc, sym, ◌∙◌, ap}
use Rattle.capnp_model.specs.Schemas.{Shape}
use Rattle.capnp_model.specs.Accepted.{Area, field_body, shape_in, areas_of_body}
use Rattle.capnp_records.specs.Listed.{listed}
use Rattle.capnp_records.specs.NodeViews.{kind_of_field, field_of}
use Rattle.capnp_records.specs.Storage.{areas_seen}
use Rattle.capnp_records.specs.Claims.{claim_in, areas_claimed}
use Rattle.capnp_records.proofs.Overlaps.{areas_one_more}
use Rattle.capnp_records.proofs.overlap.+areas.Goals as goal

pub push_areas_of_fields-loop-field-preserved : goal.push_areas_of_fields-loop-field-preserved
push_areas_of_fields-loop-field-preserved t c =
    let groups : ℕ → Shape = λ id. shape_in (listed c.args.nodes) c.args.levels id in
    let fs = c.args.fields.now in
    let i = c.loop-field.field-index in
    let old : List Area = areas_seen c.args.areas.now.items in
    let before : List Area = areas_claimed (map (claim_in groups) (map field_of (take i fs))) in
    let body : List Area = areas_of_body (field_body groups (kind_of_field c.field-item.result.body)) in
    c.in_ok-push_areas_of_body.ensures
    ∙ ap (λ as'. as' ++ body) c.loop-field.invariant
    ∙ append_assoc old before body
    ∙ ap (λ as'. old ++ as') (sym (areas_one_more groups fs i c.field-item.result c.loop-field-test.true c.field-item.is))
