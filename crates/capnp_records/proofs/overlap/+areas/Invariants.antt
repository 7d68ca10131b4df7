use Rattle.std.proofs.Common.{◌≡◌, ◌+◌, ◌*◌, ◌++◌, map, take}
use Rattle.capnp_model.specs.Accepted.{shape_in}
use Rattle.capnp_records.specs.NodeViews.{field_of, node_of}
use Rattle.capnp_records.specs.Storage.{areas_seen}
use Rattle.capnp_records.specs.Claims.{claim_in, areas_claimed}
use Rattle.capnp_records.proofs.overlap.+areas.Given as goal

abbrev pub decreases-push_areas_of : goal.decreases-push_areas_of
decreases-push_areas_of l = 3 * l.levels

abbrev pub decreases-push_areas_of_body : goal.decreases-push_areas_of_body
decreases-push_areas_of_body l = 3 * l.levels + 1

abbrev pub decreases-push_areas_of_fields : goal.decreases-push_areas_of_fields
decreases-push_areas_of_fields l = 3 * l.levels + 2

abbrev pub invariant-push_areas_of_fields-loop-field : goal.invariant-push_areas_of_fields-loop-field
invariant-push_areas_of_fields-loop-field l = areas_seen l.areas.items ≡ areas_seen l.fn.areas.items ++ areas_claimed (map (claim_in (λ id. shape_in (map node_of l.fn.nodes.records.now) l.fn.levels id)) (map field_of (take l.field-index l.fn.fields)))
