use Rattle.std.proofs.Common.{◌≡◌, ◌+◌, ◌*◌, map, length}
use Rattle.capnp_model.specs.Accepted.{shape_in}
use Rattle.capnp_records.specs.NodeViews.{field_of, node_of}
use Rattle.capnp_records.specs.Claims.{groups_have_no_overlap}
use Rattle.capnp_records.proofs.overlap.+overlap.Given as goal

abbrev pub decreases-has_no_overlap : goal.decreases-has_no_overlap
decreases-has_no_overlap l = 3 * l.levels

abbrev pub decreases-body_has_no_overlap : goal.decreases-body_has_no_overlap
decreases-body_has_no_overlap l = 3 * l.levels + 1

abbrev pub decreases-have_no_overlap : goal.decreases-have_no_overlap
decreases-have_no_overlap l = 3 * l.levels + 2

-- the rest decides
abbrev pub invariant-have_no_overlap-loop-rest : goal.invariant-have_no_overlap-loop-rest
invariant-have_no_overlap-loop-rest l = groups_have_no_overlap (λ id. shape_in (map node_of l.fn.nodes.records.now) l.fn.levels id) (map field_of l.rest) ≡ groups_have_no_overlap (λ id. shape_in (map node_of l.fn.nodes.records.now) l.fn.levels id) (map field_of l.fn.fields)

abbrev pub decreases-have_no_overlap-loop-rest : goal.decreases-have_no_overlap-loop-rest
decreases-have_no_overlap-loop-rest l = length l.rest
