use Rattle.std.proofs.Common.{◌∷◌, false, map, take, drop}
use Rattle.capnp_model.specs.Accepted.{union_place, union_area, shape_in}
use Rattle.capnp_records.specs.NodeViews.{field_of, struct_of, node_of}
use Rattle.capnp_records.specs.Claims.{claim_in, claims_in}
use Rattle.capnp_records.proofs.Claimed.{IsWalked}
use Rattle.capnp_records.proofs.overlap.are_claims_apart.Given as goal

abbrev pub invariant-loop-field : goal.invariant-loop-field
invariant-loop-field l = IsWalked l.marks
    ((false, union_area (union_place (struct_of l.fn.holder))) ∷ map (λ f. claim_in (λ id. shape_in (map node_of l.fn.nodes.records.now) l.fn.levels id) (field_of f)) (take l.field-index l.fn.holder.fields.items))
    (map (λ f. claim_in (λ id. shape_in (map node_of l.fn.nodes.records.now) l.fn.levels id) (field_of f)) (drop l.field-index l.fn.holder.fields.items))
    (claims_in (λ id. shape_in (map node_of l.fn.nodes.records.now) l.fn.levels id) (struct_of l.fn.holder))
