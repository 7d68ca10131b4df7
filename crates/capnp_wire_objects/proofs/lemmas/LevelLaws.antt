-- One level and those below it.
use Rattle.std.proofs.Common.{◌≡◌, ℕ, ◌+◌, ◌∷◌, Ok, ap, ◌∙◌, arith}
use Rattle.capnp_wire_objects.specs.Laws.{TreesByLevels, CostsByLevels, VisitsByLevels, VisitsOfFaults}
use Rattle.capnp_wire_objects.specs.Follow.{own_cost}
use Rattle.capnp_wire_objects.specs.Inside.{cost_in, met_in}
use Rattle.capnp_model.specs.Traversal.{cost_at}
use Rattle.capnp_model.specs.Visits.{visits}
use Rattle.capnp_wire_objects.proofs.lemmas.Walking.{object_found, object_unfound, link_tree, link_cost, link_visits}

pub trees : TreesByLevels
trees n s p f e = let g = object_found s p f e in link_tree s p g.0 g.1 f.object g.2 n

pub costs : CostsByLevels
costs n s p f e =
    let g = object_found s p f e in
    let pads = g.3 in
    let own : ℕ = own_cost f.object in
    let rest : ℕ = cost_in (cost_at n s) f.object in
    let sum : g.0.pads + (own + rest) ≡ (f.pads + own) + rest = omega arith in
    link_cost s p g.0 g.1 f.object g.2 n ∙ sum

pub visited : VisitsByLevels
visited n s p f e =
    let g = object_found s p f e in
    let pads = g.3 in
    link_visits s p g.0 g.1 f.object g.2 n ∙ ap (λ (k : ℕ). Ok (k + own_cost f.object) ∷ met_in (visits n s) f.object) pads

pub refused : VisitsOfFaults
refused n s p k e = object_unfound s p n k e
