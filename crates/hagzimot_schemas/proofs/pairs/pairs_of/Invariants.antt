-- the nodes so far
use Rattle.std.proofs.Common.{◌≡◌, map, take}
use Rattle.std.specs.List.{filter_map}
use Rattle.hagzimot_schemas.specs.Twins.{paired, lacked}
use Rattle.hagzimot_schemas.proofs.pairs.pairs_of.Given as goal

abbrev pub invariant-loop-node : goal.invariant-loop-node
invariant-loop-node l = record {
  pairs : l.pairs.items ≡ filter_map (paired l.structs.nodes.now) (take l.node-index l.older);
  left_out : map (λ s. s.now) l.left_out.items ≡ filter_map (lacked l.structs.nodes.now) (take l.node-index l.older);
}
