-- the names that are made, with those of the nodes that are left behind them, are the whole
use Rattle.std.proofs.Common.{◌≡◌, map, length, string_bytes}
use Rattle.capnp_records.specs.NodeViews.{node_of}
use Rattle.hagzimot_schemas.specs.Roots.{names_view, names_onto, names_of}
use Rattle.hagzimot_schemas.proofs.names.names_of.Given as goal

abbrev pub invariant-loop-left : goal.invariant-loop-left
invariant-loop-left l = names_onto (map names_view l.names.items) (map node_of l.left) (map string_bytes l.files_left) ≡ names_of (map node_of l.fn.nodes) (map string_bytes l.fn.files)

abbrev pub decreases-loop-left : goal.decreases-loop-left
decreases-loop-left l = length l.left
