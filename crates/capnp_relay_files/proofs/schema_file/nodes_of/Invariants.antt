-- what was read stands in front of what the rest reads as
use Rattle.std.proofs.Common.{◌≡◌, ◌++◌, map, length, option_map}
use Rattle.serde_json.specs.View.{items_view}
use Rattle.capnp_records.specs.NodeViews.{node_of}
use Rattle.capnp_relay_files.specs.Json.{each_item}
use Rattle.capnp_relay_files.specs.SchemaFiles.{node_in}
use Rattle.capnp_relay_files.proofs.schema_file.nodes_of.Given as goal

abbrev pub invariant-loop-rest : goal.invariant-loop-rest
invariant-loop-rest l = each_item node_in (items_view l.fn.items) ≡ option_map (λ xs. map node_of l.nodes.items ++ xs) (each_item node_in (items_view l.rest))

abbrev pub decreases-loop-rest : goal.decreases-loop-rest
decreases-loop-rest l = length l.rest
