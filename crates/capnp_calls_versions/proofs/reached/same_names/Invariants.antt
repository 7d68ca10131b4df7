-- what is left decides
use Rattle.std.proofs.Common.{◌≡◌, map, length}
use Rattle.capnp_model.specs.Compatible.{same_names}
use Rattle.capnp_records.specs.NodeViews.{enumerant_of}
use Rattle.capnp_calls_versions.proofs.reached.same_names.Given as goal

abbrev pub invariant-loop-left : goal.invariant-loop-left
invariant-loop-left l = same_names (map (λ e. e.name) (map enumerant_of l.left)) (map (λ e. e.name) (map enumerant_of l.rest)) ≡ same_names (map (λ e. e.name) (map enumerant_of l.fn.older)) (map (λ e. e.name) (map enumerant_of l.fn.newer))

abbrev pub decreases-loop-left : goal.decreases-loop-left
decreases-loop-left l = length l.left
