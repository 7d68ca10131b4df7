-- the rest of the path decides, and what is known is of it
use Rattle.std.proofs.Common.{◌≡◌, map, length}
use Rattle.capnp_model.specs.Admitted.{is_admitted_with}
use Rattle.capnp_calls.specs.CallViews.{step_view, call_view}
use Rattle.capnp_calls.specs.Ways.{IsWay}
use Rattle.capnp_calls_versions.specs.Renamed.{names_in}
use Rattle.capnp_calls_versions.specs.Holders.{held_schema}
use Rattle.capnp_calls_versions.specs.Ways.{goes_on, at_seen}
use Rattle.capnp_calls_versions.proofs.admitted.is_admitted.Given as goal

abbrev pub invariant-loop-rest : goal.invariant-loop-rest
invariant-loop-rest l =
    (goes_on l.fn.versions (map step_view l.rest) (call_view l.fn.call).verb (at_seen l.fn.versions l.at) ≡ is_admitted_with (names_in l.fn.versions.names) (held_schema l.fn.versions.older) (held_schema l.fn.versions.newer) l.fn.older l.fn.newer (call_view l.fn.call))
    × IsWay (held_schema l.fn.versions.older) (map step_view l.rest) l.known

abbrev pub decreases-loop-rest : goal.decreases-loop-rest
decreases-loop-rest l = length l.rest
