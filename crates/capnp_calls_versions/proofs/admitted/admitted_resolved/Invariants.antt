use Rattle.std.proofs.Common.{◌≡◌, true, map, take}
use Rattle.std.specs.List.{list_all}
use Rattle.capnp_model.specs.Admitted.{is_admitted_with}
use Rattle.capnp_calls.specs.Resolved.{call_of}
use Rattle.capnp_calls_versions.specs.Renamed.{names_in}
use Rattle.capnp_calls_versions.specs.Holders.{held_schema}
use Rattle.capnp_calls_versions.proofs.admitted.admitted_resolved.Given as goal

-- the calls so far are admitted
abbrev pub invariant-loop-i : goal.invariant-loop-i
invariant-loop-i l = list_all (is_admitted_with (names_in l.versions.names) (held_schema l.versions.older) (held_schema l.versions.newer) l.older_id l.newer_id) (map call_of (take l.i l.fn.calls)) ≡ true
