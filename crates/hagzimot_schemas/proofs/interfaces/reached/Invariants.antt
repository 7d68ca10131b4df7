-- so many pairs have been looked at
use Rattle.std.proofs.Common.{◌≡◌}
use Rattle.capnp_calls_versions.specs.Renamed.{renamings_of}
use Rattle.hagzimot_schemas.specs.Interfaces.{reached, leads_of, IsKnown}
use Rattle.hagzimot_schemas.proofs.interfaces.reached.Given as goal

abbrev pub invariant-loop-i : goal.invariant-loop-i
invariant-loop-i l = record {
  pairs : l.known.pairs.items ≡ reached (leads_of (renamings_of l.renamings) l.older.nodes.now l.newer.nodes.now) l.fn.roots l.i;
  known : IsKnown l.known;
}
