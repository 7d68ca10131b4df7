use Rattle.std.proofs.Common.{length, ◌-◌, ◌≡◌, ◌≤◌, take}
use Rattle.std.specs.Io.KnownBytes.{Consumes}
use Rattle.capnp_stream_io.proofs.traits.Read.read_exact.Given as goal

abbrev pub invariant-loop-at : goal.invariant-loop-at
invariant-loop-at g l = record {
  within : l.at ≤ length l.buf;
  same : length l.buf ≡ length l.initial.buf;
  taken : Consumes (g.Self.Read.remaining l.initial.self) (g.Self.Read.remaining l.self) (take l.at l.buf);
  count : g.Self.Read.failures l.self ≡ g.Self.Read.failures l.initial.self;
}

abbrev pub decreases-loop-at : goal.decreases-loop-at
decreases-loop-at g l = length l.initial.buf - l.at
