use Rattle.std.proofs.Common.{length, ◌-◌, ◌≡◌, ◌≤◌, take}
use Rattle.std.specs.Io.KnownBytes.{Consumes}
use Rattle.capnp_stream_io.specs.Adapters.{source_remaining, source_failures}
use Rattle.capnp_stream_io.proofs.adapters.read_whole.Given as goal

abbrev pub invariant-loop-at : goal.invariant-loop-at
invariant-loop-at g l = record {
  within : l.at ≤ length l.buf;
  same : length l.buf ≡ length l.initial.buf;
  taken : Consumes (source_remaining g.S.Read.remaining l.initial.source) (source_remaining g.S.Read.remaining l.source) (take l.at l.buf);
  count : source_failures l.source ≡ source_failures l.initial.source;
}

abbrev pub decreases-loop-at : goal.decreases-loop-at
decreases-loop-at g l = length l.initial.buf - l.at
