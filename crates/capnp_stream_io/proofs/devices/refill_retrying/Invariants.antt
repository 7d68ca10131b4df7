use Rattle.std.specs.Io.KnownBytes.{Keeps}
use Rattle.std.specs.Io.Buffered.{reader_remaining}
use Rattle.capnp_stream_io.proofs.devices.refill_retrying.Given as goal

abbrev pub invariant-loop : goal.invariant-loop
invariant-loop g l = Keeps (reader_remaining g.S.Read.remaining l.initial.from) (reader_remaining g.S.Read.remaining l.from)
