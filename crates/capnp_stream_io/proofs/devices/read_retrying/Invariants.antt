use Rattle.std.specs.Io.KnownBytes.{Keeps}
use Rattle.capnp_stream_io.proofs.devices.read_retrying.Given as goal

abbrev pub invariant-loop : goal.invariant-loop
invariant-loop g l = Keeps (g.S.Read.remaining l.initial.from) (g.S.Read.remaining l.from)
