use Rattle.std.specs.Io.KnownBytes.{Keeps}
use Rattle.capnp_stream_io.proofs.devices.write_retrying.Given as goal

abbrev pub invariant-loop : goal.invariant-loop
invariant-loop g l = Keeps (g.S.Write.contents l.initial.to) (g.S.Write.contents l.to)
