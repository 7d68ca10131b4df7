use Rattle.std.specs.Io.KnownBytes.{Keeps}
use Rattle.std.specs.Io.Buffered.{writer_contents}
use Rattle.capnp_stream_io.proofs.devices.flush_retrying.Given as goal

abbrev pub invariant-loop : goal.invariant-loop
invariant-loop g l = Keeps (writer_contents g.S.Write.contents l.initial.to) (writer_contents g.S.Write.contents l.to)
