use Rattle.std.proofs.lemmas.Result.{on_err_weaker}
use Rattle.capnp_stream_io.proofs.lemmas.KnownLemmas.{AppendsPart-behind}
use Rattle.capnp_stream_io.proofs.devices.write_whole.Goals as goal

pub returns-in-Ok-2-clause-err : goal.returns-in-Ok-2-clause-err
returns-in-Ok-2-clause-err g c = on_err_weaker c.write_behind.result (AppendsPart-behind _ _ _ c.in-Ok.n c.args.buf.now c.in-Ok.ensures.bytes) c.write_behind.ensures.err
