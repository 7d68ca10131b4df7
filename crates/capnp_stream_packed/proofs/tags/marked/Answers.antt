use Rattle.std.proofs.Common.{arith}
use Rattle.capnp_stream_packed.proofs.TagLemmas.{ones-marks}
use Rattle.capnp_stream_packed.proofs.tags.marked.Goals as goal

pub returns-clause-count : goal.returns-clause-count
returns-clause-count c = ones-marks c.args.tag (omega arith)
