use Rattle.std.proofs.Common.{arith}
use Rattle.capnp_stream.proofs.lemmas.WordLemmas.{frame-length}
use Rattle.capnp_stream.proofs.messages.write_segment.Goals as goal

pub returns-clause-size : goal.returns-clause-size
returns-clause-size g c = frame-length c.args.bytes.now c.requires.whole (λ i. omega (arith, c.type_inv.bytes i))
