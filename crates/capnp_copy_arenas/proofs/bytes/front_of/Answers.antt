use Rattle.std.proofs.Common.{sym, arith}
use Rattle.capnp_wire.proofs.lemmas.Bytes.{bytes_of_front}
use Rattle.capnp_copy_arenas.proofs.bytes.front_of.Goals as goal

pub returns : goal.returns
returns c = sym (bytes_of_front c.args.count c.args.bytes.now c.requires (λ i. let h = c.type_inv.bytes i in omega arith))
