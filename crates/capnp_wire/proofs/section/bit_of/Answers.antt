-- A bit of a byte.
use Rattle.std.proofs.Common.{ℕ, ap, nat_eq}
use Rattle.capnp_wire.proofs.Fields.{bit_is}
use Rattle.capnp_wire.proofs.section.bit_of.Goals as goal

pub returns : goal.returns
returns c = ap (λ (n : ℕ). nat_eq n 1) (bit_is c.args.index c.args.bytes.now c.requires)
