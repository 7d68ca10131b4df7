-- The bytes behind so many others.
use Rattle.std.proofs.Common.{◌*◌, arith}
use Rattle.capnp_wire.proofs.Fields.{rest_of}
use Rattle.capnp_wire.proofs.section.bytes_from.Goals as goal

pub returns-clause-bits : goal.returns-clause-bits
returns-clause-bits c = rest_of _ c.in_ok-start.start (c.args.width * c.args.index) c.args.section.now (omega arith) (let e = c.in_ok-start.ensures.1 in omega arith)
