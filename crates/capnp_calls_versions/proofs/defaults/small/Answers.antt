use Rattle.std.proofs.Common.{arith}
use Rattle.capnp_calls_versions.proofs.defaults.small.Goals as goal

pub returns-clause-small : goal.returns-clause-small
returns-clause-small c i = omega (arith, c.type_inv.bytes i)
