use Rattle.std.proofs.Common.{rules}
use Rattle.capnp_calls_replies.proofs.Numbers.{taken_bits}
use Rattle.capnp_calls_replies.proofs.values.fits_unsigned.Goals as goal

pub returns-in-Number : goal.returns-in-Number
returns-in-Number c = let is = taken_bits c.unsigned_bits.result _ c.unsigned_bits.ensures in search rules
