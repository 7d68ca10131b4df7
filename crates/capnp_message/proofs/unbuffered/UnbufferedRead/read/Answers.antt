use Rattle.std.proofs.Common.{arith}
use Rattle.capnp_message.proofs.Held.{byte_read}
use Rattle.capnp_message.proofs.unbuffered.UnbufferedRead.read.Goals as goal

pub returns-then-self-gt0-clause-bytes : goal.returns-then-self-gt0-clause-bytes
returns-then-self-gt0-clause-bytes g c = (byte_read (g.R.Read.remaining c.args.self.now.inner) c.args.self.now.front c.args.buf.now c.args.self.now.held (omega (arith, c.if-self-gt0.true, c.args.self.now.one)) (omega (arith, c.well_formed)) c.is_empty.result c.if-is_empty.false c.is_empty.ensures, λ e. absurd (omega (arith, e)))
