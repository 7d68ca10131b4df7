use Rattle.std.proofs.Common.{inr}
use Rattle.capnp_message.proofs.Refused.{err_as}
use Rattle.capnp_message.proofs.builder.Builder.initn_root.Goals as goal

pub returns-clause-cause : goal.returns-clause-cause
returns-clause-cause g c = err_as c.init_at.result _ _ c.init_at.ensures.cause (λ e h. inr h)
