use Rattle.std.proofs.Common.{sym, ◌∙◌}
use Rattle.capnp_calls_versions.proofs.AllBroken.{adding_first, adding_on, adding_end}
use Rattle.capnp_calls_versions.proofs.reached.Reached.reach_all.Goals as goal

pub loop-k-init : goal.loop-k-init
loop-k-init c = adding_first c.args.self.now c.args.others.now

pub loop-k-preserved : goal.loop-k-preserved
loop-k-preserved c = adding_on c.args.self.now c.args.others.now c.loop-k.self c.reach.new.self c.loop-k.k c.in-Some.a c.in-Some.b c.loop-k.invariant (sym c.in-Some.ensures) c.in_ok-reach.ensures.pairs c.in_ok-reach.ensures.sound c.in_ok-reach.ensures.grows

pub returns-in_default-clause-pairs : goal.returns-in_default-clause-pairs
returns-in_default-clause-pairs c = adding_end c.args.self.now c.args.others.now c.loop-k.self c.loop-k.k c.loop-k.invariant (sym c.in_default.is ∙ c.pair.ensures)

pub returns-in_default-clause-sound : goal.returns-in_default-clause-sound
returns-in_default-clause-sound c = c.loop-k.invariant.sound

pub returns-in_default-clause-grows : goal.returns-in_default-clause-grows
returns-in_default-clause-grows c = c.loop-k.invariant.grows
