use Rattle.std.proofs.lemmas.Result.{IfOk-weaker}
use Rattle.capnp_calls_versions.proofs.Bodies.{other_counts, same_counts, never_counts, never_bases}
use Rattle.capnp_calls_versions.proofs.types.related.Goals as goal

pub returns-then-older-newer-clause-decides : goal.returns-then-older-newer-clause-decides
returns-then-older-newer-clause-decides c = other_counts c.args.versions.now c.args.reached.now c.args.older c.args.newer c.if-older-newer.true c.requires.sound

pub returns-then-older-newer-clause-never : goal.returns-then-older-newer-clause-never
returns-then-older-newer-clause-never c = λ e. never_counts c.args.versions.now c.args.older c.args.newer c.if-older-newer.true

pub returns-clause-decides : goal.returns-clause-decides
returns-clause-decides c = IfOk-weaker c.related_bases.result _ _ (λ b h. same_counts c.args.versions.now c.args.reached.now c.related_bases.new.reached b c.args.older c.args.newer c.if-older-newer.false h) c.related_bases.ensures.decides

pub returns-clause-never : goal.returns-clause-never
returns-clause-never c = IfOk-weaker c.related_bases.result _ _ (λ b h. λ e. never_bases c.args.versions.now c.args.older c.args.newer (h e)) c.related_bases.ensures.never
