use Rattle.std.proofs.Common.{sym, ◌∙◌}
use Rattle.capnp_calls_versions.proofs.Bodies.{other_sorts, never_sorts}
use Rattle.capnp_calls_versions.proofs.types.related_bases.Goals as goal

pub returns-then-not-same_sort-clause-decides : goal.returns-then-not-same_sort-clause-decides
returns-then-not-same_sort-clause-decides c = other_sorts c.args.versions.now c.args.reached.now c.args.older c.args.newer (sym c.same_sort.ensures ∙ c.if-not-same_sort.true) c.requires.sound

pub returns-then-not-same_sort-clause-never : goal.returns-then-not-same_sort-clause-never
returns-then-not-same_sort-clause-never c = λ e. never_sorts c.args.versions.now c.args.older c.args.newer (sym c.same_sort.ensures ∙ c.if-not-same_sort.true)
