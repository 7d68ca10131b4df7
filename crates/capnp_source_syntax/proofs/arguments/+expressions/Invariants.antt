-- at each level the inner parts come behind the outer ones
use Rattle.std.proofs.Common.{◌+◌, ◌*◌}
use Rattle.capnp_source_syntax.proofs.arguments.+expressions.Given as goal

abbrev pub decreases-expression_within : goal.decreases-expression_within
decreases-expression_within l = 4 * l.levels

abbrev pub decreases-items : goal.decreases-items
decreases-items l = 4 * l.levels + 1

abbrev pub decreases-argument : goal.decreases-argument
decreases-argument l = 4 * l.levels + 1

abbrev pub decreases-arguments : goal.decreases-arguments
decreases-arguments l = 4 * l.levels + 2

abbrev pub decreases-steps : goal.decreases-steps
decreases-steps l = 4 * l.levels + 3
