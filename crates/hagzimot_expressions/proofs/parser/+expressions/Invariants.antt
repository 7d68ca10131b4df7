-- at each level the inner parts come behind the outer ones
use Rattle.std.proofs.Common.{◌+◌, ◌*◌}
use Rattle.hagzimot_expressions.specs.Numbers.{NumbersRead}
use Rattle.hagzimot_expressions.proofs.parser.+expressions.Given as goal

abbrev pub decreases-single : goal.decreases-single
decreases-single l = 3 * l.levels

abbrev pub decreases-conjunction : goal.decreases-conjunction
decreases-conjunction l = 3 * l.levels + 1

abbrev pub decreases-alternatives : goal.decreases-alternatives
decreases-alternatives l = 3 * l.levels + 2

-- the conditions that were read are those of the tree
abbrev pub invariant-conjunction-loop : goal.invariant-conjunction-loop
invariant-conjunction-loop l = NumbersRead l.fn.parser l.parser l.tree

abbrev pub invariant-alternatives-loop : goal.invariant-alternatives-loop
invariant-alternatives-loop l = NumbersRead l.fn.parser l.parser l.tree
