-- A value takes a level less than what it stands in, and within a level each calls the next. A row that is behind holds nothing that is looked for.
use Rattle.std.proofs.Common.{◌≡◌, ◌+◌, ◌*◌}
use Rattle.hagzimot_faults.proofs.locate.+locate.Given as goal

abbrev pub decreases-locate_inside : goal.decreases-locate_inside
decreases-locate_inside g l = 4 * l.levels + 3

abbrev pub decreases-locate_in_elements : goal.decreases-locate_in_elements
decreases-locate_in_elements g l = 4 * l.levels + 2

abbrev pub decreases-locate_in_row : goal.decreases-locate_in_row
decreases-locate_in_row g l = 4 * l.levels + 1

abbrev pub decreases-locate_at : goal.decreases-locate_at
decreases-locate_at g l = 4 * l.levels

abbrev pub invariant-locate_in_row-loop-i : goal.invariant-locate_in_row-loop-i
invariant-locate_in_row-loop-i g l = l.steps.items ≡ l.fn.steps.items

abbrev pub invariant-locate_in_elements-loop-i : goal.invariant-locate_in_elements-loop-i
invariant-locate_in_elements-loop-i g l = l.steps.items ≡ l.fn.steps.items
