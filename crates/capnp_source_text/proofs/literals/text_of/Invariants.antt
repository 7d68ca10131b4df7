-- what is left is made behind what was made
use Rattle.std.proofs.Common.{◌≤◌, ◌-◌, ℕ, List, ◌++◌, drop, length}
use Rattle.capnp_source_text.specs.Literals.{IsText}
use Rattle.capnp_source_text.proofs.literals.text_of.Given as goal

abbrev pub invariant-loop-at : goal.invariant-loop-at
invariant-loop-at l = record {
  within : l.at ≤ length l.inside;
  goes_on : (more : List ℕ) → IsText (drop l.at l.inside) more → IsText l.inside (l.made.items ++ more);
}

abbrev pub decreases-loop-at : goal.decreases-loop-at
decreases-loop-at l = length l.inside - l.at
