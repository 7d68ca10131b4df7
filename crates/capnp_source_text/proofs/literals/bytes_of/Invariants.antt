-- what is left is made behind what was made
use Rattle.std.proofs.Common.{◌≤◌, ◌-◌, ℕ, List, ◌++◌, drop, length}
use Rattle.capnp_source_text.specs.Literals.{IsBytes}
use Rattle.capnp_source_text.proofs.literals.bytes_of.Given as goal

abbrev pub invariant-loop-pair : goal.invariant-loop-pair
invariant-loop-pair l = record {
  within : l.at ≤ length l.inside;
  goes_on : (more : List ℕ) → IsBytes (drop l.at l.inside) more → IsBytes l.inside (l.made.items ++ more);
}

abbrev pub decreases-loop-pair : goal.decreases-loop-pair
decreases-loop-pair l = length l.inside - l.at
