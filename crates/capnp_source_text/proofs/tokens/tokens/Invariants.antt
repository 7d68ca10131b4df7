-- the tokens that are left follow those that were found
use Rattle.std.proofs.Common.{◌≤◌, ◌-◌, length}
use Rattle.std.specs.Prelude.{All}
use Rattle.capnp_source_text.specs.Tokens.{LiesIn}
use Rattle.capnp_source_text.proofs.Following.{GoesOn}
use Rattle.capnp_source_text.proofs.tokens.tokens.Given as goal

abbrev pub invariant-loop-start : goal.invariant-loop-start
invariant-loop-start l = record {
  within : l.start ≤ length l.text;
  inside : All (LiesIn l.text) l.found.items;
  goes_on : GoesOn l.text l.found.items l.start;
}

abbrev pub decreases-loop-start : goal.decreases-loop-start
decreases-loop-start l = length l.text - l.start
