-- the numbers of the fields that are left come after those so far
use Rattle.std.proofs.Common.{◌≡◌, ◌++◌, length}
use Rattle.std.specs.List.{range_with_len}
use Rattle.capnp_source_rules.specs.Rules.{member_numbers}
use Rattle.capnp_source_rules.proofs.rules.are_numbered.Given as goal

abbrev pub invariant-loop-left : goal.invariant-loop-left
invariant-loop-left l = range_with_len 0 l.next ++ member_numbers l.left ≡ member_numbers l.fn.fields

abbrev pub decreases-loop-left : goal.decreases-loop-left
decreases-loop-left l = length l.left
