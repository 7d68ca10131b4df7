-- the kinds so far are told
use Rattle.std.proofs.Common.{◌≡◌, ◌++◌, codes, take}
use Rattle.std.specs.Prelude.{string_bytes}
use Rattle.std.specs.List.{flat_map}
use Rattle.hagzimot_outcomes.specs.Counts.{kind_member}
use Rattle.hagzimot_outcomes.proofs.refused_calls.push_more_members.Given as goal

abbrev pub invariant-loop-counted : goal.invariant-loop-counted
invariant-loop-counted l = string_bytes l.text ≡ string_bytes l.initial.text ++ flat_map (λ c. codes "," ++ kind_member c) (take l.counted-index l.kinds)
