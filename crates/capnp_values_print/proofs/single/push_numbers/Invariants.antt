use Rattle.std.proofs.Common.{◌≡◌, ◌++◌, take}
use Rattle.std.specs.List.{flat_map}
use Rattle.capnp_values_print.proofs.TextLemmas.{with_comma}
use Rattle.capnp_values_print.proofs.single.push_numbers.Given as goal

abbrev pub invariant-loop-byte : goal.invariant-loop-byte
invariant-loop-byte l = l.out.items ≡ l.initial.out.items ++ flat_map with_comma (take l.byte-index l.others)
