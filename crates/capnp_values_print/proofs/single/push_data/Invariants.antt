use Rattle.std.proofs.Common.{◌≡◌, ◌++◌, take}
use Rattle.std.specs.Prelude.{codes}
use Rattle.std.specs.List.{flat_map}
use Rattle.capnp_model.specs.Printing.{hex_byte}
use Rattle.capnp_values_print.proofs.single.push_data.Given as goal

abbrev pub invariant-loop-byte : goal.invariant-loop-byte
invariant-loop-byte l = l.out.items ≡ l.fn.out.items ++ (codes "0x\"" ++ flat_map hex_byte (take l.byte-index l.bytes))
