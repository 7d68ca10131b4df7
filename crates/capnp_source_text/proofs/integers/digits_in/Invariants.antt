-- the value of the digits that were passed
use Rattle.std.proofs.Common.{◌≡◌, take, true, is_some}
use Rattle.std.specs.List.{list_all}
use Rattle.capnp_source_text.specs.Integers.{fitting, value_in, digit_in}
use Rattle.capnp_source_text.proofs.integers.digits_in.Given as goal

abbrev pub invariant-loop-byte : goal.invariant-loop-byte
invariant-loop-byte l = record {
  digits_only : list_all (λ b. is_some (digit_in l.base b)) (take l.byte-index l.digits) ≡ true;
  value_so_far : l.value ≡ fitting (value_in l.base (take l.byte-index l.digits));
}
