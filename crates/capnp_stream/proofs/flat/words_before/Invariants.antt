use Rattle.std.proofs.Common.{◌≡◌, ◌≤◌, ◌*◌, ◌^◌, sum}
use Rattle.capnp_stream.specs.Flat.{table_lengths}
use Rattle.capnp_stream.proofs.flat.words_before.Given as goal

abbrev pub invariant-loop-id : goal.invariant-loop-id
invariant-loop-id l = record {
  made : l.total ≡ sum (table_lengths l.id l.bytes);
  small : l.total ≤ l.id * 2 ^ 32;
}
