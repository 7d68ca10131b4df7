use Rattle.std.proofs.Common.{◌≡◌, length}
use Rattle.std.specs.Vec.Iter.{into_iter_items, into_iter_len}
use Rattle.hagzimot_in_process.proofs.Made.{MadeSoFar}
use Rattle.hagzimot_in_process.proofs.calls.calls_of.Given as goal

abbrev pub invariant-loop-path : goal.invariant-loop-path
invariant-loop-path l = record {
  made : MadeSoFar l.fn.parts.items (into_iter_items l.path-iterator) l.calls.items;
  count : into_iter_len l.path-iterator ≡ length (into_iter_items l.path-iterator);
}
