use Rattle.std.proofs.Common.{◌≡◌, map, length}
use Rattle.std.specs.Vec.Iter.{into_iter_items, into_iter_len}
use Rattle.capnp_calls.specs.CallViews.{call_view}
use Rattle.capnp_relay_files.specs.CallViews.{parts_of}
use Rattle.capnp_relay_program.specs.Calls.{calls_from}
use Rattle.capnp_relay_program.proofs.MadeCalls.{left_of}
use Rattle.capnp_relay_program.proofs.settings.made_calls.Given as goal

abbrev pub invariant-loop-path : goal.invariant-loop-path
invariant-loop-path l = record {
  left : calls_from 1 (map parts_of l.fn.parts.items) ≡ left_of (map call_view l.calls.items) (map parts_of (into_iter_items l.path-iterator));
  count : into_iter_len l.path-iterator ≡ length (into_iter_items l.path-iterator);
}
