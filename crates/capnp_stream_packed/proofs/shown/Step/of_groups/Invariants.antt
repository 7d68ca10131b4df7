use Rattle.std.proofs.Common.{◌≡◌, ◌≤◌, ◌-◌, length, drop}
use Rattle.capnp_stream_packed.specs.Steps.{IsFirst, Unpacks}
use Rattle.capnp_stream_packed.proofs.UnpackLemmas.{then_run}
use Rattle.capnp_stream_packed.proofs.shown.Step.of_groups.Given as goal

abbrev pub invariant-loop-filled : goal.invariant-loop-filled
invariant-loop-filled l = record {
  same : length l.buf ≡ length l.fn.buf;
  within : length l.left ≤ length l.fn.shown;
  rest : l.left ≡ drop (length l.fn.shown - length l.left) l.fn.shown;
  unpacked : Unpacks l.fn.run l.fn.shown l.buf (record { taken = length l.fn.shown - length l.left; filled = l.filled; run = then_run l.filled l.fn.run });
  tag : IsFirst l.tag l.left;
}

abbrev pub decreases-loop-filled : goal.decreases-loop-filled
decreases-loop-filled l = length l.fn.buf - l.filled
