use Rattle.std.proofs.Common.{◌≡◌, ◌≤◌, ◌-◌, ◌/◌, ◌%◌, length, take}
use Rattle.capnp_model.specs.Bytes.{words_in_bytes}
use Rattle.capnp_model.specs.Packing.{unpacked_from}
use Rattle.capnp_stream_packed.specs.Parts.{ContinuesWith, with_front}
use Rattle.capnp_stream_packed.specs.Runs.{run_view}
use Rattle.capnp_stream_packed.proofs.unpacking.read_rest.Given as goal

abbrev pub invariant-loop-at : goal.invariant-loop-at
invariant-loop-at g l = record {
  whole : l.at % 8 ≡ 0;
  within : l.at ≤ length l.buf;
  same : length l.buf ≡ length l.initial.buf;
  read : ContinuesWith (unpacked_from (length l.initial.buf / 8) (run_view l.fn.run)) (g.R.Read.remaining l.initial.source) (g.R.Read.remaining l.source)
      (λ more. with_front (words_in_bytes (l.at / 8) (take l.at l.buf)) (unpacked_from ((length l.buf - l.at) / 8) (run_view l.run) more));
  count : g.R.Read.failures l.source ≡ g.R.Read.failures l.initial.source;
}

abbrev pub decreases-loop-at : goal.decreases-loop-at
decreases-loop-at g l = length l.initial.buf - l.at
