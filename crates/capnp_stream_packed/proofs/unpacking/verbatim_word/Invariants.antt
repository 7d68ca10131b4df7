use Rattle.std.proofs.Common.{◌≡◌, ◌-◌, length, take}
use Rattle.capnp_model.specs.Bytes.{taken}
use Rattle.capnp_stream_packed.specs.Parts.{ContinuesWith, with_front}
use Rattle.capnp_stream_packed.proofs.unpacking.verbatim_word.Given as goal

abbrev pub invariant-loop-i : goal.invariant-loop-i
invariant-loop-i g l = record {
  whole : length l.word ≡ 8;
  read : ContinuesWith (taken 8) (g.R.Read.remaining l.initial.source) (g.R.Read.remaining l.source) (λ more. with_front (take l.i l.word) (taken (8 - l.i) more));
  count : g.R.Read.failures l.source ≡ g.R.Read.failures l.initial.source;
}
