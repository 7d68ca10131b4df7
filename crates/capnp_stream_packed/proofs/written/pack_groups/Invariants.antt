use Rattle.std.proofs.Common.{◌≡◌, length}
use Rattle.capnp_stream_packed.proofs.lemmas.WriteLemmas.{Spelled}
use Rattle.capnp_stream_packed.proofs.written.pack_groups.Given as goal

abbrev pub invariant-loop-buf : goal.invariant-loop-buf
invariant-loop-buf l = record {
  same : length l.buf ≡ length l.fn.buf;
  spelled : Spelled l.fn.bytes l.buf l.len l.left;
}

abbrev pub decreases-loop-buf : goal.decreases-loop-buf
decreases-loop-buf l = length l.left
