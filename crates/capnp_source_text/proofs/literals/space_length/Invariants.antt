-- the bytes that were passed are white space
use Rattle.std.proofs.Common.{◌≡◌, ◌+◌, drop}
use Rattle.std.specs.List.{prefix_len}
use Rattle.capnp_source_text.specs.Bytes.{is_space}
use Rattle.capnp_source_text.proofs.literals.space_length.Given as goal

abbrev pub invariant-loop-place : goal.invariant-loop-place
invariant-loop-place l = prefix_len is_space l.text ≡ l.place + prefix_len is_space (drop l.place l.text)
