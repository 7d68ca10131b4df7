-- the bytes that were passed are of the class
use Rattle.std.proofs.Common.{◌≡◌, ◌+◌, drop}
use Rattle.std.specs.List.{prefix_len}
use Rattle.capnp_source_text.specs.Bytes.{is_in}
use Rattle.capnp_source_text.proofs.lexemes.run_length.Given as goal

abbrev pub invariant-loop-place : goal.invariant-loop-place
invariant-loop-place l = prefix_len (is_in l.class) l.text ≡ l.place + prefix_len (is_in l.class) (drop l.place l.text)
