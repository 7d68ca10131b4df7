-- The word is that of the eight bytes there.
use Rattle.std.proofs.Common.{Some, ap, sym, ◌∙◌}
use Rattle.capnp_wire_objects.proofs.lemmas.Words.{word_of_chunk, no_chunk}
use Rattle.capnp_wire_objects.proofs.place.word_in.Goals as goal

pub returns-in_err-get-clause-word : goal.returns-in_err-get-clause-word
returns-in_err-get-clause-word c = c.from_residual.ensures ∙ sym (no_chunk c.args.bytes.now c.as_chunks.result.0.now c.as_chunks.ensures.front c.args.position c.in_err-get.ensures.lookup.3)

pub returns-clause-word : goal.returns-clause-word
returns-clause-word c =
    let found = c.in_ok-get.ensures.lookup in
    ap Some c.from_le_bytes.ensures ∙ sym (word_of_chunk c.args.bytes.now c.as_chunks.result.0.now c.as_chunks.ensures.front c.args.position c.in_ok-get.field-0.now found.3.0 found.1)
