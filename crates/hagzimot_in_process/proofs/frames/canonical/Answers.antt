use Rattle.capnp_units.specs.Segments.{words_in}
use Rattle.capnp_stream.specs.Buffers.{found_segments}
use Rattle.capnp_wire_canonical.specs.Copies.{copy_state}
use Rattle.hagzimot_in_process.proofs.Framing.{form_of}
use Rattle.hagzimot_in_process.proofs.Refusals.{no_form_of, err_is}
use Rattle.hagzimot_in_process.proofs.frames.canonical.Goals as goal

pub returns-in-Ok-write_canonical-clause-form : goal.returns-in-Ok-write_canonical-clause-form
returns-in-Ok-write_canonical-clause-form c =
    form_of c.args.limits c.args.input.now c.read_message_from_flat_slice_no_alloc.new.slice.now (words_in (found_segments c.new-arena.result.segments)) (copy_state c.in-Some.into.now c.new-limiter.result) (copy_state c.write_canonical.new.into c.write_canonical.new.limiter) c.in-Ok-write_canonical.count c.to_le_bytes.result
    (rw c.new-arena.ensures.segments c.in-Ok.ensures.message) c.in-Ok-write_canonical.ensures c.to_le_bytes.ensures

pub returns-in-Err-clause-value : goal.returns-in-Err-clause-value
returns-in-Err-clause-value c is =
    no_form_of c.values_on_walks.ensures.cost c.args.limits c.args.input.now c.read_message_from_flat_slice_no_alloc.new.slice.now (words_in (found_segments c.new-arena.result.segments)) (rw c.new-arena.ensures.segments c.in-Ok.ensures.message)
    c.new-limiter.result c.new-limiter.ensures.left c.copies_as_walks.ensures c.in-Some.into.now c.in-Err.e (copy_state c.write_canonical.new.into c.write_canonical.new.limiter) (c.copy_fault.ensures.value (err_is _ _ is)) c.in-Err.ensures
