use Rattle.capnp_units.specs.Segments.{words_in}
use Rattle.capnp_stream.specs.Buffers.{found_segments}
use Rattle.hagzimot_in_process.proofs.Refusals.{beyond_of}
use Rattle.hagzimot_in_process.proofs.frames.is_canonical.Goals as goal

pub returns-in-Err-clause-value : goal.returns-in-Err-clause-value
returns-in-Err-clause-value c _ =
    beyond_of c.values_on_walks.ensures.cost c.args.limits c.args.input.now c.read_message_from_flat_slice_no_alloc.new.slice.now (words_in (found_segments c.new-arena.result.segments)) (rw c.new-arena.ensures.segments c.in-Ok.ensures.message)
    c.new-limiter.result c.new-limiter.ensures.left c.in-Err.field-0 c.is_canonical_message.new.limiter c.in-Err.ensures.0
