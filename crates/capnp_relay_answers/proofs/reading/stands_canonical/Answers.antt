use Rattle.std.proofs.Common.{arith}
use Rattle.capnp_relay_answers.proofs.Walks.{ValueLaws}
use Rattle.capnp_relay_answers.proofs.Alone.{stands}
use Rattle.capnp_relay_answers.proofs.reading.stands_canonical.Goals as goal

pub returns-in-Ok : goal.returns-in-Ok
returns-in-Ok c =
    let laws : ValueLaws = record { of_walks = record { cost = c.values_on_walks.ensures.cost; walks = c.copies_as_walks.ensures }; of_levels = record { deep = c.values_that_are_read.ensures.deep; levels = c.values_that_are_read.ensures.levels }; fits = c.values_that_are_read.ensures.fits; trim_fits = c.trimmed_values.ensures.fits; trim_depth = c.trimmed_values.ensures.depth } in
    stands c.args.message.now.bytes.now c.args.bounds laws c.canonical_tests.ensures.holds_of c.min.result (omega (arith, c.min.ensures)) c.new-limiter.result c.is_canonical_message.new.limiter c.in-Ok.stands c.new-limiter.ensures.left c.if-message-ge-MESSAGE_WORDS.false c.in-Ok.ensures
