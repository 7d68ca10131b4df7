use Rattle.std.proofs.Common.{Some, length, subst}
use Rattle.std.specs.Io.BufRead.{FillKeeps}
use Rattle.std.specs.Io.Buffered.{reader_buffer, reader_remaining}
use Rattle.capnp_stream_io.proofs.Showing.{none_shown}
use Rattle.capnp_stream_io.proofs.devices.refill_retrying.Goals as goal

pub returns-in-Ok-clause-end : goal.returns-in-Ok-clause-end
returns-in-Ok-clause-end g c =
    let left = reader_remaining g.S.Read.remaining in
    let new = c.fill_buf.follows.lender-at-none in
    let shown = length (reader_buffer new) in
    let kept = subst (FillKeeps (left c.loop.from) (left new) (Some shown)) c.in-Ok.is c.fill_buf.follows.holds-at-none in
    none_shown (left c.args.from.now) (left c.loop.from) (length c.in-Ok.field-0.now) shown c.loop.invariant c.in-Ok.ensures.end kept.1
