use Rattle.std.proofs.Common.{◌≡◌, ◌-◌, length, arith, rules}
use borrow.Rule.Slice.PartMut.{put_mid}
use Rattle.capnp_stream_io.proofs.lemmas.Filling.{take-put_mid_more}
use Rattle.capnp_stream_packed.proofs.UnpackLemmas.{Unpacks-then}
use Rattle.capnp_stream_packed.proofs.shown.Step.of_shown.Goals as goal

pub returns : goal.returns
returns c =
    let step = c.of_run-step.result in
    let first = c.of_run-step.ensures.unpacked in
    let next = c.of_groups-behind.result in
    let buf = c.of_run-step.new.buf in
    let tail = c.of_groups-behind.new.buf in
    let after = put_mid step.filled (length buf - step.filled) buf tail in
    let size : length tail ≡ length buf - step.filled = search rules in
    let kept : length after ≡ length buf = search rules in
    Unpacks-then c.args.run c.args.shown.now buf tail after step next first c.of_groups-behind.ensures size kept (take-put_mid_more step.filled _ next.filled buf tail (omega (arith, first.fits)) c.of_groups-behind.ensures.fits)
