use Rattle.capnp_relay_answers.proofs.Alone.{copied}
use Rattle.capnp_relay_answers.proofs.reading.read_segment.Goals as goal

pub returns : goal.returns
returns c =
    let bytes = c.args.bytes.now in
    let stands = c.if-not-stands_canonical.ensures in
    copied bytes c.args.bounds stands c.copy_segment.new.words.items c.in_ok-count.count c.in_ok-count.ensures.words c.in_ok-count.ensures.count.0 c.in_ok-count.ensures.count.1
