use Rattle.std.proofs.Common.{◌≡◌, ◌+◌, ◌*◌, ◌∙◌, get_or, rules}
use Rattle.capnp_model.specs.Bytes.{AreBytes}
use Rattle.capnp_stream.proofs.FlatLemmas.{length-at}
use Rattle.capnp_stream.proofs.flat.length_in.Goals as goal

pub returns-clause-length : goal.returns-clause-length
returns-clause-length c =
    let bytes = c.args.bytes.now in
    let at = 4 * c.args.id + 4 in
    let small : AreBytes bytes = search rules in
    let read : c.from_le_bytes.result ≡ get_or bytes at 0 + get_or bytes (at + 1) 0 * 256 + get_or bytes (at + 2) 0 * 65536 + get_or bytes (at + 3) 0 * 16777216 = c.from_le_bytes.ensures in
    read ∙ length-at bytes c.args.id small c.requires.there
