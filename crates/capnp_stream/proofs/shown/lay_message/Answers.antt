use Rattle.std.proofs.Common.{◌≡◌, ◌+◌, ◌/◌, ◌≤◌, ◌++◌, true, length, drop, sym, ap, ◌∙◌, arith, take_at, length-append, length-take-le}
use Rattle.capnp_model.specs.Messages.{within}
use Rattle.capnp_stream.specs.Shown.{bytes_in_all}
use Rattle.capnp_stream.proofs.lemmas.ShownLemmas.{Lays-copied}
use Rattle.capnp_stream.proofs.shown.lay_message.Goals as goal

pub returns : goal.returns
returns c =
    let info = c.in_ok-info.info in
    let len = bytes_in_all info in
    let shown = c.args.shown.now in
    let laid = c.copy_from_slice.new.self in
    let rest = drop len c.args.buffer.now in
    let room : len ≤ length c.args.buffer.now = omega (arith, c.if-buffer-len.false) in
    let size : length laid ≡ len = c.copy_from_slice.auto.self ∙ length-take-le len c.args.buffer.now room in
    let whole : length (laid ++ rest) ≡ len + length rest = length-append laid rest ∙ ap (λ n. n + length rest) size in
    let fine : within (info.total_segments_length_bytes / 8) c.args.limit ≡ true = sym c.is_within.ensures ∙ c.if-not-is_within.false in
    Lays-copied c.args.limit shown (laid ++ rest) info c.in_ok-info.ensures (omega (arith, whole)) (take_at laid rest len size ∙ c.copy_from_slice.ensures.after) fine
