use Rattle.std.proofs.Common.{ℕ, List, arith, subst, sym}
use Rattle.capnp_stream_io.specs.Writes.{Writes, sink_seen}
use Rattle.capnp_stream.proofs.lemmas.PieceLemmas.{plain-bytes}
use Rattle.capnp_stream.proofs.forms.FramedMessageForm.write_piece.Goals as goal

pub returns : goal.returns
returns g c =
    let same = plain-bytes c.args.bytes.now c.requires (λ i. omega (arith, c.type_inv.bytes i)) in
    let seen = sink_seen g.W.Write.contents g.W.Write.failures g.W.Write.room in
    let e = c.write_all.ensures in
    subst (λ (l : List ℕ). Writes g.W.Write.may_grow l (seen c.args.out.now) c.write_all.result (seen c.write_all.new.self)) (sym same)
    (record { ok = e.ok; falls = e.falls; err = e.err; refusal = e.refusal; count = e.count })
