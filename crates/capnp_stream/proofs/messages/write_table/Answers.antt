use Rattle.std.proofs.Common.{arith, ◌≡◌, [], ◌∷◌, ℕ, List, Err, Ok, subst}
use Rattle.std.proofs.lemmas.Result.{err_from_is_err_and}
use Rattle.capnp_units.specs.Segments.{whole_words}
use Rattle.capnp_stream_io.specs.Writes.{Writes, sink_seen}
use Rattle.capnp_stream.proofs.lemmas.WriteLemmas.{word-bytes}
use Rattle.capnp_stream.proofs.WritesLemmas.{writes-stop, writes-then}
use Rattle.capnp_stream.proofs.messages.write_table.Goals as goal

pub returns-in_err-write_piece : goal.returns-in_err-write_piece
returns-in_err-write_piece g c =
    let p = err_from_is_err_and c.from_residual.result c.from_residual.ensures.1 in
    let write = g.F.MessageForm.writer in
    let seen = sink_seen g.W.Write.contents g.W.Write.failures g.W.Write.room in
    let word : whole_words c.to_le_bytes.result ≡ c.args.first ∷ [] = word-bytes c.args.first c.to_le_bytes.result (omega arith) c.to_le_bytes.ensures in
    let Of : List ℕ → Type 0 = λ l. Writes g.W.Write.may_grow (write l) (seen c.args.out.now) (Err c.in_err-write_piece.field-0.0) (seen c.write_piece.new.out) in
    rw (p.1, p.2) (writes-stop g.W.Write.may_grow (write (c.args.first ∷ [])) (write (whole_words c.args.rest.now)) (seen c.args.out.now) (seen c.write_piece.new.out) _ (subst Of word c.in_err-write_piece.ensures))

pub returns : goal.returns
returns g c =
    let write = g.F.MessageForm.writer in
    let seen = sink_seen g.W.Write.contents g.W.Write.failures g.W.Write.room in
    let word : whole_words c.to_le_bytes.result ≡ c.args.first ∷ [] = word-bytes c.args.first c.to_le_bytes.result (omega arith) c.to_le_bytes.ensures in
    let Of : List ℕ → Type 0 = λ l. Writes g.W.Write.may_grow (write l) (seen c.args.out.now) (Ok tt) (seen c.write_piece.new.out) in
    writes-then g.W.Write.may_grow (write (c.args.first ∷ [])) (write (whole_words c.args.rest.now)) (seen c.args.out.now) (seen c.write_piece.new.out) (seen c.write_piece-2.new.out) c.write_piece-2.result
    (subst Of word c.in_ok-write_piece.ensures) c.write_piece-2.ensures
