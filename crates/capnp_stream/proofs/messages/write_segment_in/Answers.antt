use Rattle.std.proofs.Common.{◌≡◌, [], ◌∷◌, ◌*◌, ◌/◌, ◌^◌, ◌++◌, length, sym, ap}
use Rattle.std.proofs.lemmas.Result.{err_from_is_err_and}
use Rattle.capnp_units.specs.Segments.{whole_words}
use Rattle.capnp_model.specs.Messages.{spelled}
use Rattle.capnp_stream_io.specs.Writes.{sink_seen}
use Rattle.capnp_model.proofs.lemmas.WordsInBytes.{words_in_bytes-length}
use Rattle.capnp_stream.proofs.lemmas.WriteLemmas.{one-text}
use Rattle.capnp_stream.proofs.WritesLemmas.{writes-text, writes-stop, writes-then}
use Rattle.capnp_stream.proofs.messages.write_segment_in.Goals as goal

pub returns-in_err-write_table : goal.returns-in_err-write_table
returns-in_err-write_table g c =
    let p = err_from_is_err_and c.from_residual.result c.from_residual.ensures.1 in
    let write = g.F.MessageForm.writer in
    let seen = sink_seen g.W.Write.contents g.W.Write.failures g.W.Write.room in
    let ws = whole_words c.args.bytes.now in
    let number = 2 ^ 32 * (length c.args.bytes.now / 8) in
    let text : (write (number ∷ []) ++ write []) ++ write ws ≡ spelled write (ws ∷ []) = one-text write number ws (ap (λ n. 2 ^ 32 * n) (sym (words_in_bytes-length (length c.args.bytes.now / 8) c.args.bytes.now))) in
    rw (p.1, p.2) (writes-text g.W.Write.may_grow _ _ (seen c.args.out.now) (seen c.write_table.new.out) _ text
    (writes-stop g.W.Write.may_grow (write (number ∷ []) ++ write []) (write ws) (seen c.args.out.now) (seen c.write_table.new.out) _ c.in_err-write_table.ensures))

pub returns : goal.returns
returns g c =
    let write = g.F.MessageForm.writer in
    let seen = sink_seen g.W.Write.contents g.W.Write.failures g.W.Write.room in
    let ws = whole_words c.args.bytes.now in
    let number = 2 ^ 32 * (length c.args.bytes.now / 8) in
    let text : (write (number ∷ []) ++ write []) ++ write ws ≡ spelled write (ws ∷ []) = one-text write number ws (ap (λ n. 2 ^ 32 * n) (sym (words_in_bytes-length (length c.args.bytes.now / 8) c.args.bytes.now))) in
    writes-text g.W.Write.may_grow _ _ (seen c.args.out.now) (seen c.write_piece.new.out) c.write_piece.result text
    (writes-then g.W.Write.may_grow (write (number ∷ []) ++ write []) (write ws) (seen c.args.out.now) (seen c.write_table.new.out) (seen c.write_piece.new.out) c.write_piece.result c.in_ok-write_table.ensures c.write_piece.ensures)
