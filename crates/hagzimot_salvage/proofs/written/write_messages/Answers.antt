use Rattle.std.proofs.Common.{◌+◌, ◌++◌, Ok, get_or, take, drop, ap, arith}
use Rattle.std.proofs.lemmas.Result.{err_from_is_err_and}
use Rattle.capnp_model.proofs.lemmas.Lists.{take-all}
use Rattle.capnp_stream_io.specs.Writes.{sink_seen}
use Rattle.hagzimot_salvage.specs.declared.pieces.Piece.TheVariants as piece
use Rattle.hagzimot_salvage.specs.Pieces.{kept_of, kept_bytes}
use Rattle.hagzimot_salvage.proofs.Writing.{unwritten, as_text, both_written, second_stops, kept_more, kept_all}
use Rattle.hagzimot_salvage.proofs.written.write_messages.Goals as goal

pub loop-piece-init : goal.loop-piece-init
loop-piece-init g c = unwritten g.W.Write.may_grow _

pub loop-piece-preserved : goal.loop-piece-preserved
loop-piece-preserved g c =
    let seen = sink_seen g.W.Write.contents g.W.Write.failures g.W.Write.room in
    let b = c.args.bytes.now in
    let ps = c.args.pieces.now in
    let i = c.loop-piece.piece-index in
    let here = kept_of b (get_or ps i (piece.Messages 0 0 0)) in
    as_text g.W.Write.may_grow (kept_bytes b (take i ps) ++ here) (kept_bytes b (take (i + 1) ps)) (seen c.args.out.now) (seen c.write_kept.new.out) (Ok tt) (kept_more b ps i (piece.Messages 0 0 0) c.loop-piece-test.true)
    (both_written g.W.Write.may_grow (kept_bytes b (take i ps)) here (seen c.args.out.now) (seen c.loop-piece.out) (seen c.write_kept.new.out) c.loop-piece.invariant c.in_ok-write_kept.ensures)

pub returns-in_err-write_kept : goal.returns-in_err-write_kept
returns-in_err-write_kept g c =
    let seen = sink_seen g.W.Write.contents g.W.Write.failures g.W.Write.room in
    let p = err_from_is_err_and c.from_residual.result c.from_residual.ensures.1 in
    let b = c.args.bytes.now in
    let ps = c.args.pieces.now in
    let i = c.loop-piece.piece-index in
    let here = kept_of b (get_or ps i (piece.Messages 0 0 0)) in
    rw (p.1, p.2) (as_text g.W.Write.may_grow ((kept_bytes b (take i ps) ++ here) ++ kept_bytes b (drop (i + 1) ps)) (kept_bytes b ps) (seen c.args.out.now) (seen c.write_kept.new.out) _ (kept_all b ps i (piece.Messages 0 0 0) c.loop-piece-test.true)
    (second_stops g.W.Write.may_grow (kept_bytes b (take i ps)) here (seen c.args.out.now) (seen c.loop-piece.out) (seen c.write_kept.new.out) (kept_bytes b (drop (i + 1) ps)) _ c.loop-piece.invariant c.in_err-write_kept.ensures))

pub returns : goal.returns
returns g c =
    let seen = sink_seen g.W.Write.contents g.W.Write.failures g.W.Write.room in
    let ps = c.args.pieces.now in
    let i = c.loop-piece.piece-index in
    let all = take-all ps i (omega arith) in
    as_text g.W.Write.may_grow (kept_bytes c.args.bytes.now (take i ps)) (kept_bytes c.args.bytes.now ps) (seen c.args.out.now) (seen c.loop-piece.out) (Ok tt) (ap (kept_bytes c.args.bytes.now) all) c.loop-piece.invariant
