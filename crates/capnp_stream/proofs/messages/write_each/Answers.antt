use Rattle.std.proofs.Common.{arith, ◌≡◌, ◌+◌, ◌++◌, take, drop, sym, ap, Some, Ok}
use Rattle.std.specs.List.{flat_map, slice_get}
use Rattle.std.proofs.lemmas.List.{length-map}
use Rattle.std.proofs.lemmas.Option.{slice_get_within}
use Rattle.std.proofs.lemmas.Result.{err_from_is_err_and}
use Rattle.capnp_units.specs.Segments.{whole_words, words_in}
use Rattle.capnp_stream_io.specs.Writes.{sink_seen}
use Rattle.capnp_model.proofs.lemmas.Lists.{take-all}
use Rattle.capnp_stream.proofs.lemmas.WriteLemmas.{segment-there, segment-gone, each-step, each-text}
use Rattle.capnp_stream.proofs.WritesLemmas.{writes-text, writes-stop, writes-then}
use Rattle.capnp_stream.proofs.messages.write_each.Goals as goal

pub returns-in_err-write_piece : goal.returns-in_err-write_piece
returns-in_err-write_piece g c =
    let p = err_from_is_err_and c.from_residual.result c.from_residual.ensures.1 in
    let write = g.F.MessageForm.writer in
    let seen = sink_seen g.W.Write.contents g.W.Write.failures g.W.Write.room in
    let segments = g.S.ReaderSegments.segments c.args.segments.now in
    let s = words_in segments in
    let id = c.loop-bytes.id in
    let x = whole_words c.in-Some.bytes.now in
    let here : slice_get s id ≡ Some x = segment-there segments id c.in-Some.bytes.now (sym c.in-Some.ensures) in
    let done = flat_map write (take id s) in
    rw (p.1, p.2) (writes-text g.W.Write.may_grow _ _ (seen c.args.out.now) (seen c.write_piece.new.out) _ (each-text write s id x here)
    (writes-stop g.W.Write.may_grow (done ++ write x) (flat_map write (drop (id + 1) s)) (seen c.args.out.now) (seen c.write_piece.new.out) _
    (writes-then g.W.Write.may_grow done (write x) (seen c.args.out.now) (seen c.loop-bytes.out) (seen c.write_piece.new.out) _ c.loop-bytes.invariant c.in_err-write_piece.ensures)))

pub overflow_add-id : goal.overflow_add-id
overflow_add-id g c = omega (arith, slice_get_within (g.S.ReaderSegments.segments c.args.segments.now) c.loop-bytes.id c.in-Some.bytes.now (sym c.in-Some.ensures), c.requires.few)

pub loop-bytes-smaller : goal.loop-bytes-smaller
loop-bytes-smaller g c = omega (arith, slice_get_within (g.S.ReaderSegments.segments c.args.segments.now) c.loop-bytes.id c.in-Some.bytes.now (sym c.in-Some.ensures))

pub loop-bytes-preserved : goal.loop-bytes-preserved
loop-bytes-preserved g c =
    let write = g.F.MessageForm.writer in
    let seen = sink_seen g.W.Write.contents g.W.Write.failures g.W.Write.room in
    let segments = g.S.ReaderSegments.segments c.args.segments.now in
    let s = words_in segments in
    let id = c.loop-bytes.id in
    let x = whole_words c.in-Some.bytes.now in
    let here : slice_get s id ≡ Some x = segment-there segments id c.in-Some.bytes.now (sym c.in-Some.ensures) in
    writes-text g.W.Write.may_grow _ _ (seen c.args.out.now) (seen c.write_piece.new.out) (Ok tt) (sym (each-step write s id x here))
    (writes-then g.W.Write.may_grow (flat_map write (take id s)) (write x) (seen c.args.out.now) (seen c.loop-bytes.out) (seen c.write_piece.new.out) (Ok tt) c.loop-bytes.invariant c.in_ok-write_piece.ensures)

pub returns : goal.returns
returns g c =
    let write = g.F.MessageForm.writer in
    let seen = sink_seen g.W.Write.contents g.W.Write.failures g.W.Write.room in
    let segments = g.S.ReaderSegments.segments c.args.segments.now in
    let all : take c.loop-bytes.id (words_in segments) ≡ words_in segments = take-all (words_in segments) c.loop-bytes.id (omega (arith, segment-gone segments c.loop-bytes.id (sym c.in_default.ensures), length-map segments whole_words)) in
    writes-text g.W.Write.may_grow _ _ (seen c.args.out.now) (seen c.loop-bytes.out) (Ok tt) (ap (flat_map write) all) c.loop-bytes.invariant
