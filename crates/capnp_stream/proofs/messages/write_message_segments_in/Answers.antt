use Rattle.std.proofs.Common.{arith, ◌≡◌, [], ◌∷◌, ◌+◌, ◌*◌, ◌-◌, ◌^◌, ◌<◌, ◌++◌, length, ap, ◌∙◌}
use Rattle.std.specs.List.{flat_map}
use Rattle.std.proofs.lemmas.List.{length-map}
use Rattle.std.proofs.lemmas.Result.{err_from_is_err_and}
use Rattle.capnp_model.specs.Messages.{spelled}
use Rattle.capnp_units.specs.Segments.{whole_words, words_in}
use Rattle.capnp_stream_io.specs.Writes.{sink_seen}
use Rattle.capnp_stream.proofs.lemmas.WriteLemmas.{whole-text}
use Rattle.capnp_stream.proofs.WritesLemmas.{writes-text, writes-stop, writes-then, writes-or}
use Rattle.capnp_stream.proofs.messages.write_message_segments_in.Goals as goal

pub returns-in_err-write_table : goal.returns-in_err-write_table
returns-in_err-write_table g c =
    let p = err_from_is_err_and c.from_residual-in_err-write_table.result c.from_residual-in_err-write_table.ensures.1 in
    let write = g.F.MessageForm.writer in
    let seen = sink_seen g.W.Write.contents g.W.Write.failures g.W.Write.room in
    let segments = g.S.ReaderSegments.segments c.args.segments.now in
    let s = words_in segments in
    let count : length s ≡ length segments = length-map segments whole_words in
    let number = (c.len.result - 1) + 2 ^ 32 * c.length_of.result in
    let rest = whole_words c.deref.result.now in
    let table = write (number ∷ []) ++ write rest in
    let text : table ++ flat_map write s ≡ spelled write s = whole-text write s number c.length_of.result rest (omega (arith, c.requires.some, count)) c.length_of.ensures.length (omega (arith, c.len.ensures, count)) (ap whole_words c.deref.ensures.value ∙ c.in_ok-rest.ensures.words) in
    rw (p.1, p.2) (writes-or g.W.Write.may_grow (1 < length segments) _ (seen c.args.out.now) (seen c.write_table.new.out) _ (writes-text g.W.Write.may_grow _ _ (seen c.args.out.now) (seen c.write_table.new.out) _ text
    (writes-stop g.W.Write.may_grow table (flat_map write s) (seen c.args.out.now) (seen c.write_table.new.out) _ c.in_err-write_table.ensures)))

pub returns : goal.returns
returns g c =
    let write = g.F.MessageForm.writer in
    let seen = sink_seen g.W.Write.contents g.W.Write.failures g.W.Write.room in
    let segments = g.S.ReaderSegments.segments c.args.segments.now in
    let s = words_in segments in
    let count : length s ≡ length segments = length-map segments whole_words in
    let number = (c.len.result - 1) + 2 ^ 32 * c.length_of.result in
    let rest = whole_words c.deref.result.now in
    let table = write (number ∷ []) ++ write rest in
    let text : table ++ flat_map write s ≡ spelled write s = whole-text write s number c.length_of.result rest (omega (arith, c.requires.some, count)) c.length_of.ensures.length (omega (arith, c.len.ensures, count)) (ap whole_words c.deref.ensures.value ∙ c.in_ok-rest.ensures.words) in
    writes-or g.W.Write.may_grow (1 < length segments) _ (seen c.args.out.now) (seen c.write_each.new.out) c.write_each.result (writes-text g.W.Write.may_grow _ _ (seen c.args.out.now) (seen c.write_each.new.out) c.write_each.result text
    (writes-then g.W.Write.may_grow table (flat_map write s) (seen c.args.out.now) (seen c.write_table.new.out) (seen c.write_each.new.out) c.write_each.result c.in_ok-write_table.ensures c.write_each.ensures))
