use Rattle.std.proofs.Common.{◌≡◌, ◌≤◌, ◌∙◌, Some, IfSome, Ok, refl, sym, ap, subst, length, map, List, ℕ}
use Rattle.std.specs.declared.option.Option.{Option}
use Rattle.capnp_units.specs.Segments.{words_in}
use Rattle.capnp_model.specs.Spelling.{CanSpell}
use Rattle.capnp_stream.specs.Writing.{AreWritable}
use Rattle.capnp_stream.specs.Frames.{TakesMessage}
use Rattle.capnp_stream.specs.Flat.{table_bytes, message_bytes, frame_segments}
use Rattle.capnp_stream.specs.Buffers.{found_segments}
use Rattle.capnp_stream.specs.Reading.{source_seen}
use Rattle.capnp_stream.specs.Kept.{GrowsForTable, GrowsTo, TriesTableIn}
use Rattle.capnp_stream.specs.declared.flat.NoAllocSegmentTableInfo.{NoAllocSegmentTableInfo}
use Rattle.capnp_stream.proofs.BufferLemmas.{described-room, described-size}
use Rattle.capnp_stream.proofs.kept.MessageBuffer.try_read_message.Goals as goal

pub returns : goal.returns
returns g c =
    let info = c.in-Some.info in
    let bytes = c.read_next.new.self.bytes.items in
    let seen = source_seen g.R.Read.remaining g.R.Read.failures in
    let Read : Option NoAllocSegmentTableInfo → Type 0 = λ o. TriesTableIn g.F.MessageForm.reader g.F.MessageForm.faults c.args.limit bytes (seen c.args.source.now) (Ok o) (seen c.read_next.new.source) in
    let read : Read (Some info) = subst Read c.in-Some.is c.in_ok-info.ensures.message in
    let Room : Option NoAllocSegmentTableInfo → Type 0 = λ o. IfSome o (λ _. table_bytes 511 ≤ length bytes) in
    let lent = c.as_slice-bytes.result.now in
    let same : lent ≡ bytes = c.as_slice-bytes.ensures.value in
    let s = found_segments c.from_segment_table_info.result in
    let found : s ≡ frame_segments info.segments_count bytes = c.from_segment_table_info.ensures ∙ ap (frame_segments info.segments_count) same in
    let Taken : List (List ℕ) → Type 0 = λ l. TakesMessage g.F.MessageForm.reader c.args.limit (g.R.Read.remaining c.args.source.now) (g.R.Read.remaining c.read_next.new.source) (words_in l) in
    let Kept : List (List ℕ) → Type 0 = λ l. CanSpell c.args.limit (words_in l) in
    let Fits : List (List ℕ) → Type 0 = λ l. message_bytes (map length (words_in l)) ≤ length bytes in
    let had = length c.args.self.now.bytes.items in
    let For : Option NoAllocSegmentTableInfo → Type 0 = λ o. GrowsForTable g.F.MessageForm.reader c.args.limit (g.R.Read.remaining c.args.source.now) had (length bytes) (Ok o) in
    let most : For (Some info) = subst For c.in-Some.is c.in_ok-info.ensures.most in
    let To : ℕ → Type 0 = λ n. GrowsTo n had (length bytes) in
    let Grows : List (List ℕ) → Type 0 = λ l. GrowsTo (message_bytes (map length (words_in l))) had (length bytes) in (
      (refl, (λ _. tt), (c.in_ok-info.ensures.grown, ((subst Room c.in-Some.is c.in_ok-info.ensures.room, subst Fits (sym found) (described-room info bytes read.joined)), subst Grows (sym found) (subst To (sym (described-size info bytes read.joined)) most)))),
      record {
        message = record {
          message = subst Taken (sym found) read.message;
          kept = subst Kept (sym found) read.kept;
          joined = tt;
          writable = subst AreWritable (sym found) read.writable;
          none = tt;
          refused = tt;
          kind = tt;
          part = tt;
          wanted = tt;
          begun = tt;
          count = read.count;
        };
        longer = tt;
        grown = tt;
      },
    )
