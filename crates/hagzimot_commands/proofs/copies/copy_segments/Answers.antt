use Rattle.std.proofs.Common.{arith, ◌≡◌, ◌+◌, ◌*◌, ◌/◌, [], ◌∷◌, length, take, refl, sym, ap, subst}
use Rattle.std.proofs.lemmas.List.{length-append}
use Rattle.capnp_relay_loop.specs.MessageAnswers.{each_segment_bytes}
use Rattle.hagzimot_commands.specs.Copies.{CopiesWholeWords}
use Rattle.hagzimot_commands.proofs.Copied.{copies_more, copies_all, counted, segment_gone}
use Rattle.hagzimot_commands.proofs.copies.copy_segments.Goals as goal

pub loop-bytes-preserved : goal.loop-bytes-preserved
loop-bytes-preserved g c =
    let segments = g.S.ReaderSegments.segments c.args.segments.now in
    let id = c.loop-bytes.id in
    let old = each_segment_bytes c.loop-bytes.copies in
    let bytes = c.in-Some.bytes.now in
    let before = c.loop-bytes.invariant in
    let pushed = c.in_ok-push_copy.ensures in
    let size : length old ≡ id = counted c.loop-bytes.copies id before.count in
    let made = copies_more segments old id bytes _ before.copies (sym c.in-Some.ensures) (let few = before.copies.few in omega arith) (omega arith) refl in
    record {
      copies = subst (CopiesWholeWords (take (id + 1) segments)) (sym pushed) made;
      count = let more = ap length pushed in omega (arith, more, size, length-append old (take (8 * (length bytes / 8)) bytes ∷ []), counted c.push_copy.new.copies _ refl);
    }

pub returns : goal.returns
returns g c =
    let segments = g.S.ReaderSegments.segments c.args.segments.now in
    record {
      copies = copies_all segments (each_segment_bytes c.loop-bytes.copies) c.loop-bytes.id c.loop-bytes.invariant.copies (segment_gone segments c.loop-bytes.id (sym c.in_default.ensures));
      size = λ e. absurd (cc e);
    }
