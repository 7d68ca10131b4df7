use Rattle.std.proofs.Common.{arith, ◌≡◌, ◌+◌, ◌*◌, ◌/◌, [], ◌∷◌, length, take, refl, sym, ap, subst}
use Rattle.std.proofs.lemmas.List.{length-append}
use Rattle.capnp_relay_loop.specs.MessageAnswers.{each_segment_bytes}
use Rattle.capnp_relay_answers.specs.Plain.{CopiesSegments}
use Rattle.capnp_relay_answers.proofs.Copies.{copies_more, copies_all, counted, segment_gone}
use Rattle.capnp_relay_answers.proofs.as_built.copy_segments.Goals as goal

pub loop-bytes-preserved : goal.loop-bytes-preserved
loop-bytes-preserved g c =
    let segments = g.M.ReaderArena.segments c.args.message.now in
    let id = c.loop-bytes.id in
    let old = each_segment_bytes c.loop-bytes.segments in
    let bytes = c.in-Some.bytes.now in
    let before = c.loop-bytes.invariant in
    let pushed = c.in_ok-push_copy.ensures in
    let size : length old ≡ id = counted c.loop-bytes.segments id before.count in
    let made = copies_more segments old id bytes _ before.copies (sym c.in-Some.ensures) (let few = before.copies.few in omega arith) (omega arith) refl in
    record {
      copies = subst (CopiesSegments (take (id + 1) segments)) (sym pushed) made;
      count = let more = ap length pushed in omega (arith, more, size, length-append old (take (8 * (length bytes / 8)) bytes ∷ []), counted c.push_copy.new.segments _ refl);
    }

pub returns : goal.returns
returns g c =
    let segments = g.M.ReaderArena.segments c.args.message.now in
    record {
      copies = copies_all segments (each_segment_bytes c.loop-bytes.segments) c.loop-bytes.id c.loop-bytes.invariant.copies (segment_gone segments c.loop-bytes.id (sym c.in_default.ensures));
      size = λ e. absurd (cc e);
    }
