use Rattle.std.proofs.Common.{arith, ◌<◌, ◌^◌, [], ◌∷◌, List, ℕ, length, map, sym, ap, ◌∙◌, subst}
use Rattle.std.specs.Prelude.{All}
use Rattle.capnp_model.specs.Answers.{written}
use Rattle.capnp_units.specs.Segments.{words_in}
use Rattle.capnp_calls.specs.Replies.{reply_view}
use Rattle.capnp_relay_loop.specs.MessageAnswers.{each_segment_bytes}
use Rattle.capnp_relay_answers.proofs.Copies.{copies_writable, copies_few, copies_small, one_small}
use Rattle.capnp_relay_answers.proofs.as_built.written_as_built.Goals as goal

pub returns-in_default-clause-puts : goal.returns-in_default-clause-puts
returns-in_default-clause-puts g c =
    let segments = g.M.ReaderArena.segments c.args.message.now in
    let copied = c.in_ok-segments.ensures.copies in
    let copies = each_segment_bytes c.in_ok-segments.segments in
    record {
      view = ap (λ s. written s (map reply_view c.args.replies.items)) copied.words;
      few = copies_few segments copies copied;
      small = copies_small segments copies copied;
      stands = copies_writable segments copies c.requires copied;
    }

pub returns-clause-puts : goal.returns-clause-puts
returns-clause-puts g c =
    let bytes = c.in-Some.bytes.now in
    let alone = c.in-Some.ensures in
    let told = map reply_view c.args.replies.items in
    let count = c.in_ok-count.ensures.count in
    record {
      view = ap (λ w. written (w ∷ []) told) c.in_ok-count.ensures.words ∙ ap (λ s. written (words_in s) told) (sym alone);
      few = let one = ap length alone in rw alone (omega arith);
      small = subst (λ s. All (λ (words : List ℕ). length words < 2 ^ 29) (words_in s)) (sym alone) (one_small bytes (omega arith));
      stands = (count.1, omega (arith, count.0));
    }
