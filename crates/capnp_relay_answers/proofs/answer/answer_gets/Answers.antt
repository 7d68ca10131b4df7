use Rattle.std.proofs.Common.{List, ℕ, ◌≤◌, ◌^◌, IfSome, length, map, ap, sym, subst, arith}
use Rattle.capnp_model.specs.Calls.{Call}
use Rattle.capnp_model.specs.Encoding.{canonical_words}
use Rattle.capnp_model.specs.Trimming.{trim}
use Rattle.capnp_units.specs.Segments.{words_in}
use Rattle.capnp_calls.specs.Replies.{reply_view}
use Rattle.capnp_calls.specs.Resolved.{calls_of}
use Rattle.capnp_wire_canonical.specs.Writes.{filled}
use Rattle.capnp_relay_loop.specs.declared.answer.MessageAnswer.TheVariants as answers
use Rattle.capnp_relay_answers.specs.Answers.{ReadsRootValue}
use Rattle.capnp_relay_answers.specs.Gets.{TellsWords}
use Rattle.capnp_relay_answers.specs.RootCalls.{root_schema, root_calls}
use Rattle.capnp_relay_answers.proofs.Told.{gets_struct}
use Rattle.capnp_relay_answers.proofs.Whole.{at_struct, length_filled}
use Rattle.capnp_relay_answers.proofs.answer.answer_gets.Goals as goal

pub returns-in-Err-clause-answer : goal.returns-in-Err-clause-answer
returns-in-Err-clause-answer g c =
    let s = words_in (g.M.ReaderArena.segments c.args.message.now) in
    let into = c.read_root.new.words.items in
    subst (ReadsRootValue c.args.bounds s into) c.in-Err.is c.in_ok-count.ensures.root (root_schema c.args.calls.now) (root_calls c.args.calls.now) into

pub reply_in_place-requires-clause-count : goal.reply_in_place-requires-clause-count
reply_in_place-requires-clause-count g c =
    let s = words_in (g.M.ReaderArena.segments c.args.message.now) in
    let read = subst (ReadsRootValue c.args.bounds s c.read_root.new.words.items) c.in-Ok.is c.in_ok-count.ensures.root in
    (read.0.some, read.0.few, subst (λ (ws : List (List ℕ)). c.in-Ok.count ≤ length ws) (sym c.deref.ensures.value) read.0.inside)

pub returns-clause-answer : goal.returns-clause-answer
returns-clause-answer g c =
    let s = words_in (g.M.ReaderArena.segments c.args.message.now) in
    let into = c.read_root.new.words.items in
    let schema = root_schema c.args.calls.now in
    let calls = root_calls c.args.calls.now in
    let count = c.in-Ok.count in
    let replied = map reply_view c.in-Some.replies.items in
    let read = subst (ReadsRootValue c.args.bounds s into) c.in-Ok.is c.in_ok-count.ensures.root in
    let r = read.0 in
    let told = subst (λ found. IfSome found (λ told. TellsWords schema (calls_of c.resolved.result.now) (filled count c.deref.result.now) (map reply_view told.items))) c.in-Some.is c.in_ok-replies.ensures in
    let here : TellsWords schema calls (filled count into) replied =
    subst (λ (ws : List (List ℕ)). TellsWords schema calls (filled count ws) replied) c.deref.ensures.value (subst (λ (cs : List Call). TellsWords schema cs (filled count c.deref.result.now) replied) c.resolved.ensures.calls told) in
    let counted = length_filled count into in
    let long = ap length r.words in
    let few = r.few in
    let short : length (canonical_words (trim r.value)) ≤ 2 ^ 29 = omega (arith, long, counted, few) in
    let made = gets_struct c.words_mean_their_value.ensures.means schema calls c.args.bounds.nesting count into c.in-Some.replies r.inside few (trim r.value) read.1 r.fits (c.trimmed_values.ensures.again r.value) r.deep r.words short (here (trim r.value) r.fits r.words) in
    at_struct schema calls c.args.bounds s into into count (answers.Written count c.in-Some.replies) r read.1 made
