use Rattle.std.proofs.Common.{◌≡◌, subst, refl, sym, ◌∙◌}
use Rattle.std.proofs.lemmas.Result.{err_from_is_err_and}
use Rattle.capnp_model.specs.Answers.{reply_done}
use Rattle.capnp_units.specs.Segments.{words_in}
use Rattle.capnp_calls.specs.Resolved.{call_of}
use Rattle.capnp_calls.specs.declared.reply.Reply.{Reply as Own}
use Rattle.capnp_calls.specs.Replies.{reply_view}
use Rattle.capnp_copy_arenas.specs.Refusals.{IsSizeOrRefusal}
use Rattle.capnp_units.specs.declared.errors.Error.{Error}
use Rattle.capnp_calls_run.proofs.Levels.{DepthLaws}
use Rattle.capnp_calls_run.specs.Runs.{TestsAt, TellsWhy}
use Rattle.capnp_calls_run.specs.declared.fault.RunFault.TheVariants as faults
use Rattle.capnp_calls_run.proofs.Tested.{written, left_alone, other_reply, puts_long}
use Rattle.capnp_calls_run.proofs.Stopped.{fails_nowhere, fails_before, fails_written}
use Rattle.capnp_calls_run.proofs.run.answer.Goals as goal

pub returns-in-Ok-clause-answer : goal.returns-in-Ok-clause-answer
returns-in-Ok-clause-answer g c =
    let seg = g.A.ReaderArena.segments in
    let s = words_in (seg c.args.arena.now) in
    let u = words_in (seg c.write_path.new.arena) in
    let call = call_of c.args.call.now in
    let T : Own → Type 0 = λ r. TestsAt s c.args.object c.args.schema (call_of c.args.call.now) (reply_view r) in
    let tests : TestsAt s c.args.object c.args.schema call reply_done = subst T c.in-Done.is c.in_ok-reply.ensures.replied in
    let laws : DepthLaws = record { depths = c.depths_of_owned_values.ensures.objects; owned = c.changes_with_fewer_levels.ensures.object_owned; replaced = c.changes_with_fewer_levels.ensures.object_replaced } in
    written laws c.changes_of_objects.ensures.owned s u (c.requires.arena.few c.args.arena.now) (c.requires.arena.few c.write_path.new.arena) c.args.object c.args.schema call c.requires.wide tests c.in-Ok.ensures.writes

pub returns-in_default : goal.returns-in_default
returns-in_default g c =
    let seg = g.A.ReaderArena.segments in
    let s = words_in (seg c.args.arena.now) in
    record {
      answer = left_alone s c.args.object c.args.schema (call_of c.args.call.now) (reply_view c.in_ok-reply.reply) c.in_ok-reply.ensures.replied (other_reply c.in_ok-reply.reply c.in_default.not-Done);
      stops = tt;
      size = λ err. absurd (cc err);
      books = refl;
    }

pub returns-in-Err-clause-size : goal.returns-in-Err-clause-size
returns-in-Err-clause-size g c err =
    let s = words_in (g.A.ReaderArena.segments c.args.arena.now) in
    let call = call_of c.args.call.now in
    let T : Own → Type 0 = λ r. TestsAt s c.args.object c.args.schema call (reply_view r) in
    let tests : TestsAt s c.args.object c.args.schema call reply_done = subst T c.in-Done.is c.in_ok-reply.ensures.replied in
    let is : c.fault_of.result ≡ faults.Size = cc err in
    puts_long s c.args.object c.args.schema call tests (subst (TellsWhy c.args.schema call c.in-Err.error) is (c.fault_of.ensures c.args.schema c.requires.resolved))

pub returns-in-Err-clause-stops : goal.returns-in-Err-clause-stops
returns-in-Err-clause-stops g c =
    let seg = g.A.ReaderArena.segments in
    let s = words_in (seg c.args.arena.now) in
    let u = words_in (seg c.write_path.new.arena) in
    let call = call_of c.args.call.now in
    let told : Error → Type 0 = IsSizeOrRefusal g.A.BuilderArena.refuses in
    let e : Error = c.in-Err.error in
    let T : Own → Type 0 = λ r. TestsAt s c.args.object c.args.schema call (reply_view r) in
    let tests : TestsAt s c.args.object c.args.schema call reply_done = subst T c.in-Done.is c.in_ok-reply.ensures.replied in
    fails_written told s u c.args.object c.args.schema call c.fault_of.result tests c.in-Err.ensures.grows e c.in-Err.ensures.cause (c.fault_of.ensures c.args.schema c.requires.resolved)

pub returns-then-not-has_words-clause-stops : goal.returns-then-not-has_words-clause-stops
returns-then-not-has_words-clause-stops g c =
    let s = words_in (g.A.ReaderArena.segments c.args.arena.now) in
    fails_nowhere (IsSizeOrRefusal g.A.BuilderArena.refuses) s c.args.object c.args.schema (call_of c.args.call.now) (faults.Refused c.from.result) (sym c.has_words.ensures.there ∙ c.if-not-has_words.true)

pub returns-in_err-reply-clause-stops : goal.returns-in_err-reply-clause-stops
returns-in_err-reply-clause-stops g c =
    let s = words_in (g.A.ReaderArena.segments c.args.arena.now) in
    let r = err_from_is_err_and c.from_residual.result c.from_residual.ensures.1 in
    rw (r.1, r.2) (fails_before (IsSizeOrRefusal g.A.BuilderArena.refuses) s c.args.object c.args.schema (call_of c.args.call.now) _ c.in_err-reply.ensures.memory)
