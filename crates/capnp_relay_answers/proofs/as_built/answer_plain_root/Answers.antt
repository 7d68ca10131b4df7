use Rattle.std.proofs.Common.{◌≡◌, Ok, Err, map, refl, ap, arith}
use Rattle.std.proofs.lemmas.Result.{IfOk-weaker}
use Rattle.std.proofs.lemmas.List.{length-map}
use Rattle.capnp_units.specs.Segments.{words_in, whole_words}
use Rattle.capnp_calls.specs.Resolved.{calls_of}
use Rattle.capnp_calls.specs.Replies.{reply_view}
use Rattle.capnp_relay_loop.specs.declared.answer.Want.TheVariants as wants
use Rattle.capnp_relay_answers.proofs.PlainEdited.{PlainLaws, has_segment, plain_root, plain_deep, plain_many, plain_long}
use Rattle.capnp_relay_answers.proofs.Whole.{too_long}
use Rattle.capnp_relay_answers.proofs.as_built.answer_plain_root.Goals as goal

pub returns-in-Err-clause-size : goal.returns-in-Err-clause-size
returns-in-Err-clause-size g c err =
    let told : c.want_after.result ≡ wants.Size = cc in
    plain_long (words_in (g.A.ReaderArena.segments c.args.arena.now)) c.args.schema (calls_of c.args.calls.now) c.args.bounds
    (too_long c.args.schema (calls_of c.args.calls.now) c.args.bounds c.in-Err.fault (λ same. c.in-Err.ensures.size (ap Err same)) (c.want_after.ensures.0 told))

pub returns-then-not-keeps-clause-all : goal.returns-then-not-keeps-clause-all
returns-then-not-keeps-clause-all g c =
    let laws : PlainLaws = record { after = c.changes_of_values.ensures.owned; zeros = c.changes_of_values.ensures.zeros; fewer = c.changes_with_fewer_levels.ensures.replaced; meant = c.values_as_a_relation.ensures.meant; one = c.values_as_a_relation.ensures.one; deep = c.values_that_are_read.ensures.deep } in
    let seg = g.A.ReaderArena.segments in
    plain_deep laws (words_in (seg c.args.arena.now)) (words_in (seg c.run_root.new.arena)) c.args.schema (calls_of c.args.calls.now) c.args.bounds.nesting (map reply_view c.in-Ok.replies.items) c.in-Ok.ensures.all c.args.words.now.items
    (λ n t there. c.in_ok-keeps.ensures.deeper n t (ap Ok c.if-not-keeps.true) there)

pub written_as_built-requires : goal.written_as_built-requires
written_as_built-requires g c =
    let segments = g.A.ReaderArena.segments c.run_root.new.arena in
    let kept = c.in_ok-keeps.ensures.keeps (ap Ok c.if-not-keeps.false) in
    let some = has_segment c.args.bounds.nesting (words_in segments) kept.0 kept.1 in
    omega (arith, some, length-map segments whole_words)

pub returns-clause-all : goal.returns-clause-all
returns-clause-all g c =
    let laws : PlainLaws = record { after = c.changes_of_values.ensures.owned; zeros = c.changes_of_values.ensures.zeros; fewer = c.changes_with_fewer_levels.ensures.replaced; meant = c.values_as_a_relation.ensures.meant; one = c.values_as_a_relation.ensures.one; deep = c.values_that_are_read.ensures.deep } in
    let seg = g.A.ReaderArena.segments in
    let kept = c.in_ok-keeps.ensures.keeps (ap Ok c.if-not-keeps.false) in
    IfOk-weaker c.written_as_built.result _ _
    (λ a h. plain_root laws (words_in (seg c.args.arena.now)) (words_in (seg c.run_root.new.arena)) c.args.schema (calls_of c.args.calls.now) c.args.bounds.nesting (map reply_view c.in-Ok.replies.items) c.in-Ok.ensures.all c.written_as_built.new.words.items a h kept.0 kept.1)
    c.written_as_built.ensures.puts

pub returns-clause-size : goal.returns-clause-size
returns-clause-size g c err =
    let laws : PlainLaws = record { after = c.changes_of_values.ensures.owned; zeros = c.changes_of_values.ensures.zeros; fewer = c.changes_with_fewer_levels.ensures.replaced; meant = c.values_as_a_relation.ensures.meant; one = c.values_as_a_relation.ensures.one; deep = c.values_that_are_read.ensures.deep } in
    let seg = g.A.ReaderArena.segments in
    let kept = c.in_ok-keeps.ensures.keeps (ap Ok c.if-not-keeps.false) in
    let many = c.written_as_built.ensures.size err in
    plain_many laws (words_in (seg c.args.arena.now)) (words_in (seg c.run_root.new.arena)) c.args.schema (calls_of c.args.calls.now) c.args.bounds.nesting (map reply_view c.in-Ok.replies.items) c.in-Ok.ensures.all c.args.bounds refl
    (omega (arith, many, length-map (seg c.run_root.new.arena) whole_words)) kept.0 kept.1
