use Rattle.std.proofs.Common.{◌≡◌, List, ℕ, Err, inl, inr, length, refl, ap, sym, subst, ◌∙◌, arith}
use Rattle.capnp_model.specs.Segments.{root}
use Rattle.capnp_model.specs.Trees.{has_capability}
use Rattle.capnp_model.specs.Trimming.{trim}
use Rattle.capnp_model.specs.Encoding.{canonical_words}
use Rattle.capnp_units.specs.Segments.{words_in}
use Rattle.capnp_units.specs.declared.kinds.ErrorKind.TheVariants.{BufferNotLargeEnough, NestingLimitExceeded}
use Rattle.capnp_calls.specs.Resolved.{calls_of}
use Rattle.capnp_relay_answers.specs.Answers.{AnswersRoot}
use Rattle.capnp_relay_loop.specs.declared.answer.MessageAnswer.TheVariants as answers
use Rattle.capnp_relay_loop.specs.declared.answer.Want.TheVariants as wants
use Rattle.capnp_relay_answers.proofs.Levels.{written_with_more, stopped_on_walk}
use Rattle.capnp_relay_answers.proofs.Walks.{put_back, deeper}
use Rattle.capnp_relay_answers.proofs.Edited.{EditLaws, writes_root, deep_root}
use Rattle.capnp_relay_answers.proofs.Whole.{too_long}
use Rattle.capnp_relay_answers.proofs.built.answer_root.Goals as goal

pub returns-in-Err-clause-size : goal.returns-in-Err-clause-size
returns-in-Err-clause-size g c err =
    let told : c.want_after.result ≡ wants.Size = cc in
    too_long c.args.schema (calls_of c.args.calls.now) c.args.bounds c.in-Err.fault (λ same. c.in-Err.ensures.size (ap Err same)) (c.want_after.ensures.0 told)

pub returns-in-NestingLimitExceeded-clause-all : goal.returns-in-NestingLimitExceeded-clause-all
returns-in-NestingLimitExceeded-clause-all g c =
    let laws : EditLaws = record { after = c.changes_of_values.ensures.owned; meant = c.values_as_a_relation.ensures.meant; one = c.values_as_a_relation.ensures.one; deep = c.values_that_are_read.ensures.deep; fits = c.values_that_are_read.ensures.fits; trim_fits = c.trimmed_values.ensures.fits; trim_depth = c.trimmed_values.ensures.depth; means = c.words_mean_their_value.ensures.means } in
    let seg = g.A.ReaderArena.segments in
    let u = words_in (seg c.run_root.new.arena) in
    elim c.in-Err-write_canonical.ensures.halted.why [
      | inl stop ↦
          let walk = stopped_on_walk c.min-most.result u root c.new-unlimited.result c.write_canonical.new.limiter c.in-Err-write_canonical.e c.in-NestingLimitExceeded.is stop in
          deep_root laws (words_in (seg c.args.arena.now)) u c.args.schema (calls_of c.args.calls.now) c.args.bounds.nesting c.in-Ok.replies.items c.in-Ok.ensures.all _
          (λ n t there. let far = deeper (record { deep = c.values_that_are_read.ensures.deep; levels = c.values_that_are_read.ensures.levels }) c.values_on_walks.ensures.cost u n c.min-most.result t c.new-unlimited.result c.write_canonical.new.limiter c.in-Err-write_canonical.e c.new-unlimited.ensures.left walk there in let same = c.if-most-bounds.true in omega (arith, far, same))
      | inr full ↦ let no : BufferNotLargeEnough ≡ NestingLimitExceeded = sym full.why ∙ c.in-NestingLimitExceeded.is in absurd cc
    ]

pub returns-in-Ok-write_canonical-clause-all : goal.returns-in-Ok-write_canonical-clause-all
returns-in-Ok-write_canonical-clause-all g c =
    let laws : EditLaws = record { after = c.changes_of_values.ensures.owned; meant = c.values_as_a_relation.ensures.meant; one = c.values_as_a_relation.ensures.one; deep = c.values_that_are_read.ensures.deep; fits = c.values_that_are_read.ensures.fits; trim_fits = c.trimmed_values.ensures.fits; trim_depth = c.trimmed_values.ensures.depth; means = c.words_mean_their_value.ensures.means } in
    let seg = g.A.ReaderArena.segments in
    let s = words_in (seg c.args.arena.now) in
    let a = answers.Written c.in-Ok-write_canonical.count c.in-Ok.replies in
    let calls = calls_of c.args.calls.now in
    let u = words_in (seg c.run_root.new.arena) in
    let whole = written_with_more (record { deep = c.values_that_are_read.ensures.deep; levels = c.values_that_are_read.ensures.levels }) c.min-most.result c.args.bounds.nesting u root (omega (arith, c.min-most.ensures)) has_capability (λ t words. canonical_words (trim t)) 1 1 c.as_mut_slice.result.now c.write_canonical.new.into c.new-unlimited.result c.write_canonical.new.limiter c.in-Ok-write_canonical.count c.in-Ok-write_canonical.ensures in
    let made = writes_root laws s u c.args.schema calls c.args.bounds.nesting c.in-Ok.replies.items c.in-Ok.ensures.all a c.in-Ok-write_canonical.count c.as_mut_slice.result.now c.write_canonical.new.into c.new-unlimited.result c.write_canonical.new.limiter whole refl (λ inside few. (inside, few)) in
    let back = put_back c.make_room.new.words.len c.write_canonical.new.into c.make_room.new.words.items c.make_room.new.words.ok.0 (c.in-Ok-write_canonical.ensures.behind.0 ∙ ap length c.as_mut_slice.ensures.value) in
    subst (λ (into : List (List ℕ)). AnswersRoot c.args.schema calls c.args.bounds.nesting s into a) (sym back) made
