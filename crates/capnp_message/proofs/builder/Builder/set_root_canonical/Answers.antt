use Rattle.std.proofs.Common.{inl, inr, length, ℕ, Option, ap, sym, ◌∙◌, arith}
use Rattle.std.specs.Prelude.{unwrap_or}
use Rattle.capnp_model.specs.Answers.{levels}
use Rattle.capnp_model.specs.Segments.{root}
use Rattle.capnp_model.specs.Traversal.{cost_at}
use Rattle.capnp_model.specs.Trimming.{trim}
use Rattle.capnp_units.specs.Segments.{words_in}
use Rattle.capnp_message.specs.Built.{used_words}
use Rattle.capnp_message.proofs.Building.{set_first, set_again, some_segments}
use Rattle.capnp_message.proofs.Written.{no_items}
use Rattle.std.proofs.lemmas.Result.{err_from_is_err_and}
use Rattle.capnp_message.proofs.Refused.{err_as, err_of, given_few}
use Rattle.capnp_message.proofs.builder.Builder.set_root_canonical.Goals as goal

pub returns-then-len-eq0-clause-copy : goal.returns-then-len-eq0-clause-copy
returns-then-len-eq0-clause-copy g c =
    let o = c.args.source.now.options in
    let set = c.set_words in
    let items = c.args.self.now.memory.arena.segments.items in
    let none = ap (used_words (λ h. h.used) (λ h. g.A.Segment.SegmentBytes.bytes h.segment)) (no_items items c.len.result c.if-len-eq0.true c.len.ensures) in
    set_first (levels o.nesting_limit) o.traversal_limit_in_words (words_in (g.S.ReaderSegments.segments c.args.source.now.segments)) _ _ c.args.limiter.now c.canonicalize.new.limiter c.in_ok-words.words c.deref.result.now set.result none c.in_ok-words.ensures.given c.deref.ensures.value set.ensures.words set.ensures.refused set.ensures.kind

pub returns-clause-copy : goal.returns-clause-copy
returns-clause-copy g c =
    let o = c.args.source.now.options in
    let s = words_in (g.S.ReaderSegments.segments c.args.source.now.segments) in
    let items = c.args.self.now.memory.arena.segments.items in
    let some = some_segments (λ h. h.used) (λ h. g.A.Segment.SegmentBytes.bytes h.segment) items (omega (arith, c.if-len-eq0.false, c.len.ensures)) in
    let level = ap (λ (l : Option ℕ). unwrap_or l 0) (sym c.levels.ensures) ∙ sym c.unwrap_or-levels.ensures in
    let read = c.values_that_are_read.ensures in
    let trims = c.trimmed_values.ensures in
    set_again (levels o.nesting_limit) o.traversal_limit_in_words c.unwrap_or-levels.result s _ _ c.args.limiter.now c.canonicalize.new.limiter c.in_ok-words.words c.deref-2.result.now c.replace_root.result some level c.in_ok-words.ensures.given c.deref-2.ensures.value c.replace_root.ensures.copy (λ n v t l. c.words_mean_their_value.ensures.means (trim v) n (trims.fits v (read.fits n s root v t)) (omega (arith, trims.depth v, read.deep n s root v t)) (omega (arith, l))) (λ n s v t. (cost_at n s root, c.values_on_walks.ensures.cost n s root v t))

pub returns-in_err-words-clause-cause : goal.returns-in_err-words-clause-cause
returns-in_err-words-clause-cause g c =
    let p = err_from_is_err_and c.from_residual.result c.from_residual.ensures.1 in
    rw (p.1, p.2) (λ none. inl c.in_err-words.ensures.given)

pub returns-then-len-eq0-clause-cause : goal.returns-then-len-eq0-clause-cause
returns-then-len-eq0-clause-cause g c =
    let o = c.args.source.now.options in
    let few = given_few (levels o.nesting_limit) o.traversal_limit_in_words (words_in (g.S.ReaderSegments.segments c.args.source.now.segments)) c.args.limiter.now c.canonicalize.new.limiter c.in_ok-words.words c.deref.result.now c.in_ok-words.ensures.given c.deref.ensures.value in
    err_as c.set_words.result _ _ c.set_words.ensures.cause (λ e h none. inr (elim h [ inl l ↦ absurd (omega (arith, l, few)) | inr r ↦ (c.args.self.now.memory.arena, length c.deref.result.now, r) ]))

pub returns-clause-cause : goal.returns-clause-cause
returns-clause-cause g c =
    let items = c.args.self.now.memory.arena.segments.items in
    let some = some_segments (λ h. h.used) (λ h. g.A.Segment.SegmentBytes.bytes h.segment) items (omega (arith, c.if-len-eq0.false, c.len.ensures)) in
    err_of c.replace_root.result _ (λ e none. absurd (omega (arith, some, ap length none)))
