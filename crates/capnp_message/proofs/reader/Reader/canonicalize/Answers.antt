use Rattle.std.proofs.Common.{◌∙◌, sym}
use Rattle.capnp_model.specs.Answers.{levels}
use Rattle.capnp_units.specs.Segments.{words_in}
use Rattle.capnp_message.proofs.Owning.{given, too_long, within_given}
use Rattle.capnp_message.proofs.reader.Reader.canonicalize.Goals as goal

pub returns-clause-given : goal.returns-clause-given
returns-clause-given g c =
    let o = c.args.self.now.options in
    given c.in-Some.levels c.in_ok-count.count c.in_ok-words.words.len (levels o.nesting_limit) o.traversal_limit_in_words (words_in (g.S.ReaderSegments.segments c.args.self.now.segments)) c.as_mut_slice.result.now c.write_canonical.new.into _ c.args.limiter.now c.write_canonical.new.limiter c.truncate.new.self (sym c.levels.ensures ∙ c.in-Some.is) c.in_ok-count.ensures c.as_mut_slice.ensures.len c.truncate.ensures.items

pub returns-clause-within : goal.returns-clause-within
returns-clause-within g c =
    let o = c.args.self.now.options in
    within_given c.in-Some.levels c.in_ok-count.count (levels o.nesting_limit) o.traversal_limit_in_words (words_in (g.S.ReaderSegments.segments c.args.self.now.segments)) _ _ _ _ c.room_of-room.result.is_whole (sym c.levels.ensures ∙ c.in-Some.is) c.in_ok-count.ensures c.room_of-room.ensures.whole c.if-not-room.false

pub returns-then-not-room-clause-given : goal.returns-then-not-room-clause-given
returns-then-not-room-clause-given g c =
    let o = c.args.self.now.options in
    too_long c.in-Some.levels c.in_ok-count.count (levels o.nesting_limit) o.traversal_limit_in_words (words_in (g.S.ReaderSegments.segments c.args.self.now.segments)) _ _ _ _ c.room_of-room.result.is_whole _ (sym c.levels.ensures ∙ c.in-Some.is) c.in_ok-count.ensures c.room_of-room.ensures.whole c.if-not-room.true c.from-then-not-room.ensures
