use Rattle.std.proofs.Common.{inl, inr, arith}
use Rattle.capnp_model.specs.Segments.{root}
use Rattle.capnp_units.specs.Segments.{words_in}
use Rattle.capnp_wire_canonical.specs.Copies.{copy_visits, room_of}
use Rattle.capnp_wire_canonical.proofs.lemmas.Faults.{stopped_otherwise}
use Rattle.capnp_wire_canonical.proofs.lemmas.Limited.{WalkLaws, stopped_none}
use Rattle.capnp_calls.proofs.Walks.{written_words, full_few, no_words}
use Rattle.capnp_calls.proofs.copied.write_words.Goals as goal

pub returns-in-Ok-clause-words : goal.returns-in-Ok-clause-words
returns-in-Ok-clause-words g c =
    let laws : WalkLaws = record { cost = c.values_on_walks.ensures.cost; walks = c.copies_as_walks.ensures } in
    written_words laws (words_in (g.A.ReaderArena.segments c.args.arena.now)) 8388608 64 c.new-limiter.result c.write_canonical.new.limiter c.args.into.now c.write_canonical.new.into c.in-Ok.count c.new-limiter.ensures.left c.in-Ok.ensures

pub returns-in-BufferNotLargeEnough-clause-short : goal.returns-in-BufferNotLargeEnough-clause-short
returns-in-BufferNotLargeEnough-clause-short g c =
    let s = words_in (g.A.ReaderArena.segments c.args.arena.now) in
    elim c.in-Err.ensures.halted.why [
      | inl stop ↦ absurd (stopped_otherwise 64 s root c.new-limiter.result c.write_canonical.new.limiter c.in-Err.e stop c.in-BufferNotLargeEnough.is)
      | inr full ↦ let few = full_few (copy_visits 64 s root) (room_of c.args.into.now) 8388608 c.new-limiter.result c.write_canonical.new.limiter c.in-Err.e c.new-limiter.ensures.left full in omega (arith, few)
    ]

pub returns-in_default : goal.returns-in_default
returns-in_default g c =
    let laws : WalkLaws = record { cost = c.values_on_walks.ensures.cost; walks = c.copies_as_walks.ensures } in
    let s = words_in (g.A.ReaderArena.segments c.args.arena.now) in
    record {
      words = elim c.in-Err.ensures.halted.why [
        | inl stop ↦ no_words s (stopped_none laws s 8388608 64 c.new-limiter.result c.write_canonical.new.limiter c.in-Err.e c.new-limiter.ensures.left stop)
        | inr full ↦ absurd (c.in_default.not-BufferNotLargeEnough full.why)
      ];
      short = tt;
    }
