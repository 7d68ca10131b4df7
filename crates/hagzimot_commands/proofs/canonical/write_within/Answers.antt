use Rattle.std.proofs.Common.{inl, inr, List, ℕ, ap, sym, subst, ◌∙◌, length}
use Rattle.capnp_units.specs.Segments.{words_in}
use Rattle.capnp_wire_canonical.proofs.lemmas.Limited.{WalkLaws}
use Rattle.hagzimot_commands.specs.Answers.{ReadsValueWithinLimits, canonical_limits}
use Rattle.hagzimot_commands.proofs.Within.{put_back, value_read, none_read}
use Rattle.hagzimot_commands.proofs.canonical.write_within.Goals as goal

pub returns-in-Ok : goal.returns-in-Ok
returns-in-Ok g c =
    let laws : WalkLaws = record { cost = c.values_on_walks.ensures.cost; walks = c.copies_as_walks.ensures } in
    let s = words_in (g.M.ReaderArena.segments c.args.message.now) in
    let reads = value_read laws s c.args.limits c.new-limiter.result c.write_canonical.new.limiter c.as_mut_slice-into.result.now c.write_canonical.new.into c.in-Ok.count c.new-limiter.ensures.left c.in-Ok.ensures in
    let back = put_back c.args.words.now.len c.write_canonical.new.into c.args.words.now.items c.args.words.now.ok.0 (c.in-Ok.ensures.behind.0 ∙ ap length c.as_mut_slice-into.ensures.value) in
    subst (λ (into : List (List ℕ)). ReadsValueWithinLimits (canonical_limits c.args.limits) s into c.in-Ok.count) (sym back) reads

pub returns-in_default : goal.returns-in_default
returns-in_default g c =
    let laws : WalkLaws = record { cost = c.values_on_walks.ensures.cost; walks = c.copies_as_walks.ensures } in
    elim c.in-Err.ensures.halted.why [
      | inl stop ↦ none_read laws (words_in (g.M.ReaderArena.segments c.args.message.now)) c.args.limits c.new-limiter.result c.write_canonical.new.limiter c.in-Err.e c.new-limiter.ensures.left stop
      | inr full ↦ absurd (c.in_default.not-BufferNotLargeEnough full.why)
    ]
