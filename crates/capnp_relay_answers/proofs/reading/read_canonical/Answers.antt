use Rattle.std.proofs.Common.{◌≡◌, inl, inr, List, ℕ, ap, sym, subst, ◌∙◌, length, arith}
use Rattle.capnp_units.specs.declared.kinds.ErrorKind.TheVariants.{BufferNotLargeEnough, NestingLimitExceeded}
use Rattle.capnp_units.specs.Segments.{words_in}
use Rattle.capnp_relay_answers.specs.Reading.{ReadsValue}
use Rattle.capnp_relay_answers.proofs.Walks.{ValueLaws, put_back, value_read, none_read}
use Rattle.capnp_relay_answers.proofs.reading.read_canonical.Goals as goal

pub returns-in-Ok : goal.returns-in-Ok
returns-in-Ok g c =
    let laws : ValueLaws = record { of_walks = record { cost = c.values_on_walks.ensures.cost; walks = c.copies_as_walks.ensures }; of_levels = record { deep = c.values_that_are_read.ensures.deep; levels = c.values_that_are_read.ensures.levels }; fits = c.values_that_are_read.ensures.fits; trim_fits = c.trimmed_values.ensures.fits; trim_depth = c.trimmed_values.ensures.depth } in
    let s = words_in (g.M.ReaderArena.segments c.args.message.now) in
    let reads = value_read laws s c.args.bounds c.min-levels.result (omega (arith, c.min-levels.ensures)) c.new-limiter.result c.write_canonical.new.limiter c.as_mut_slice-into.result.now c.write_canonical.new.into c.in-Ok.count c.new-limiter.ensures.left c.in-Ok.ensures in
    let back = put_back c.args.words.now.len c.write_canonical.new.into c.args.words.now.items c.args.words.now.ok.0 (c.in-Ok.ensures.behind.0 ∙ ap length c.as_mut_slice-into.ensures.value) in
    subst (λ (into : List (List ℕ)). ReadsValue c.args.bounds s into c.in-Ok.count) (sym back) reads

pub returns-else-levels-bounds : goal.returns-else-levels-bounds
returns-else-levels-bounds g c =
    let laws : ValueLaws = record { of_walks = record { cost = c.values_on_walks.ensures.cost; walks = c.copies_as_walks.ensures }; of_levels = record { deep = c.values_that_are_read.ensures.deep; levels = c.values_that_are_read.ensures.levels }; fits = c.values_that_are_read.ensures.fits; trim_fits = c.trimmed_values.ensures.fits; trim_depth = c.trimmed_values.ensures.depth } in
    let far = c.if-levels-bounds.false in
    elim c.in-Err.ensures.halted.why [
      | inl stop ↦ none_read laws (words_in (g.M.ReaderArena.segments c.args.message.now)) c.args.bounds c.min-levels.result (omega (arith, c.min-levels.ensures)) c.new-limiter.result c.write_canonical.new.limiter c.in-Err.e c.new-limiter.ensures.left (λ below. absurd (omega (arith, below, far))) stop
      | inr full ↦ let no : BufferNotLargeEnough ≡ NestingLimitExceeded = sym full.why ∙ c.in-NestingLimitExceeded.is in absurd cc
    ]

pub returns-in_default : goal.returns-in_default
returns-in_default g c =
    let laws : ValueLaws = record { of_walks = record { cost = c.values_on_walks.ensures.cost; walks = c.copies_as_walks.ensures }; of_levels = record { deep = c.values_that_are_read.ensures.deep; levels = c.values_that_are_read.ensures.levels }; fits = c.values_that_are_read.ensures.fits; trim_fits = c.trimmed_values.ensures.fits; trim_depth = c.trimmed_values.ensures.depth } in
    elim c.in-Err.ensures.halted.why [
      | inl stop ↦ none_read laws (words_in (g.M.ReaderArena.segments c.args.message.now)) c.args.bounds c.min-levels.result (omega (arith, c.min-levels.ensures)) c.new-limiter.result c.write_canonical.new.limiter c.in-Err.e c.new-limiter.ensures.left (λ below. c.in_default.not-NestingLimitExceeded) stop
      | inr full ↦ absurd (c.in_default.not-BufferNotLargeEnough full.why)
    ]
