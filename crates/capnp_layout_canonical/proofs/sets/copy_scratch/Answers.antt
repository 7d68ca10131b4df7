-- A copy under no limit.
use Rattle.std.proofs.Common.{ℕ, subst}
use Rattle.capnp_units.specs.Segments.{words_in}
use Rattle.capnp_wire_objects.specs.Places.{place_view}
use Rattle.capnp_layout_canonical.specs.Scratch.{CopiesScratch}
use Rattle.capnp_layout_canonical.proofs.sets.copy_scratch.Goals as goal

pub returns-clause-copy : goal.returns-clause-copy
returns-clause-copy g c =
    let d = words_in (g.C.ReaderArena.segments c.args.scratch.now.memory.now.arena) in
    let s = words_in (g.A.ReaderArena.segments c.args.builder.now.memory.now.arena) in
    let u = words_in (g.A.ReaderArena.segments c.copy_canonical_from.new.arena) in
    subst (λ (n : ℕ). CopiesScratch n (record { words = d; slot = place_view c.args.scratch.now.place; lent = c.args.lent.now; after = c.copy_canonical_from.new.lent }) (record { old = s; new = u; slot = place_view c.args.builder.now.place }) c.copy_canonical_from.result) c.levels_above-deep.ensures
    (record {
      start = c.new-unlimited.result;
      end = c.copy_canonical_from.new.limiter;
      free = record { endless = c.new-unlimited.ensures.limit; unused = c.new-unlimited.ensures.granted };
      through = record { copy = c.copy_canonical_from.ensures.copy; few = c.copy_canonical_from.ensures.few; written = c.copy_canonical_from.ensures.lent };
    })
