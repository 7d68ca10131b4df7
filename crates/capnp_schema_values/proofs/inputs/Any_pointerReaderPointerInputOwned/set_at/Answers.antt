use Rattle.std.proofs.Common.{ap, sym, subst, ◌∙◌}
use Rattle.capnp_units.specs.Segments.{words_in}
use Rattle.capnp_wire_objects.specs.Places.{place_view}
use Rattle.capnp_wire.specs.Views.{seen_pointer}
use Rattle.capnp_layout_builders.specs.Copied.{CopiesPointer}
use Rattle.capnp_values.specs.Sources.{WithoutLimit, pointer_seen, null_root_segments}
use Rattle.capnp_schema_values.proofs.InputGrowth.{copied_grows}
use Rattle.capnp_schema_values.proofs.inputs.Any_pointerReaderPointerInputOwned.set_at.Goals as goal

pub returns-in-Message-clause-sets : goal.returns-in-Message-clause-sets
returns-in-Message-clause-sets g c =
    let s = words_in (g.A.ReaderArena.segments c.args.memory.now.arena) in
    let u = words_in (g.A.ReaderArena.segments c.put_pointer.new.memory.arena) in
    subst (λ v. WithoutLimit (CopiesPointer v s u (place_view c.args.place)) c.put_pointer.result) (sym (ap (pointer_seen g.B.ReaderArena.segments) (sym c.source.ensures ∙ c.in-Message.is))) (c.new-unlimited.result, c.put_pointer.new.limiter, c.new-unlimited.ensures.left, c.put_pointer.ensures.copy)

pub returns-in-Message-clause-grows : goal.returns-in-Message-clause-grows
returns-in-Message-clause-grows g c =
    let s = words_in (g.A.ReaderArena.segments c.args.memory.now.arena) in
    let u = words_in (g.A.ReaderArena.segments c.put_pointer.new.memory.arena) in
    copied_grows (seen_pointer g.B.ReaderArena.segments c.in-Message.pointer) s u (place_view c.args.place) c.put_pointer.result (c.new-unlimited.result, c.put_pointer.new.limiter, c.new-unlimited.ensures.left, c.put_pointer.ensures.copy)

pub returns-in-Default-clause-sets : goal.returns-in-Default-clause-sets
returns-in-Default-clause-sets g c =
    let s = words_in (g.A.ReaderArena.segments c.args.memory.now.arena) in
    let u = words_in (g.A.ReaderArena.segments c.put_pointer-in-Default.new.memory.arena) in
    subst (λ v. WithoutLimit (CopiesPointer v s u (place_view c.args.place)) c.put_pointer-in-Default.result) (sym (ap (pointer_seen g.B.ReaderArena.segments) (sym c.source.ensures ∙ c.in-Default.is))) (c.new-unlimited.result, c.put_pointer-in-Default.new.limiter, c.new-unlimited.ensures.left, c.put_pointer-in-Default.ensures.copy)

pub returns-in-Default-clause-grows : goal.returns-in-Default-clause-grows
returns-in-Default-clause-grows g c =
    let s = words_in (g.A.ReaderArena.segments c.args.memory.now.arena) in
    let u = words_in (g.A.ReaderArena.segments c.put_pointer-in-Default.new.memory.arena) in
    copied_grows (seen_pointer null_root_segments c.in-Default.pointer) s u (place_view c.args.place) c.put_pointer-in-Default.result (c.new-unlimited.result, c.put_pointer-in-Default.new.limiter, c.new-unlimited.ensures.left, c.put_pointer-in-Default.ensures.copy)
