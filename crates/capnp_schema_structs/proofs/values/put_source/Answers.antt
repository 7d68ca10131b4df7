-- A struct or a list.
use Rattle.std.proofs.Common.{ap, sym, subst}
use Rattle.capnp_units.specs.Segments.{words_in}
use Rattle.capnp_wire_objects.specs.Places.{place_view}
use Rattle.capnp_values.specs.Sources.{WithoutLimit}
use Rattle.capnp_schema_structs.specs.Sources.{source_view, SetsSource}
use Rattle.capnp_schema_structs.proofs.values.put_source.Goals as goal

pub returns-in-Struct-clause-copy : goal.returns-in-Struct-clause-copy
returns-in-Struct-clause-copy g c =
    let s = words_in (g.A.ReaderArena.segments c.args.memory.now.arena) in
    let u = words_in (g.A.ReaderArena.segments c.put_struct.new.memory.arena) in
    subst (λ x. WithoutLimit (SetsSource x s u (place_view c.args.slot)) c.put_struct.result) (sym (ap (source_view g.B.ReaderArena.segments) c.in-Struct.is)) (c.new-unlimited.result, c.put_struct.new.limiter, c.new-unlimited.ensures.left, c.put_struct.ensures.copy)

pub returns-in-List-clause-copy : goal.returns-in-List-clause-copy
returns-in-List-clause-copy g c =
    let s = words_in (g.A.ReaderArena.segments c.args.memory.now.arena) in
    let u = words_in (g.A.ReaderArena.segments c.put_list.new.memory.arena) in
    subst (λ x. WithoutLimit (SetsSource x s u (place_view c.args.slot)) c.put_list.result) (sym (ap (source_view g.B.ReaderArena.segments) c.in-List.is)) (c.new-unlimited.result, c.put_list.new.limiter, c.new-unlimited.ensures.left, c.put_list.ensures.copy)
