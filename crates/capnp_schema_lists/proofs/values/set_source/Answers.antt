use Rattle.std.proofs.Common.{arith}
use Rattle.capnp_units.specs.Segments.{words_in}
use Rattle.capnp_wire_objects.specs.Places.{place_view}
use Rattle.capnp_schema_structs.specs.Sources.{source_view}
use Rattle.capnp_schema_structs.proofs.lemmas.Sources.{source_grows, source_left}
use Rattle.capnp_schema_lists.proofs.Pointers.{pointer_there}
use Rattle.capnp_schema_lists.proofs.AnyValues.{copy_put}
use Rattle.capnp_schema_lists.proofs.values.set_source.Goals as goal

pub put_source-requires : goal.put_source-requires
put_source-requires g c =
    let x = pointer_there (words_in (g.A.ReaderArena.segments c.args.memory.now.arena)) c.args.list c.args.index c.element_pointer.result c.requires.pointer c.requires.index c.element_pointer.ensures.place c.requires.there in
    record { there = x.0; near = (let near = x.1 in omega (arith, near)) }

pub returns : goal.returns
returns g c =
    let s = words_in (g.A.ReaderArena.segments c.args.memory.now.arena) in
    let u = words_in (g.A.ReaderArena.segments c.put_source.new.memory.arena) in
    let x = source_view g.B.ReaderArena.segments c.args.source in
    let q = c.element_pointer.result in
    record {
      puts = copy_put s u c.args.list c.args.index q c.requires.pointer c.requires.index c.element_pointer.ensures.place c.requires.there x c.put_source.result c.put_source.ensures.copy;
      stands = source_left x s u (place_view q) c.put_source.result c.put_source.ensures.copy;
      grows = source_grows x s u (place_view q) c.put_source.result c.put_source.ensures.copy;
      books = c.put_source.ensures.books;
    }
