use Rattle.capnp_units.specs.Segments.{words_in}
use Rattle.capnp_layout_builders.specs.Copied.{TakesOver}
use Rattle.capnp_values.specs.Sources.{WithoutLimit, struct_seen}
use Rattle.capnp_schema_lists.proofs.Parts.{struct_there}
use Rattle.capnp_schema_lists.proofs.AnyValues.{content_taken, content_grows}
use Rattle.capnp_schema_lists.proofs.values.set_struct.Goals as goal

pub copy_any-requires : goal.copy_any-requires
copy_any-requires g c = struct_there (words_in (g.A.ReaderArena.segments c.args.memory.now.arena)) c.args.list c.args.index c.element_struct.result c.requires.index c.element_struct.ensures c.requires.there

pub returns : goal.returns
returns g c =
    let s = words_in (g.A.ReaderArena.segments c.args.memory.now.arena) in
    let u = words_in (g.A.ReaderArena.segments c.copy_any.new.memory.arena) in
    let v = struct_seen g.B.ReaderArena.segments c.args.source in
    let h : WithoutLimit (TakesOver v s u c.element_struct.result) c.copy_any.result = (c.new-unlimited.result, c.copy_any.new.limiter, c.new-unlimited.ensures.left, c.copy_any.ensures.takes) in
    record {
      takes = content_taken s u c.args.list c.args.index c.element_struct.result c.requires.index c.element_struct.ensures v c.copy_any.result h;
      grows = content_grows s u c.args.list c.args.index c.element_struct.result c.requires.index c.element_struct.ensures v c.copy_any.result h;
      books = c.copy_any.ensures.books;
    }
