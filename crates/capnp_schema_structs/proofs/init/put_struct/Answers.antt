use Rattle.std.proofs.Common.{◌+◌, ap}
use Rattle.capnp_model.specs.Trees.{structure, none, resized}
use Rattle.capnp_units.specs.declared.sizes.StructSize.{StructSize}
use Rattle.capnp_values_queries.specs.Structs.{shape_of_struct}
use Rattle.capnp_layout_builders.proofs.lemmas.Makes.{makes_if}
use Rattle.capnp_copy_arenas.specs.States.{state_in}
use Rattle.capnp_schema_structs.proofs.InitSlots.{empty_made, not_made}
use Rattle.capnp_schema_structs.proofs.init.put_struct.Goals as goal

pub returns-clause-made : goal.returns-clause-made
returns-clause-made g c =
    let at = state_in g.A.ReaderArena.segments g.A.BuilderArena.room g.A.BuilderArena.books in
    let old = at c.args.arena.now in
    let new = at c.init_struct.new.arena in
    let size = c.struct_size.result in
    let words = ap (λ (x : StructSize). x.data_words) c.struct_size.ensures in
    let pointers = ap (λ (x : StructSize). x.pointers) c.struct_size.ensures in
    let e = c.init_struct.ensures in
    empty_made old new c.args.slot (shape_of_struct c.args.schema) size.data_words size.pointers words pointers c.init_struct.result
    (makes_if old new c.args.slot (structure size.data_words 0 (resized size.pointers none)) (size.data_words + size.pointers) c.init_struct.result e.value e.taken e.bound e.books)

pub returns-clause-refused : goal.returns-clause-refused
returns-clause-refused g c =
    let at = state_in g.A.ReaderArena.segments g.A.BuilderArena.room g.A.BuilderArena.books in
    let size = c.struct_size.result in
    let words = ap (λ (x : StructSize). x.data_words) c.struct_size.ensures in
    let pointers = ap (λ (x : StructSize). x.pointers) c.struct_size.ensures in
    let e = c.init_struct.ensures in
    not_made (at c.args.arena.now) (at c.init_struct.new.arena) c.args.slot (shape_of_struct c.args.schema) size.data_words size.pointers words pointers c.init_struct.result e.kind e.full e.refused e.books
