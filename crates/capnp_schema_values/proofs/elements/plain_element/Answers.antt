use Rattle.std.proofs.Common.{rules}
use Rattle.capnp_model.specs.Schemas.{width}
use Rattle.capnp_records.specs.Sets.{nodes_of}
use Rattle.capnp_values_queries.specs.Types.{ty_of}
use Rattle.capnp_wire.specs.Views.{list_at, element_number}
use Rattle.capnp_copy_arenas.specs.Elements.{first_element}
use Rattle.capnp_schema_values.proofs.AcceptedLists.{plain_bytewise}
use Rattle.capnp_schema_values.proofs.PlainValues.{element_read}
use Rattle.capnp_schema_values.proofs.elements.plain_element.Goals as goal

pub new-requires-clause-bytewise : goal.new-requires-clause-bytewise
new-requires-clause-bytewise g c =
    let bytewise = plain_bytewise c.args.list (ty_of c.args.ty) c.requires.plain in
    search rules

pub returns-in-Ok : goal.returns-in-Ok
returns-in-Ok g c = λ p is_plain. (
    let o = c.args.list in
    let arena = c.args.arena.now in
    let v = list_at (g.A.ReaderArena.segments arena) (g.A.ReaderArena.nesting arena) (first_element o) o.size o.count o.data_words o.pointers in
    let read = element_read g.A.ReaderArena.segments c.in-Ok.value c.new.result c.args.index (nodes_of c.args.set.now) c.args.ty v p c.in-Ok.ensures c.new.ensures.set c.new.ensures.element_type (search rules) is_plain in
    c.plain_of.ensures p (element_number v c.args.index (width p)) is_plain read
    )
