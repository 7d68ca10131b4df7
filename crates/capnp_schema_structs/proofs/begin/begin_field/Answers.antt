use Rattle.std.proofs.Common.{Some, sym, ap, subst, ◌∙◌}
use Rattle.capnp_model.specs.Accepted.{schema_of}
use Rattle.capnp_units.specs.Segments.{words_in}
use Rattle.capnp_records.specs.NodeViews.{field_of, struct_of}
use Rattle.capnp_copy_arenas.proofs.lemmas.RoomLaws.{sizes_grow}
use Rattle.capnp_values_queries.specs.Structs.{nodes_around, id_of, IsRecordOf}
use Rattle.capnp_values_queries.specs.Types.{ty_of}
use Rattle.capnp_copy_arenas.specs.States.{state_in}
use Rattle.capnp_schema_structs.proofs.lemmas.Ready.{there_after, areas_inside}
use Rattle.capnp_schema_structs.proofs.lemmas.GroupSizes.{group_wide}
use Rattle.capnp_schema_structs.proofs.Begun.{group_begun, group_told, null_begun}
use Rattle.capnp_schema_structs.proofs.begin.begin_field.Goals as goal

pub returns-in-Group-clause-puts : goal.returns-in-Group-clause-puts
returns-in-Group-clause-puts g c =
    let at = state_in g.A.ReaderArena.segments g.A.BuilderArena.room g.A.BuilderArena.books in
    group_begun c.args.field (field_of c.get_proto-said.result.now) c.get_proto-said.ensures c.in-Group.schema c.in-Group.ensures.body (at c.args.arena.now) (at c.clear_field.new.arena) c.args.object (Some (record { place = c.args.object; schema = c.in-Group.schema }))
    c.clear_field.ensures.edits c.clear_field.ensures.sizes

pub returns-in-Group-clause-tells : goal.returns-in-Group-clause-tells
returns-in-Group-clause-tells g c =
    group_told c.args.field (field_of c.get_proto-said.result.now) c.get_proto-said.ensures c.in-Group.schema c.in-Group.ensures.body (words_in (g.A.ReaderArena.segments c.args.arena.now)) (words_in (g.A.ReaderArena.segments c.clear_field.new.arena)) c.args.object (ap schema_of c.in-Group.ensures.of_set)

pub returns-in-Group-clause-there : goal.returns-in-Group-clause-there
returns-in-Group-clause-there g c =
    let p = c.args.object in
    let f = c.args.field in
    let n = struct_of c.record-holder.result.now in
    let holder = subst (λ p. IsRecordOf (nodes_around p) (id_of p) n) c.parent.ensures c.record-holder.ensures in
    record {
      there = there_after (words_in (g.A.ReaderArena.segments c.args.arena.now)) (words_in (g.A.ReaderArena.segments c.clear_field.new.arena)) p c.clear_field.ensures.sizes c.requires.there;
      wide = group_wide f (field_of c.get_proto-said.result.now) c.get_proto-said.ensures n holder c.in-Group.schema c.in-Group.ensures.body p c.requires.wide;
    }

pub returns-in-Group-clause-grows : goal.returns-in-Group-clause-grows
returns-in-Group-clause-grows g c =
    sizes_grow (words_in (g.A.ReaderArena.segments c.args.arena.now)) (words_in (g.A.ReaderArena.segments c.clear_field.new.arena)) c.clear_field.ensures.sizes

pub returns-then-is_untyped-clause-puts : goal.returns-then-is_untyped-clause-puts
returns-then-is_untyped-clause-puts g c =
    let at = state_in g.A.ReaderArena.segments g.A.BuilderArena.room g.A.BuilderArena.books in
    let e = sym c.is_untyped.ensures ∙ c.if-is_untyped.true in
    null_begun c.args.field (field_of c.get_proto-said.result.now) c.get_proto-said.ensures c.in-Pointer.index (ty_of c.in-Pointer.ty) _ c.in-Pointer.ensures.body e (at c.args.arena.now) (at c.clear_field-then-is_untyped.new.arena) c.args.object
    c.clear_field-then-is_untyped.ensures.edits c.clear_field-then-is_untyped.ensures.sizes

pub returns-then-is_untyped-clause-grows : goal.returns-then-is_untyped-clause-grows
returns-then-is_untyped-clause-grows g c =
    sizes_grow (words_in (g.A.ReaderArena.segments c.args.arena.now)) (words_in (g.A.ReaderArena.segments c.clear_field-then-is_untyped.new.arena)) c.clear_field-then-is_untyped.ensures.sizes

pub clear_field-requires-clause-inside : goal.clear_field-requires-clause-inside
clear_field-requires-clause-inside g c = areas_inside c.args.field.parent c.args.object c.requires.wide

pub clear_field-requires-then-is_untyped-clause-inside : goal.clear_field-requires-then-is_untyped-clause-inside
clear_field-requires-then-is_untyped-clause-inside g c = areas_inside c.args.field.parent c.args.object c.requires.wide

pub init_slot-requires-clause-inside : goal.init_slot-requires-clause-inside
init_slot-requires-clause-inside g c = areas_inside c.args.field.parent c.args.object c.requires.wide
