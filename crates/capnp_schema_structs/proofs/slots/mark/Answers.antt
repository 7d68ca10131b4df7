use Rattle.std.proofs.Common.{sym, subst}
use Rattle.capnp_model.specs.Accepted.{union_area}
use Rattle.capnp_values_queries.specs.Fields.{union_in}
use Rattle.capnp_values_queries.specs.Structs.{shape_of_struct}
use Rattle.capnp_schema_structs.specs.Inside.{LieIn}
use Rattle.capnp_schema_structs.proofs.lemmas.Ready.{union_areas}
use Rattle.capnp_units.specs.Segments.{words_in}
use Rattle.capnp_schema_structs.proofs.DataWords.{data_same}
use Rattle.capnp_schema_structs.proofs.Marks.{marks_member, marks_none}
use Rattle.capnp_schema_structs.proofs.slots.mark.Goals as goal

pub returns-then-member-clause-edits : goal.returns-then-member-clause-edits
returns-then-member-clause-edits g c =
    let s = words_in (g.A.ReaderArena.segments c.args.arena.now) in
    let u = words_in (g.A.ReaderArena.segments c.set_discriminant.new.arena) in
    marks_member s u c.args.object c.args.field c.get_proto.result.now c.get_proto.ensures c.if-member.true c.parent.result c.parent.ensures c.set_discriminant.ensures.edits

pub returns-else-member-clause-edits : goal.returns-else-member-clause-edits
returns-else-member-clause-edits g c =
    let s = words_in (g.A.ReaderArena.segments c.args.arena.now) in
    marks_none s c.args.object c.args.field c.get_proto.result.now c.get_proto.ensures c.if-member.false

pub set_discriminant-requires-clause-inside : goal.set_discriminant-requires-clause-inside
set_discriminant-requires-clause-inside g c =
    let p = c.args.object in
    let h = union_areas p.data_words p.pointers (shape_of_struct c.args.field.parent) c.requires.inside in
    subst (λ x. LieIn p.data_words p.pointers (union_area (union_in (shape_of_struct x)))) (sym c.parent.ensures) h

pub returns-else-member-clause-data : goal.returns-else-member-clause-data
returns-else-member-clause-data g c = data_same (words_in (g.A.ReaderArena.segments c.args.arena.now)) c.args.object
