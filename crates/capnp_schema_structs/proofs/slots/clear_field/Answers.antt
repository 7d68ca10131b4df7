use Rattle.capnp_units.specs.Segments.{words_in}
use Rattle.capnp_records.specs.NodeViews.{field_of}
use Rattle.capnp_values_queries.specs.Handles.{body_of_place}
use Rattle.capnp_schema_structs.proofs.lemmas.Ready.{there_after}
use Rattle.capnp_schema_structs.proofs.lemmas.GroupFields.{member_inside}
use Rattle.capnp_schema_structs.proofs.Cleared.{clears_field}
use Rattle.capnp_schema_structs.proofs.slots.clear_field.Goals as goal

pub clear_body-requires-clause-there : goal.clear_body-requires-clause-there
clear_body-requires-clause-there g c =
    there_after (words_in (g.A.ReaderArena.segments c.args.arena.now)) (words_in (g.A.ReaderArena.segments c.mark.new.arena)) c.args.object c.mark.ensures.sizes c.requires.there

pub clear_body-requires-clause-inside : goal.clear_body-requires-clause-inside
clear_body-requires-clause-inside g c =
    member_inside c.args.field (field_of c.get_proto-said.result.now) c.get_proto-said.ensures (body_of_place c.place.result) c.place.ensures.body c.args.object.data_words c.args.object.pointers c.requires.inside

pub returns-clause-edits : goal.returns-clause-edits
returns-clause-edits g c =
    clears_field c.args.field (field_of c.get_proto-said.result.now) c.get_proto-said.ensures (body_of_place c.place.result) c.place.ensures.body
    (words_in (g.A.ReaderArena.segments c.args.arena.now)) (words_in (g.A.ReaderArena.segments c.mark.new.arena)) (words_in (g.A.ReaderArena.segments c.clear_body.new.arena)) c.args.object c.mark.ensures.edits c.clear_body.ensures.edits
