use Rattle.std.proofs.Common.{subst}
use Rattle.capnp_units.specs.Segments.{words_in}
use Rattle.capnp_wire_objects.specs.Places.{place_view}
use Rattle.capnp_layout_builders.specs.Copied.{SetsStruct}
use Rattle.capnp_values.specs.Sources.{WithoutLimit, struct_seen}
use Rattle.capnp_schema_structs.specs.Sources.{source_view}
use Rattle.capnp_schema_structs.specs.declared.values.Source.TheVariants as source
use Rattle.capnp_schema_structs.proofs.lemmas.Sources.{source_grows}
use Rattle.capnp_schema_values.proofs.inputs.Dynamic_structReaderPointerInputOwned.set_at.Goals as goal

pub returns-clause-sets : goal.returns-clause-sets
returns-clause-sets g c =
    let s = words_in (g.A.ReaderArena.segments c.args.memory.now.arena) in
    let u = words_in (g.A.ReaderArena.segments c.put_source.new.memory.arena) in
    subst (λ x. WithoutLimit (SetsStruct (struct_seen g.B.ReaderArena.segments x) s u (place_view c.args.place)) c.put_source.result) c.source.ensures c.put_source.ensures.copy

pub returns-clause-grows : goal.returns-clause-grows
returns-clause-grows g c =
    let s = words_in (g.A.ReaderArena.segments c.args.memory.now.arena) in
    let u = words_in (g.A.ReaderArena.segments c.put_source.new.memory.arena) in
    source_grows (source_view g.B.ReaderArena.segments (source.Struct c.source.result)) s u (place_view c.args.place) c.put_source.result c.put_source.ensures.copy
