-- A text or data, or a single value.
use Rattle.std.proofs.Common.{ap, sym, ◌∙◌}
use Rattle.std.specs.Option.{option_map}
use Rattle.capnp_units.specs.Segments.{words_in}
use Rattle.capnp_copy_arenas.proofs.lemmas.RoomLaws.{sizes_grow}
use Rattle.capnp_values_queries.specs.Types.{ty_of}
use Rattle.capnp_schema_structs.specs.Blobs.{list_bytes_of}
use Rattle.capnp_copy_arenas.specs.States.{state_in}
use Rattle.capnp_schema_lists.proofs.Contents.{has_pointer, puts_blob, puts_single, single_cause}
use Rattle.capnp_copy_arenas.specs.Refusals.{IsSizeOrRefusal}
use Rattle.capnp_schema_structs.proofs.lemmas.Causes.{caused_if}
use Rattle.capnp_schema_lists.specs.Elements.{flat_element}
use Rattle.capnp_schema_lists.proofs.elements.set_flat.Goals as goal

pub put_blob-requires-clause-pointer : goal.put_blob-requires-clause-pointer
put_blob-requires-clause-pointer g c =
    has_pointer c.args.value.now c.args.list (ty_of c.args.ty) (list_bytes_of c.in-Some.blob) (sym c.blob_for.ensures ∙ ap (option_map list_bytes_of) c.in-Some.is) c.requires.holds

pub returns-in-Some-clause-puts : goal.returns-in-Some-clause-puts
returns-in-Some-clause-puts g c =
    let at = state_in g.A.ReaderArena.segments g.A.BuilderArena.room g.A.BuilderArena.books in
    puts_blob c.args.value.now (ty_of c.args.ty) (list_bytes_of c.in-Some.blob) (sym c.blob_for.ensures ∙ ap (option_map list_bytes_of) c.in-Some.is)
    (at c.args.arena.now) (at c.put_blob.new.arena) c.args.list c.args.index c.put_blob.result c.put_blob.ensures.puts c.put_blob.ensures.refused

pub returns-in-None-clause-puts : goal.returns-in-None-clause-puts
returns-in-None-clause-puts g c =
    let at = state_in g.A.ReaderArena.segments g.A.BuilderArena.room g.A.BuilderArena.books in
    puts_single c.args.value.now (ty_of c.args.ty) (sym c.blob_for.ensures ∙ ap (option_map list_bytes_of) c.in-None.is)
    (at c.args.arena.now) (at c.set_single.new.arena) c.args.list c.args.index c.set_single.result c.set_single.ensures.answer c.set_single.ensures.edits c.set_single.ensures.sizes

pub returns-in-None-clause-grows : goal.returns-in-None-clause-grows
returns-in-None-clause-grows g c =
    sizes_grow (words_in (g.A.ReaderArena.segments c.args.arena.now)) (words_in (g.A.ReaderArena.segments c.set_single.new.arena)) c.set_single.ensures.sizes

pub returns-in-Some-clause-cause : goal.returns-in-Some-clause-cause
returns-in-Some-clause-cause g c = caused_if (flat_element c.args.value.now (ty_of c.args.ty)) (IsSizeOrRefusal g.A.BuilderArena.refuses) c.put_blob.result c.put_blob.ensures.cause

pub returns-in-None-clause-cause : goal.returns-in-None-clause-cause
returns-in-None-clause-cause g c =
    single_cause c.args.value.now (ty_of c.args.ty) (sym c.blob_for.ensures ∙ ap (option_map list_bytes_of) c.in-None.is) (IsSizeOrRefusal g.A.BuilderArena.refuses) c.set_single.result
