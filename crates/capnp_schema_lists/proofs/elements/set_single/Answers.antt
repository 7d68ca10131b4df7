-- A plain value, or none.
use Rattle.std.proofs.Common.{ap, sym, ◌∙◌}
use Rattle.capnp_model.specs.Segments.{Segments}
use Rattle.capnp_units.specs.Segments.{words_in}
use Rattle.std.specs.Option.{option_map}
use Rattle.capnp_values_queries.specs.Types.{ty_of, ty_of_variant}
use Rattle.capnp_values_queries.specs.Handles.{plain_of}
use Rattle.capnp_schema_lists.specs.Elements.{single_edit}
use Rattle.capnp_schema_lists.proofs.lemmas.Fronts.{none_written, edits_as, plain_put, void_put}
use Rattle.capnp_schema_lists.proofs.elements.set_single.Goals as goal

pub returns-in-Some-clause-edits : goal.returns-in-Some-clause-edits
returns-in-Some-clause-edits g c =
    let s : Segments = words_in (g.A.ReaderArena.segments c.args.arena.now) in
    let u : Segments = words_in (g.A.ReaderArena.segments c.set_front.new.arena) in
    edits_as s u c.args.list _ (single_edit c.args.value.now (ty_of c.args.ty)) c.args.index (plain_put c.args.value.now (ty_of c.args.ty) (plain_of c.in-Some.plain) c.in-Some-bits_for.bits c.width_of.result (sym c.plain_type.ensures ∙ ap (option_map plain_of) c.in-Some.is) (sym c.bits_for.ensures.bits ∙ c.in-Some-bits_for.is) c.width_of.ensures) c.set_front.ensures.edits

pub returns-in-Void-clause-edits : goal.returns-in-Void-clause-edits
returns-in-Void-clause-edits g c =
    let s : Segments = words_in (g.A.ReaderArena.segments c.args.arena.now) in
    edits_as s s c.args.list _ (single_edit c.args.value.now (ty_of c.args.ty)) c.args.index (void_put c.args.value.now (ty_of c.args.ty) (ap ty_of_variant (sym c.in-Void.is) ∙ c.which.ensures.ty)) (none_written s c.args.list c.args.index c.requires.there.counted)
