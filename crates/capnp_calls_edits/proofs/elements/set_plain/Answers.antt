use Rattle.std.proofs.Common.{ap, sym, ◌∙◌}
use Rattle.std.specs.Option.{option_map}
use Rattle.capnp_units.specs.Segments.{words_in}
use Rattle.capnp_copy_arenas.proofs.lemmas.RoomLaws.{sizes_grow}
use Rattle.capnp_values_queries.specs.Types.{ty_of, ty_of_variant}
use Rattle.capnp_values_queries.specs.Handles.{plain_of}
use Rattle.capnp_calls.specs.CallViews.{slot_value_view}
use Rattle.capnp_schema_lists.proofs.lemmas.Fronts.{none_written}
use Rattle.capnp_calls.specs.Contents.{bits_content}
use Rattle.capnp_calls_edits.proofs.Claims.{none_of}
use Rattle.capnp_calls_edits.proofs.ClaimsElements.{plain_never, single_never, is_void}
use Rattle.capnp_calls_edits.proofs.ElementEnds.{plain_end, void_end}
use Rattle.capnp_calls_edits.proofs.elements.set_plain.Goals as goal

pub returns-in-Some-clause-writes : goal.returns-in-Some-clause-writes
returns-in-Some-clause-writes g c around =
    let s = words_in (g.A.ReaderArena.segments c.args.arena.now) in
    let u = words_in (g.A.ReaderArena.segments c.set_front.new.arena) in
    plain_end s u c.args.list c.args.index around (ty_of c.args.ty) (slot_value_view c.args.value.now) (plain_of c.in-Some.plain) c.in-Some-bits_for.bits c.width_of.result (sym c.plain_type.ensures ∙ ap (option_map plain_of) c.in-Some.is) (sym c.in-Some-bits_for.ensures.content) c.width_of.ensures c.set_front.ensures.edits

pub returns-in-Some-clause-grows : goal.returns-in-Some-clause-grows
returns-in-Some-clause-grows g c =
    sizes_grow (words_in (g.A.ReaderArena.segments c.args.arena.now)) (words_in (g.A.ReaderArena.segments c.set_front.new.arena)) c.set_front.ensures.sizes

pub returns-in-Void-clause-writes : goal.returns-in-Void-clause-writes
returns-in-Void-clause-writes g c around =
    let s = words_in (g.A.ReaderArena.segments c.args.arena.now) in
    void_end s s c.args.list c.args.index around (ty_of c.args.ty) (slot_value_view c.args.value.now) (ap ty_of_variant (sym c.in-Void.is) ∙ c.which.ensures.ty) (none_written s c.args.list c.args.index c.requires.there.counted)

pub returns-in_default-bits_for-clause-cause : goal.returns-in_default-bits_for-clause-cause
returns-in_default-bits_for-clause-cause g c around single =
    let none = none_of c.bits_for.result c.in_default-bits_for.not-Some in
    plain_never around (ty_of c.args.ty) (slot_value_view c.args.value.now) (plain_of c.in-Some.plain) (sym c.plain_type.ensures ∙ ap (option_map plain_of) c.in-Some.is) _ (sym c.bits_for.ensures.content ∙ ap bits_content none) _

pub returns-in_default-which-clause-cause : goal.returns-in_default-which-clause-cause
returns-in_default-which-clause-cause g c around single =
    let none = none_of c.plain_type.result c.in_default.not-Some in
    single_never around (ty_of c.args.ty) (slot_value_view c.args.value.now) single (sym c.plain_type.ensures ∙ ap (option_map plain_of) none) (λ e. c.in_default-which.not-Void (is_void c.which.result (c.which.ensures.ty ∙ sym e))) _
