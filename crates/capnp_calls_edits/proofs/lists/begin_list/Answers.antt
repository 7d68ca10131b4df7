use Rattle.std.proofs.Common.{Ok, sym, ap, subst, ◌∙◌}
use Rattle.std.specs.Prelude.{option_map, option_copied}
use Rattle.capnp_model.specs.Accepted.{schema_of}
use Rattle.capnp_model.specs.Coverage.{Grows}
use Rattle.capnp_model.specs.Segments.{Segments}
use Rattle.capnp_units.specs.Segments.{words_in}
use Rattle.capnp_units.specs.declared.sizes.StructSize.{StructSize}
use Rattle.capnp_wire_objects.specs.Places.{place_view}
use Rattle.capnp_records.specs.Sets.{nodes_of}
use Rattle.capnp_values_queries.specs.Structs.{id_of}
use Rattle.capnp_values_queries.specs.Types.{ty_of}
use Rattle.capnp_model.specs.Schemas.{words_of_shape, pointers_of_shape}
use Rattle.capnp_layout_builders.proofs.lemmas.Begun.{Laws, made_then}
use Rattle.capnp_copy_widening.specs.MovedElements.{as_structs}
use Rattle.capnp_schema_structs.proofs.lemmas.Grown.{begin_grows, gets_grow}
use Rattle.std.proofs.lemmas.Result.{err_from_is_err_and}
use Rattle.capnp_units.specs.declared.errors.Error.{Error}
use Rattle.capnp_copy_arenas.specs.Refusals.{IsSizeOrRefusal}
use Rattle.capnp_copy_arenas.specs.States.{state_in}
use Rattle.capnp_calls_edits.proofs.ClaimsBehind.{begun_told}
use Rattle.capnp_calls_edits.proofs.ClaimsLists.{no_structs_claimed}
use Rattle.capnp_calls_edits.proofs.BegunLists.{structs_value, other_value}
use Rattle.capnp_calls_edits.proofs.lists.begin_list.Goals as goal

pub returns-in_err-get_struct_list-in-Some-clause-grows : goal.returns-in_err-get_struct_list-in-Some-clause-grows
returns-in_err-get_struct_list-in-Some-clause-grows g c = λ n t own. (
    let s : Segments = words_in (g.A.ReaderArena.segments c.args.arena.now) in
    let m : Segments = words_in (g.A.ReaderArena.segments c.begin.new.arena) in
    subst (λ (x : Segments). Grows s x) (sym (ap words_in c.in_err-get_struct_list-in-Some.ensures.refused)) (begin_grows (option_copied c.args.default) s m (place_view c.args.slot) (Ok tt) c.in_ok-begin.ensures.begins)
    )

pub returns-in_ok-get_struct_list-in-Some-clause-value : goal.returns-in_ok-get_struct_list-in-Some-clause-value
returns-in_ok-get_struct_list-in-Some-clause-value g c =
    let s : Segments = words_in (g.A.ReaderArena.segments c.args.arena.now) in
    let m : Segments = words_in (g.A.ReaderArena.segments c.begin.new.arena) in
    let u : Segments = words_in (g.A.ReaderArena.segments c.get_struct_list.new.arena) in
    let laws : Laws = record {
      none = c.changes_of_values.ensures.none;
      again = c.changes_of_values.ensures.again;
      owned = c.changes_of_values.ensures.owned;
      more_owned = c.changes_with_more_levels.ensures.owned;
      more_replaced = c.changes_with_more_levels.ensures.replaced;
    } in
    let id = id_of c.in-Some.schema in
    structs_value laws (option_copied c.args.default) s m (place_view c.args.slot) tt c.in_ok-begin.ensures.begins (schema_of (nodes_of c.args.set.now)) (ty_of c.args.ty) u id c.struct_size.result.data_words c.struct_size.result.pointers (sym c.in-Some.ensures.named)
    (ap (λ (x : StructSize). x.data_words) c.struct_size.ensures ∙ ap (λ ns. words_of_shape ((schema_of ns).shape_of id)) c.in-Some.ensures.nodes) (ap (λ (x : StructSize). x.pointers) c.struct_size.ensures ∙ ap (λ ns. pointers_of_shape ((schema_of ns).shape_of id)) c.in-Some.ensures.nodes) c.in_ok-get_struct_list-in-Some.ensures.value

pub returns-in_ok-get_struct_list-in-Some-clause-grows : goal.returns-in_ok-get_struct_list-in-Some-clause-grows
returns-in_ok-get_struct_list-in-Some-clause-grows g c = λ n t own. (
    let s : Segments = words_in (g.A.ReaderArena.segments c.args.arena.now) in
    let m : Segments = words_in (g.A.ReaderArena.segments c.begin.new.arena) in
    let u : Segments = words_in (g.A.ReaderArena.segments c.get_struct_list.new.arena) in
    let laws : Laws = record {
      none = c.changes_of_values.ensures.none;
      again = c.changes_of_values.ensures.again;
      owned = c.changes_of_values.ensures.owned;
      more_owned = c.changes_with_more_levels.ensures.owned;
      more_replaced = c.changes_with_more_levels.ensures.replaced;
    } in
    let value = made_then laws (option_copied c.args.default) s m u (place_view c.args.slot) (as_structs c.struct_size.result.data_words c.struct_size.result.pointers) tt c.in_ok-begin.ensures.begins c.in_ok-get_struct_list-in-Some.ensures.value in
    gets_grow (option_copied c.args.default) s u (place_view c.args.slot) (as_structs c.struct_size.result.data_words c.struct_size.result.pointers) value n t own
    )

pub returns-in-None-clause-value : goal.returns-in-None-clause-value
returns-in-None-clause-value g c =
    let s : Segments = words_in (g.A.ReaderArena.segments c.args.arena.now) in
    let m : Segments = words_in (g.A.ReaderArena.segments c.begin.new.arena) in
    let laws : Laws = record {
      none = c.changes_of_values.ensures.none;
      again = c.changes_of_values.ensures.again;
      owned = c.changes_of_values.ensures.owned;
      more_owned = c.changes_with_more_levels.ensures.owned;
      more_replaced = c.changes_with_more_levels.ensures.replaced;
    } in
    other_value laws (option_copied c.args.default) s m (place_view c.args.slot) tt c.in_ok-begin.ensures.begins (schema_of (nodes_of c.args.set.now)) (ty_of c.args.ty) (sym c.struct_of_type.ensures.named ∙ ap (option_map id_of) c.in-None.is)

pub returns-in-None-clause-grows : goal.returns-in-None-clause-grows
returns-in-None-clause-grows g c = λ n t own.
    begin_grows (option_copied c.args.default) (words_in (g.A.ReaderArena.segments c.args.arena.now)) (words_in (g.A.ReaderArena.segments c.begin.new.arena)) (place_view c.args.slot) (Ok tt) c.in_ok-begin.ensures.begins

pub returns-in_err-begin-clause-cause : goal.returns-in_err-begin-clause-cause
returns-in_err-begin-clause-cause g c d holds =
    let at = state_in g.A.ReaderArena.segments g.A.BuilderArena.room g.A.BuilderArena.books in
    let told : Error → Type 0 = IsSizeOrRefusal g.A.BuilderArena.refuses in
    let h = err_from_is_err_and c.from_residual.result c.from_residual.ensures.1 in
    rw (h.1, h.2) (λ n t own sound. begun_told (option_copied c.args.default) d holds (at c.args.arena.now) (at c.begin.new.arena) (place_view c.args.slot) told c.in_err-begin.field-0.0 c.in_err-begin.ensures.told)

pub returns-in_err-get_struct_list-in-Some-clause-cause : goal.returns-in_err-get_struct_list-in-Some-clause-cause
returns-in_err-get_struct_list-in-Some-clause-cause g c d holds =
    let at = state_in g.A.ReaderArena.segments g.A.BuilderArena.room g.A.BuilderArena.books in
    let told : Error → Type 0 = IsSizeOrRefusal g.A.BuilderArena.refuses in
    let h = err_from_is_err_and c.from_residual-in_err-get_struct_list-in-Some.result c.from_residual-in_err-get_struct_list-in-Some.ensures.1 in
    rw (h.1, h.2) (no_structs_claimed (option_copied c.args.default) d holds c.args.slot (schema_of (nodes_of c.args.set.now)) (ty_of c.args.ty) c.gets_are_readings.ensures.lists (at c.args.arena.now) (at c.begin.new.arena) told c.in_err-get_struct_list-in-Some.field-0.0 (id_of c.in-Some.schema) (sym c.in-Some.ensures.named)
    (record { begins = c.in_ok-begin.ensures.begins; tells = c.in_ok-begin.ensures.told }) c.in_err-get_struct_list-in-Some.ensures.cause)
