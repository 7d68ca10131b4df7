use Rattle.std.proofs.Common.{[], Option, Ok, Err, IfErr, OnOk, sym, subst}
use Rattle.std.proofs.lemmas.Result.{err_from_is_err_and}
use Rattle.capnp_units.specs.declared.errors.Error.{Error}
use Rattle.capnp_copy_arenas.specs.Refusals.{IsSizeOrRefusal}
use Rattle.capnp_schema_structs.specs.Calls.{edit_of}
use Rattle.capnp_schema_structs.specs.declared.init.Part.{Part}
use Rattle.capnp_calls_edits.proofs.ClaimsEnds.{put_claimed, init_never, initn_never, get_claimed}
use Rattle.capnp_units.specs.Segments.{words_in}
use Rattle.capnp_model.specs.Calls.{clear, init, initn}
use Rattle.capnp_values_queries.specs.Handles.{entry_of_field}
use Rattle.capnp_calls.specs.CallViews.{action_view}
use Rattle.capnp_schema_structs.proofs.lemmas.Ready.{areas_inside}
use Rattle.capnp_calls_edits.specs.Written.{WritesField, WhereFieldTakes}
use Rattle.capnp_values_queries.specs.Structs.{schema_around}
use Rattle.capnp_schema_structs.specs.Begun.{begun_field}
use Rattle.capnp_schema_structs.specs.NewLists.{initn_field}
use Rattle.capnp_copy_arenas.specs.States.{state_in}
use Rattle.capnp_calls_edits.proofs.Ends.{edited_end, put_end}
use Rattle.capnp_copy_arenas.proofs.lemmas.RoomLaws.{sizes_grow}
use Rattle.capnp_calls_edits.proofs.end.write_end.Goals as goal

pub clear_field-requires-clause-inside : goal.clear_field-requires-clause-inside
clear_field-requires-clause-inside g c = areas_inside c.args.field.parent c.args.object c.requires.wide

pub returns-in-Clear-clause-writes : goal.returns-in-Clear-clause-writes
returns-in-Clear-clause-writes g c =
    let s = words_in (g.A.ReaderArena.segments c.args.arena.now) in
    let u = words_in (g.A.ReaderArena.segments c.clear_field.new.arena) in
    subst (λ a. WritesField s u c.args.object c.args.field (record { path = []; verb = action_view a })) (sym c.in-Clear.is) (edited_end s u c.args.object c.args.field clear c.clear_field.ensures.edits)

pub initn_slot-requires-clause-inside : goal.initn_slot-requires-clause-inside
initn_slot-requires-clause-inside g c = areas_inside c.args.field.parent c.args.object c.requires.wide

pub returns-in_ok-begin_field-in-Init-clause-writes : goal.returns-in_ok-begin_field-in-Init-clause-writes
returns-in_ok-begin_field-in-Init-clause-writes g c =
    let at = state_in g.A.ReaderArena.segments g.A.BuilderArena.room g.A.BuilderArena.books in
    let s = words_in (g.A.ReaderArena.segments c.args.arena.now) in
    let u = words_in (g.A.ReaderArena.segments c.begin_field.new.arena) in
    let f = c.args.field in
    subst (λ a. WritesField s u c.args.object f (record { path = []; verb = action_view a })) (sym c.in-Init.is)
    (put_end (at c.args.arena.now) (at c.begin_field.new.arena) c.args.object f init (begun_field (schema_around f.parent) (entry_of_field f)) (Ok c.in_ok-begin_field-in-Init.field-0) c.in_ok-begin_field-in-Init.ensures.puts)

pub returns-in-Initn-clause-writes : goal.returns-in-Initn-clause-writes
returns-in-Initn-clause-writes g c =
    let at = state_in g.A.ReaderArena.segments g.A.BuilderArena.room g.A.BuilderArena.books in
    let s = words_in (g.A.ReaderArena.segments c.args.arena.now) in
    let u = words_in (g.A.ReaderArena.segments c.initn_slot.new.arena) in
    let f = c.args.field in
    let n = c.in-Initn.count in
    subst (λ a. OnOk c.initn_slot.result (WritesField s u c.args.object f (record { path = []; verb = action_view a }))) (sym c.in-Initn.is)
    (put_end (at c.args.arena.now) (at c.initn_slot.new.arena) c.args.object f (initn n) (initn_field (schema_around f.parent) n (entry_of_field f)) c.initn_slot.result c.initn_slot.ensures.puts)

pub returns-in-Clear-clause-grows : goal.returns-in-Clear-clause-grows
returns-in-Clear-clause-grows g c = sizes_grow (words_in (g.A.ReaderArena.segments c.args.arena.now)) (words_in (g.A.ReaderArena.segments c.clear_field.new.arena)) c.clear_field.ensures.sizes

pub returns-in_err-begin_field-in-Init-clause-cause : goal.returns-in_err-begin_field-in-Init-clause-cause
returns-in_err-begin_field-in-Init-clause-cause g c =
    let at = state_in g.A.ReaderArena.segments g.A.BuilderArena.room g.A.BuilderArena.books in
    let told : Error → Type 0 = IsSizeOrRefusal g.A.BuilderArena.refuses in
    let f = c.args.field in
    let e : Error = c.in_err-begin_field-in-Init.field-0.0 in
    let h = err_from_is_err_and c.from_residual.result c.from_residual.ensures.1 in
    let claimed : WhereFieldTakes f init (told e) = put_claimed f {X = Option Part} (at c.args.arena.now) (at c.begin_field.new.arena) c.args.object (edit_of f init) (begun_field (schema_around f.parent) (entry_of_field f)) told init (Err e) (init_never f) c.in_err-begin_field-in-Init.ensures.puts c.in_err-begin_field-in-Init.ensures.cause in
    rw (h.1, h.2) (subst (λ a. WhereFieldTakes f (action_view a) (told e)) (sym c.in-Init.is) claimed)

pub returns-in-Initn-clause-cause : goal.returns-in-Initn-clause-cause
returns-in-Initn-clause-cause g c =
    let at = state_in g.A.ReaderArena.segments g.A.BuilderArena.room g.A.BuilderArena.books in
    let told : Error → Type 0 = IsSizeOrRefusal g.A.BuilderArena.refuses in
    let f = c.args.field in
    let n = c.in-Initn.count in
    subst (λ a. IfErr c.initn_slot.result (λ e. WhereFieldTakes f (action_view a) (told e))) (sym c.in-Initn.is)
    (put_claimed f (at c.args.arena.now) (at c.initn_slot.new.arena) c.args.object (edit_of f (initn n)) (initn_field (schema_around f.parent) n (entry_of_field f)) told (initn n) c.initn_slot.result (initn_never f n) c.initn_slot.ensures.puts c.initn_slot.ensures.cause)

pub returns-in-Get-clause-cause : goal.returns-in-Get-clause-cause
returns-in-Get-clause-cause g c =
    let f = c.args.field in
    let Claim : Type 0 = IsSizeOrRefusal g.A.BuilderArena.refuses c.from.result in
    subst (λ a. WhereFieldTakes f (action_view a) Claim) (sym c.in-Get.is) (get_claimed f Claim)

pub returns-in-Set-clause-cause : goal.returns-in-Set-clause-cause
returns-in-Set-clause-cause g c =
    subst (λ a. IfErr c.set_value.result (λ e. WhereFieldTakes c.args.field (action_view a) (IsSizeOrRefusal g.A.BuilderArena.refuses e))) (sym c.in-Set.is) c.set_value.ensures.cause
