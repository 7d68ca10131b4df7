use Rattle.std.proofs.Common.{[], IfErr, OnOk, sym, subst}
use Rattle.capnp_units.specs.declared.errors.Error.{Error}
use Rattle.capnp_copy_arenas.specs.Refusals.{IsSizeOrRefusal}
use Rattle.capnp_model.specs.Edits.{edit_element}
use Rattle.capnp_calls_edits.proofs.ClaimsElements.{put_claimed, initn_never, init_claimed, clear_claimed, get_claimed}
use Rattle.capnp_model.specs.Accepted.{schema_of}
use Rattle.capnp_model.specs.Calls.{initn, element_content}
use Rattle.capnp_units.specs.Segments.{words_in}
use Rattle.capnp_records.specs.Sets.{nodes_of}
use Rattle.capnp_values_queries.specs.Types.{ty_of}
use Rattle.capnp_calls.specs.CallViews.{action_view}
use Rattle.capnp_copy_arenas.specs.States.{state_in}
use Rattle.capnp_calls_edits.specs.Elements.{EditsElementAt, WhereElementTakes}
use Rattle.capnp_calls_edits.proofs.ElementEnds.{initn_end}
use Rattle.capnp_calls_edits.proofs.elements.write_element_end.Goals as goal

pub returns-in-Initn-clause-writes : goal.returns-in-Initn-clause-writes
returns-in-Initn-clause-writes g c =
    let at = state_in g.A.ReaderArena.segments g.A.BuilderArena.room g.A.BuilderArena.books in
    let s = words_in (g.A.ReaderArena.segments c.args.arena.now) in
    let u = words_in (g.A.ReaderArena.segments c.init_element.new.arena) in
    let around = schema_of (nodes_of c.args.set.now) in
    let ty = ty_of c.args.ty in
    let n = c.in-Initn.count in
    subst (λ a. OnOk c.init_element.result (EditsElementAt s u (record { place = c.args.list; at = c.args.index; around = around; ty = ty }) (record { path = []; verb = action_view a }))) (sym c.in-Initn.is)
    (initn_end (at c.args.arena.now) (at c.init_element.new.arena) c.args.list c.args.index n around ty (element_content around (initn n) ty) c.init_element.result c.init_element.ensures.puts)

pub returns-in-Set-clause-writes : goal.returns-in-Set-clause-writes
returns-in-Set-clause-writes g c =
    let s = words_in (g.A.ReaderArena.segments c.args.arena.now) in
    let u = words_in (g.A.ReaderArena.segments c.set_value.new.arena) in
    let around = schema_of (nodes_of c.args.set.now) in
    subst (λ a. OnOk c.set_value.result (EditsElementAt s u (record { place = c.args.list; at = c.args.index; around = around; ty = ty_of c.args.ty }) (record { path = []; verb = action_view a }))) (sym c.in-Set.is) (c.set_value.ensures.writes around)

pub returns-in-Initn-clause-cause : goal.returns-in-Initn-clause-cause
returns-in-Initn-clause-cause g c =
    let at = state_in g.A.ReaderArena.segments g.A.BuilderArena.room g.A.BuilderArena.books in
    let told : Error → Type 0 = IsSizeOrRefusal g.A.BuilderArena.refuses in
    let around = schema_of (nodes_of c.args.set.now) in
    let ty = ty_of c.args.ty in
    let n = c.in-Initn.count in
    subst (λ a. IfErr c.init_element.result (λ e. WhereElementTakes around ty (action_view a) (told e))) (sym c.in-Initn.is)
    (put_claimed (at c.args.arena.now) (at c.init_element.new.arena) c.args.list (edit_element around [] (initn n) ty) c.args.index (element_content around (initn n) ty) told around ty (initn n) c.init_element.result (initn_never around ty n) c.init_element.ensures.puts c.init_element.ensures.cause)

pub returns-in-Set-clause-cause : goal.returns-in-Set-clause-cause
returns-in-Set-clause-cause g c =
    let around = schema_of (nodes_of c.args.set.now) in
    subst (λ a. IfErr c.set_value.result (λ e. WhereElementTakes around (ty_of c.args.ty) (action_view a) (IsSizeOrRefusal g.A.BuilderArena.refuses e))) (sym c.in-Set.is) (c.set_value.ensures.cause around)

pub returns-in-Init-clause-cause : goal.returns-in-Init-clause-cause
returns-in-Init-clause-cause g c =
    let around = schema_of (nodes_of c.args.set.now) in
    let Claim : Type 0 = IsSizeOrRefusal g.A.BuilderArena.refuses c.from.result in
    subst (λ a. WhereElementTakes around (ty_of c.args.ty) (action_view a) Claim) (sym c.in-Init.is) (init_claimed around (ty_of c.args.ty) Claim)

pub returns-in-Clear-clause-cause : goal.returns-in-Clear-clause-cause
returns-in-Clear-clause-cause g c =
    let around = schema_of (nodes_of c.args.set.now) in
    let Claim : Type 0 = IsSizeOrRefusal g.A.BuilderArena.refuses c.from-in-Clear.result in
    subst (λ a. WhereElementTakes around (ty_of c.args.ty) (action_view a) Claim) (sym c.in-Clear.is) (clear_claimed around (ty_of c.args.ty) Claim)

pub returns-in-Get-clause-cause : goal.returns-in-Get-clause-cause
returns-in-Get-clause-cause g c =
    let around = schema_of (nodes_of c.args.set.now) in
    let Claim : Type 0 = IsSizeOrRefusal g.A.BuilderArena.refuses c.from-in-Get.result in
    subst (λ a. WhereElementTakes around (ty_of c.args.ty) (action_view a) Claim) (sym c.in-Get.is) (get_claimed around (ty_of c.args.ty) Claim)
