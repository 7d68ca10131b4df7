use Rattle.std.proofs.Common.{◌≡◌, ap, sym, subst, ◌∙◌}
use Rattle.std.specs.Prelude.{IsSome}
use Rattle.capnp_model.specs.Decoding.{decode}
use Rattle.capnp_model.specs.Calls.{message}
use Rattle.capnp_model.specs.Schemas.{struct, list, default_or_null}
use Rattle.capnp_units.specs.Segments.{words_in}
use Rattle.capnp_values_queries.specs.Types.{ty_of, ty_of_variant}
use Rattle.capnp_calls.specs.Messages.{tree_of_message}
use Rattle.capnp_schema_lists.specs.Lists.{HasPointer}
use Rattle.capnp_schema_lists.specs.Elements.{Holds}
use Rattle.capnp_schema_lists.proofs.lemmas.Fronts.{none_written}
use Rattle.std.proofs.Common.{[]}
use Rattle.capnp_model.specs.Calls.{set_to}
use Rattle.capnp_units.specs.declared.errors.Error.{Error}
use Rattle.capnp_copy_arenas.specs.Refusals.{IsSizeOrRefusal}
use Rattle.capnp_calls_edits.specs.Elements.{IsElementDone, WhereElementTakes}
use Rattle.capnp_calls_edits.proofs.Claims.{on_err, if_taken}
use Rattle.capnp_calls_edits.proofs.ClaimsElements.{struct_of_message, message_never, is_void, is_struct, is_list}
use Rattle.capnp_calls_edits.proofs.ElementEnds.{void_end}
use Rattle.capnp_calls_edits.proofs.ElementMessages.{struct_set, list_set}
use Rattle.capnp_calls_edits.proofs.ElementSteps.{element_grows}
use Rattle.capnp_schema_structs.specs.GroupSets.{HoldsDefault}
use Rattle.capnp_calls_edits.proofs.elements.set_message.Goals as goal

pub returns-in-Void-clause-writes : goal.returns-in-Void-clause-writes
returns-in-Void-clause-writes g c around =
    let s = words_in (g.A.ReaderArena.segments c.args.arena.now) in
    void_end s s c.args.list c.args.index around (ty_of c.args.ty) (message (tree_of_message c.args.value.now)) (ap ty_of_variant (sym c.in-Void.is) ∙ c.which.ensures.ty) (none_written s c.args.list c.args.index c.requires.there.counted)

pub returns-in-List-clause-writes : goal.returns-in-List-clause-writes
returns-in-List-clause-writes g c around =
    let s = words_in (g.A.ReaderArena.segments c.args.arena.now) in
    let u = words_in (g.A.ReaderArena.segments c.put_message.new.arena) in
    let o = c.args.list in
    let k = c.args.index in
    let q = c.element_pointer.result in
    let e = ty_of c.in-List.field-0 in
    let ty : list e ≡ ty_of c.args.ty = ap ty_of_variant (sym c.in-List.is) ∙ c.which.ensures.ty in
    let has : HasPointer o = subst (Holds o) (sym ty) c.requires.holds in
    list_set s u o k q (λ n x is own. c.elements_as_pointers.ensures.parts n s o k q x has c.requires.index c.element_pointer.ensures.place c.requires.there is own) around (ty_of c.args.ty) e (tree_of_message c.args.value.now) ty c.put_message.result c.put_message.ensures.puts

pub returns-in-Struct-clause-writes : goal.returns-in-Struct-clause-writes
returns-in-Struct-clause-writes g c around =
    let s = words_in (g.A.ReaderArena.segments c.args.arena.now) in
    let u = words_in (g.A.ReaderArena.segments c.copy_content.new.arena) in
    let o = c.args.list in
    let k = c.args.index in
    let p = c.element_struct.result in
    let ws = c.words_of.result.now in
    let t = tree_of_message c.args.value.now in
    let holds = subst (λ bs. IsSome (decode bs) → HoldsDefault ws (default_or_null (decode bs))) c.segment.ensures c.words_of.ensures.value c.args.value.now.readable in
    let ty : struct c.in-Struct.field-0.id ≡ ty_of c.args.ty = ap ty_of_variant (sym c.in-Struct.is) ∙ c.which.ensures.ty in
    struct_set s u o k p (λ n x is own. c.elements_as_structs.ensures.parts n s o k p x c.requires.index c.element_struct.ensures is own) around (ty_of c.args.ty) c.in-Struct.field-0.id t ty c.copy_content.result (c.copy_content.ensures.takes t holds)

pub returns-in-Struct-clause-grows : goal.returns-in-Struct-clause-grows
returns-in-Struct-clause-grows g c =
    let s = words_in (g.A.ReaderArena.segments c.args.arena.now) in
    let u = words_in (g.A.ReaderArena.segments c.copy_content.new.arena) in
    let o = c.args.list in
    let k = c.args.index in
    let p = c.element_struct.result in
    element_grows s u o k p (λ n x is own. c.elements_as_structs.ensures.parts n s o k p x c.requires.index c.element_struct.ensures is own) c.copy_content.ensures.grows

pub returns-in-List-clause-cause : goal.returns-in-List-clause-cause
returns-in-List-clause-cause g c around =
    on_err c.put_message.result (IsSizeOrRefusal g.A.BuilderArena.refuses) (λ e. WhereElementTakes around (ty_of c.args.ty) (set_to (message (tree_of_message c.args.value.now))) (IsSizeOrRefusal g.A.BuilderArena.refuses e)) (λ e told cell is_done. told) c.put_message.ensures.cause

pub returns-in-Struct-clause-cause : goal.returns-in-Struct-clause-cause
returns-in-Struct-clause-cause g c around =
    let told : Error → Type 0 = IsSizeOrRefusal g.A.BuilderArena.refuses in
    let ws = c.words_of.result.now in
    let t = tree_of_message c.args.value.now in
    let holds = subst (λ bs. IsSome (decode bs) → HoldsDefault ws (default_or_null (decode bs))) c.segment.ensures c.words_of.ensures.value c.args.value.now.readable in
    let ty : struct c.in-Struct.field-0.id ≡ ty_of c.args.ty = ap ty_of_variant (sym c.in-Struct.is) ∙ c.which.ensures.ty in
    if_taken c.copy_content.result told (λ cell. IsElementDone around (ty_of c.args.ty) [] (set_to (message t)) cell) (λ cell is_done. c.copy_content.ensures.cause t holds (struct_of_message around (ty_of c.args.ty) c.in-Struct.field-0.id t ty cell is_done))

pub returns-in_default-clause-cause : goal.returns-in_default-clause-cause
returns-in_default-clause-cause g c around =
    let ty = c.which.ensures.ty in
    message_never around (ty_of c.args.ty) (tree_of_message c.args.value.now) (λ e. c.in_default.not-Void (is_void c.which.result (ty ∙ sym e))) (λ id e. (let x = is_struct c.which.result id (ty ∙ sym e) in c.in_default.not-Struct x.0 x.1)) (λ u e. (let x = is_list c.which.result u (ty ∙ sym e) in c.in_default.not-List x.0 x.1)) _
