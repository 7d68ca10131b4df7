use Rattle.std.proofs.Common.{Ok, Err, sym, subst, ◌∙◌}
use Rattle.capnp_units.specs.Errors.{kind_of}
use Rattle.capnp_wire.specs.Views.{PointerView, seen_pointer, seen_list}
use Rattle.capnp_wire.specs.Reads.{read_list}
use Rattle.capnp_values_queries.specs.Types.{ty_of}
use Rattle.capnp_values.specs.Standing.{LeadsToValue}
use Rattle.capnp_values.proofs.lemmas.Unlimited.{answers_reading}
use Rattle.capnp_calls_replies.proofs.KeptValues.{null_list, list_is, list_refused}
use Rattle.capnp_calls_replies.proofs.messages.has_list.Goals as goal

pub returns-then-is_null : goal.returns-then-is_null
returns-then-is_null g c t leads =
    let p = seen_pointer g.A.ReaderArena.segments c.at-root.result in
    null_list c.nulls_are_read.ensures p t (ty_of c.args.element) (subst (λ (x : PointerView). LeadsToValue 64 x t) (sym c.at-root.ensures) leads) (sym c.is_null.ensures ∙ c.if-is_null.true)

pub returns-in-Ok : goal.returns-in-Ok
returns-in-Ok g c t leads =
    let bytes = g.A.ReaderArena.segments in
    let size = c.expected_element_size.result in
    let p = seen_pointer bytes c.at-root.result in
    let e = answers_reading (seen_list bytes) (read_list p.basis p.levels size) p c.new-unlimited.result c.get_list.new.limiter (Ok c.in-Ok.field-0) c.new-unlimited.ensures.left c.in-Ok.ensures.list in
    list_is (ty_of c.args.element) size c.expected_element_size.ensures c.pointers_are_read.ensures c.nulls_are_read.ensures p t (seen_list bytes c.in-Ok.field-0) (subst (λ (x : PointerView). LeadsToValue 64 x t) (sym c.at-root.ensures) leads) (sym c.is_null.ensures ∙ c.if-is_null.false) e

pub returns-in-Err : goal.returns-in-Err
returns-in-Err g c t leads =
    let bytes = g.A.ReaderArena.segments in
    let size = c.expected_element_size.result in
    let p = seen_pointer bytes c.at-root.result in
    let e = answers_reading (seen_list bytes) (read_list p.basis p.levels size) p c.new-unlimited.result c.get_list.new.limiter (Err c.in-Err.field-0) c.new-unlimited.ensures.left c.in-Err.ensures.list in
    list_refused (ty_of c.args.element) size c.expected_element_size.ensures c.pointers_are_read.ensures p t (kind_of c.in-Err.field-0.kind) (subst (λ (x : PointerView). LeadsToValue 64 x t) (sym c.at-root.ensures) leads) e
