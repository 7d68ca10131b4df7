use Rattle.std.proofs.Common.{Ok, Err, sym, subst}
use Rattle.capnp_units.specs.Errors.{kind_of}
use Rattle.capnp_wire.specs.Views.{PointerView, seen_pointer, seen_struct}
use Rattle.capnp_wire.specs.Reads.{read_struct}
use Rattle.capnp_values.specs.Standing.{LeadsToValue}
use Rattle.capnp_values.proofs.lemmas.Unlimited.{answers_reading}
use Rattle.capnp_calls_replies.proofs.KeptValues.{struct_is, struct_refused}
use Rattle.capnp_calls_replies.proofs.messages.struct_in.Goals as goal

pub returns-in-Ok : goal.returns-in-Ok
returns-in-Ok g c t leads =
    let bytes = g.A.ReaderArena.segments in
    let p = seen_pointer bytes c.at.result in
    let e = answers_reading (seen_struct bytes) (read_struct p.basis p.levels) p c.new-unlimited.result c.get_struct.new.limiter (Ok c.in-Ok.reader) c.new-unlimited.ensures.left c.in-Ok.ensures in
    struct_is c.pointers_are_read.ensures p t (seen_struct bytes c.in-Ok.reader) (subst (λ (x : PointerView). LeadsToValue 64 x t) (sym c.at.ensures) leads) e

pub returns-in-Err : goal.returns-in-Err
returns-in-Err g c t leads =
    let bytes = g.A.ReaderArena.segments in
    let p = seen_pointer bytes c.at.result in
    let e = answers_reading (seen_struct bytes) (read_struct p.basis p.levels) p c.new-unlimited.result c.get_struct.new.limiter (Err c.in-Err.field-0) c.new-unlimited.ensures.left c.in-Err.ensures in
    struct_refused c.pointers_are_read.ensures p t (kind_of c.in-Err.field-0.kind) (subst (λ (x : PointerView). LeadsToValue 64 x t) (sym c.at.ensures) leads) e
