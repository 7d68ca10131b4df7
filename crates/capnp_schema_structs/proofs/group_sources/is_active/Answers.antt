use Rattle.std.proofs.Common.{◌==◌, ℕ, Some, ap, ◌∙◌}
use Rattle.capnp_model.specs.Readings.{discriminant, is_active}
use Rattle.capnp_wire.specs.Views.{seen_struct}
use Rattle.capnp_schema_structs.proofs.SourceReadings.{two_read}
use Rattle.capnp_schema_structs.proofs.group_sources.is_active.Goals as goal

pub returns-in-Some : goal.returns-in-Some
returns-in-Some g c from is =
    let v = seen_struct g.B.ReaderArena.segments c.args.source.now in
    let read = two_read v from is c.section-section.result.now c.section-section.ensures.section c.section-section.ensures.bits c.in-Some.offset in
    ap (λ (n : ℕ). c.args.member == n) (c.get_data_field.ensures ∙ read) ∙ ap (λ o. is_active (Some c.args.member) (discriminant o from.extent from.section)) c.in-Some.ensures
