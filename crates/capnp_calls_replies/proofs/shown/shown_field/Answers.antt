use Rattle.std.proofs.Common.{sym, ◌∙◌}
use Rattle.std.proofs.lemmas.Result.{IfOk-weaker}
use Rattle.capnp_values_queries.specs.Structs.{schema_around}
use Rattle.capnp_values.specs.Records.{reading_at_index}
use Rattle.capnp_values.specs.Sources.{struct_seen}
use Rattle.capnp_calls_replies.proofs.Gets.{inactive_got, field_got}
use Rattle.capnp_calls_replies.proofs.shown.shown_field.Goals as goal

pub returns-then-not-is_active-clause-replied : goal.returns-then-not-is_active-clause-replied
returns-then-not-is_active-clause-replied g c e r at rec =
    let f = c.args.field in
    inactive_got (schema_around f.parent) e.body (reading_at_index f.index r) (sym (c.is_active.ensures e r at rec) ∙ c.if-not-is_active.true)

pub returns-clause-replied : goal.returns-clause-replied
returns-clause-replied g c =
    let f = c.args.field in
    let v = struct_seen g.A.ReaderArena.segments c.args.reader.source in
    IfOk-weaker c.field_reply.result _ _ (λ reply h e r at rec.
    field_got c.fields_are_models.ensures f c.args.reader.schema v e r reply c.requires at rec (sym (c.is_active.ensures e r at rec) ∙ c.if-not-is_active.false) (h e at)) c.field_reply.ensures.text
