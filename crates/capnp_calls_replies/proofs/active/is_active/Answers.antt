use Rattle.std.proofs.Common.{◌≡◌, ℕ, Option, Some, None, ap, sym, refl, ◌∙◌}
use Rattle.capnp_model.specs.Readings.{is_active}
use Rattle.capnp_records.specs.NodeViews.{field_of}
use Rattle.capnp_values_queries.specs.Fields.{Entry, entry_in}
use Rattle.capnp_values_queries.specs.Structs.{schema_around}
use Rattle.capnp_values_queries.specs.Handles.{entry_of_field}
use Rattle.capnp_values.specs.Sources.{struct_seen}
use Rattle.capnp_values.specs.Shown.{discriminant_shown}
use Rattle.capnp_values_print.proofs.lemmas.PrintedFields.{none_said, entry_same}
use Rattle.capnp_calls_replies.proofs.Records.{live_is, member_said, nothing_active, value_shown}
use Rattle.capnp_calls_replies.proofs.active.is_active.Goals as goal

pub returns-then-member : goal.returns-then-member
returns-then-member g c e r at rec =
    let f = c.args.field in
    let v = struct_seen g.A.ReaderArena.segments c.args.reader.source in
    let said = field_of c.get_proto.result.now in
    let same = entry_same (entry_of_field f) e (entry_in (schema_around f.parent) said) at c.get_proto.ensures.entry in
    let member : e.member ≡ None = ap (λ (x : Entry). x.member) same ∙ none_said c.get_proto.result.now.discriminant_value c.if-member.true in
    sym (live_is c.discriminants_are_read.ensures f v e r at rec ∙ ap (λ (m : Option ℕ). is_active m (discriminant_shown f.parent v)) member)

pub returns-in-Ok-Some : goal.returns-in-Ok-Some
returns-in-Ok-Some g c e r at rec =
    let f = c.args.field in
    let v = struct_seen g.A.ReaderArena.segments c.args.reader.source in
    let d = discriminant_shown f.parent v in
    let said = field_of c.get_proto.result.now in
    let other = c.in-Ok-Some.active in
    let same = entry_same (entry_of_field f) e (entry_in (schema_around f.parent) said) at c.get_proto.ensures.entry in
    let member : e.member ≡ Some c.get_proto.result.now.discriminant_value = ap (λ (x : Entry). x.member) same ∙ member_said c.get_proto.result.now.discriminant_value c.if-member.false in
    let found = rw c.in-Ok-Some.field-0-is at c.in-Ok-Some.ensures in
    let value = c.get_proto-in-Ok-Some.result.now.discriminant_value in
    let shows : d ≡ Some value = value_shown f other c.args.reader.schema v value (entry_in (schema_around other.parent) (field_of c.get_proto-in-Ok-Some.result.now)) c.requires found.parent c.get_proto-in-Ok-Some.ensures.entry found.index refl in
    sym (live_is c.discriminants_are_read.ensures f v e r at rec ∙ ap (λ (m : Option ℕ). is_active m d) member ∙ ap (is_active (Some c.get_proto.result.now.discriminant_value)) shows)

pub returns-in-Ok-None : goal.returns-in-Ok-None
returns-in-Ok-None g c e r at rec =
    let f = c.args.field in
    let v = struct_seen g.A.ReaderArena.segments c.args.reader.source in
    let said = field_of c.get_proto.result.now in
    let same = entry_same (entry_of_field f) e (entry_in (schema_around f.parent) said) at c.get_proto.ensures.entry in
    let member : e.member ≡ Some c.get_proto.result.now.discriminant_value = ap (λ (x : Entry). x.member) same ∙ member_said c.get_proto.result.now.discriminant_value c.if-member.false in
    let found = rw c.in-Ok-None.field-0-is at c.in-Ok-None.ensures in
    sym (live_is c.discriminants_are_read.ensures f v e r at rec ∙ sym (nothing_active f c.args.reader.schema v e c.requires at found.index) ∙ ap (λ (m : Option ℕ). is_active m None) member)
