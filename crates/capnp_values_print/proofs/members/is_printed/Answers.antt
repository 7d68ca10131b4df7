use Rattle.std.proofs.Common.{◌≡◌, suc, ◌==◌, Bool, inr, Result, Some, ap, sym, ◌∙◌, subst, refl, IsOkAnd}
use Rattle.capnp_model.specs.Readings.{is_active}
use Rattle.capnp_records.specs.NodeViews.{field_of}
use Rattle.capnp_values_queries.specs.Fields.{Entry}
use Rattle.capnp_values_queries.specs.Handles.{entry_of_field}
use Rattle.capnp_values_queries.specs.Structs.{schema_around}
use Rattle.capnp_units.specs.declared.errors.Error.{Error}
use Rattle.capnp_values.specs.Sources.{struct_seen}
use Rattle.capnp_values.specs.Shown.{discriminant_shown}
use Rattle.capnp_values_print.specs.Members.{field_shown}
use Rattle.capnp_values_print.proofs.lemmas.PrintedFields.{by_null, by_has, by_value, none_said, first_said, later_said}
use Rattle.capnp_values_print.proofs.members.is_printed.Goals as goal

pub returns-then-member : goal.returns-then-member
returns-then-member g c =
    let s = c.args.reader.now.schema in
    let v = struct_seen g.A.ReaderArena.segments c.args.reader.now.source in
    let said = field_of c.get_proto-said.result.now in
    by_null s v c.args.field.now said c.requires.parent c.get_proto-said.ensures c.is_null_field.result c.is_null_field.ensures (none_said c.get_proto-said.result.now.discriminant_value c.if-member.true)

pub returns-then-member-eq0 : goal.returns-then-member-eq0
returns-then-member-eq0 g c =
    let s = c.args.reader.now.schema in
    let v = struct_seen g.A.ReaderArena.segments c.args.reader.now.source in
    let said = field_of c.get_proto-said.result.now in
    let P : Result Bool Error → Type 0 = λ r. IsOkAnd r (λ b. (e : Entry) → entry_of_field c.args.field.now ≡ Some e → b ≡ field_shown (schema_around s) v (discriminant_shown s v) e) in
    subst P (sym c.has.ensures) (by_has s v c.args.field.now said c.requires.parent c.get_proto-said.ensures _ refl (inr (first_said c.get_proto-said.result.now.discriminant_value c.if-member-eq0.true)))

pub returns-in-None : goal.returns-in-None
returns-in-None g c =
    let s = c.args.reader.now.schema in
    let v = struct_seen g.A.ReaderArena.segments c.args.reader.now.source in
    let said = field_of c.get_proto-said.result.now in
    let l = later_said c.get_proto-said.result.now.discriminant_value c.if-member.false c.if-member-eq0.false in
    λ e h. ap (is_active (Some (suc l.0))) (sym c.in-None.is) ∙ by_value s v c.args.field.now said c.requires.parent c.get_proto-said.ensures c.args.active c.requires.active l.0 l.1 e h

pub returns-in-Some : goal.returns-in-Some
returns-in-Some g c =
    let s = c.args.reader.now.schema in
    let v = struct_seen g.A.ReaderArena.segments c.args.reader.now.source in
    let said = field_of c.get_proto-said.result.now in
    let l = later_said c.get_proto-said.result.now.discriminant_value c.if-member.false c.if-member-eq0.false in
    λ e h. ap (λ n. n == c.in-Some.value) l.2 ∙ ap (is_active (Some (suc l.0))) (sym c.in-Some.is) ∙ by_value s v c.args.field.now said c.requires.parent c.get_proto-said.ensures c.args.active c.requires.active l.0 l.1 e h
