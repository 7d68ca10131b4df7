use Rattle.std.proofs.Common.{◌≡◌, ◌-◌, suc, true, false, Ok, Err, ap, sym, ◌∙◌, arith}
use Rattle.capnp_units.specs.Errors.{kind_of}
use Rattle.capnp_wire_objects.specs.Places.{seen}
use Rattle.capnp_values_queries.specs.Structs.{schema_around}
use Rattle.capnp_values.specs.Sources.{struct_seen}
use Rattle.capnp_values.specs.Shown.{shown, kind_shown}
use Rattle.capnp_values_print.specs.Parts.{member_text, enters_there, defaults_entered}
use Rattle.capnp_values_print.proofs.lemmas.ElementTexts.{text_or_fault}
use Rattle.capnp_values_print.proofs.Opening.{fails}
use Rattle.capnp_values_print.proofs.Wholes.{member_here, member_entered, member_refused}
use Rattle.capnp_values_print.proofs.fields.open_member.Goals as goal

pub returns-in_err-enters : goal.returns-in_err-enters
returns-in_err-enters g c = absurd c.in_err-enters.ensures

pub returns-in_err-value : goal.returns-in_err-value
returns-in_err-value g c =
    let s = c.args.reader.now.schema in
    let v = struct_seen g.A.ReaderArena.segments c.args.reader.now.source in
    let f = c.args.field.now in
    let left = c.args.left in
    let got = c.get-got.ensures in
    let not : enters_there v (schema_around f.parent) got.said.kind ≡ false = sym (c.in_ok-enters.ensures got.said got.is) ∙ c.if-not-enters.true in
    let y = c.in_err-value.field-0.0 in
    let fault : Err (kind_of y.kind) ≡ kind_shown (schema_around f.parent) v got.said.kind = ap (seen (shown g.A.ReaderArena.segments)) (sym c.in_err-value.was) ∙ got.shows in
    fails g.A.ReaderArena.segments left s v f c.from_residual-in_err-value.result y c.from_residual-in_err-value.ensures.1
    (λ e h style. sym (member_here c.nulls_are_read.ensures s v f got.said c.requires.parent got.is got.default e h left style (c.requires.active e h) not) ∙ ap (text_or_fault left style) (sym fault))

pub returns-then-not-enters : goal.returns-then-not-enters
returns-then-not-enters g c =
    let v = struct_seen g.A.ReaderArena.segments c.args.reader.now.source in
    let f = c.args.field.now in
    let got = c.get-got.ensures in
    let not : enters_there v (schema_around f.parent) got.said.kind ≡ false = sym (c.in_ok-enters.ensures got.said got.is) ∙ c.if-not-enters.true in
    let shows : kind_shown (schema_around f.parent) v got.said.kind ≡ Ok (shown g.A.ReaderArena.segments c.in_ok-value.value) = sym got.shows ∙ ap (seen (shown g.A.ReaderArena.segments)) c.in_ok-value.was in
    record { said = got.said; is = got.is; default = got.default; shows = shows; counts = ap (λ b. defaults_entered b c.args.left) (sym not) }

pub returns-then-left-eq0 : goal.returns-then-left-eq0
returns-then-left-eq0 g c =
    let s = c.args.reader.now.schema in
    let v = struct_seen g.A.ReaderArena.segments c.args.reader.now.source in
    let f = c.args.field.now in
    let got = c.get-got.ensures in
    let told : enters_there v (schema_around f.parent) got.said.kind ≡ true = sym (c.in_ok-enters.ensures got.said got.is) ∙ c.if-not-enters.false in
    λ e h style. ap (λ n. member_text n style s v e) c.if-left-eq0.true ∙ member_refused c.nulls_are_read.ensures s v f got.said c.requires.parent got.is got.default e h style (c.requires.active e h) told ∙ ap (λ k. Err (kind_of k)) (sym c.from.ensures)

pub returns-in_err-default : goal.returns-in_err-default
returns-in_err-default g c =
    let s = c.args.reader.now.schema in
    let v = struct_seen g.A.ReaderArena.segments c.args.reader.now.source in
    let f = c.args.field.now in
    let left = c.args.left in
    let got = c.get-got.ensures in
    let told : enters_there v (schema_around f.parent) got.said.kind ≡ true = sym (c.in_ok-enters.ensures got.said got.is) ∙ c.if-not-enters.false in
    let some : left ≡ suc (left - 1) = omega (arith, c.if-left-eq0.false) in
    let y = c.in_err-default.field-0.0 in
    let fault : Err (kind_of y.kind) ≡ kind_shown (schema_around f.parent) v got.said.kind = ap (seen (shown g.A.ReaderArena.segments)) (sym c.in_err-default.was) ∙ got.shows in
    fails g.A.ReaderArena.segments left s v f c.from_residual-in_err-default.result y c.from_residual-in_err-default.ensures.1
    (λ e h style. ap (λ n. member_text n style s v e) some ∙ sym (member_entered c.nulls_are_read.ensures s v f got.said c.requires.parent got.is got.default e h (left - 1) style (c.requires.active e h) told) ∙ ap (text_or_fault (left - 1) style) (sym fault))

pub returns : goal.returns
returns g c =
    let v = struct_seen g.A.ReaderArena.segments c.args.reader.now.source in
    let f = c.args.field.now in
    let left = c.args.left in
    let got = c.get-got.ensures in
    let told : enters_there v (schema_around f.parent) got.said.kind ≡ true = sym (c.in_ok-enters.ensures got.said got.is) ∙ c.if-not-enters.false in
    let some : left ≡ suc (left - 1) = omega (arith, c.if-left-eq0.false) in
    let shows : kind_shown (schema_around f.parent) v got.said.kind ≡ Ok (shown g.A.ReaderArena.segments c.in_ok-default.default) = sym got.shows ∙ ap (seen (shown g.A.ReaderArena.segments)) c.in_ok-default.was in
    record { said = got.said; is = got.is; default = got.default; shows = shows; counts = some ∙ ap (λ b. defaults_entered b (left - 1)) (sym told) }
