use Rattle.std.proofs.Common.{ℕ, inr, Err, List, ◌++◌, ap, sym, ◌∙◌, subst}
use Rattle.capnp_model.specs.Printing.{Style}
use Rattle.capnp_units.specs.Errors.{kind_of}
use Rattle.capnp_values.specs.Sources.{struct_seen}
use Rattle.capnp_values_print.specs.Answers.{IsTextRefused, style_named}
use Rattle.capnp_values_print.specs.Parts.{member_text}
use Rattle.capnp_values_print.proofs.Loops.{refused}
use Rattle.capnp_values_print.proofs.Opening.{inactive_text}
use Rattle.capnp_values_print.proofs.Results.{appends, stays}
use Rattle.capnp_values_print.proofs.stringify.print_field.Goals as goal

pub returns-then-not-branch-clause-appends : goal.returns-then-not-branch-clause-appends
returns-then-not-branch-clause-appends g c =
    let s = c.args.reader.schema in
    let v = struct_seen g.A.ReaderArena.segments c.args.reader.source in
    λ e h. inr (inactive_text 64 (style_named c.args.alternate) s v e (sym (c.in_ok-is_active.ensures e h) ∙ c.if-not-branch.true) ∙ ap (λ k. Err (kind_of k)) (sym c.from.ensures))

pub push_member-requires-clause-active : goal.push_member-requires-clause-active
push_member-requires-clause-active g c = λ e h. sym (c.in_ok-is_active.ensures e h) ∙ c.if-not-branch.false

pub returns-in_err-push_member-clause-appends : goal.returns-in_err-push_member-clause-appends
returns-in_err-push_member-clause-appends g c =
    let s = c.args.reader.schema in
    let v = struct_seen g.A.ReaderArena.segments c.args.reader.source in
    let style = style_named c.args.alternate in
    let err = c.in_err-push_member.field-0.0 in
    λ e h. refused (member_text 64 style s v e) c.args.out.now.items c.args.out.now.items c.from_residual-in_err-push_member.result err c.from_residual-in_err-push_member.ensures.1
    (subst (λ (st : Style). IsTextRefused (member_text 64 st s v e) err) c.form-indent.ensures (c.in_err-push_member.ensures e h))

pub returns-clause-appends : goal.returns-clause-appends
returns-clause-appends g c =
    let s = c.args.reader.schema in
    let v = struct_seen g.A.ReaderArena.segments c.args.reader.source in
    λ e h.
    let a = c.in_ok-push_member.ensures e h in
    appends (member_text 64 (style_named c.args.alternate) s v e) a.0 c.args.out.now.items c.push_member.new.out.items c.append.new.out.items c.append.result (ap (λ (st : Style). member_text 64 st s v e) (sym c.form-indent.ensures) ∙ a.1) (a.2 ∙ ap (λ (z : List ℕ). z ++ a.0) c.new-text.ensures.items) c.append.ensures

pub returns-clause-stays : goal.returns-clause-stays
returns-clause-stays g c = stays c.args.out.now.items c.push_member.new.out.items c.append.new.out.items c.append.result c.append.ensures
