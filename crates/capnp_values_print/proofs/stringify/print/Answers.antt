use Rattle.std.proofs.Common.{ℕ, List, ◌++◌, refl, ap, sym, ◌∙◌, subst}
use Rattle.capnp_model.specs.Printing.{Style}
use Rattle.capnp_values.specs.Shown.{shown}
use Rattle.capnp_values_print.specs.Answers.{IsTextRefused, style_named}
use Rattle.capnp_values_print.specs.Printed.{shown_text}
use Rattle.capnp_values_print.proofs.Results.{failed, prints}
use Rattle.capnp_values_print.proofs.stringify.print.Goals as goal

pub returns-in_err-push_value : goal.returns-in_err-push_value
returns-in_err-push_value g c =
    let x = shown g.A.ReaderArena.segments c.args.value in
    let style = style_named c.args.alternate in
    let e = c.in_err-push_value.field-0.0 in
    let why : IsTextRefused (shown_text 64 style x) e = subst (λ (st : Style). IsTextRefused (shown_text 64 st x) e) c.form-indent.ensures c.in_err-push_value.ensures in
    failed style x c.args.out.now.items c.args.out.now.items c.from_residual.result e c.from_residual.ensures.1 refl why

pub returns : goal.returns
returns g c =
    let x = shown g.A.ReaderArena.segments c.args.value in
    let style = style_named c.args.alternate in
    let a = c.in_ok-push_value.ensures in
    prints style x a.0 c.args.out.now.items c.push_value.new.out.items c.append.new.out.items c.append.result (ap (λ (st : Style). shown_text 64 st x) (sym c.form-indent.ensures) ∙ a.1) (a.2 ∙ ap (λ (z : List ℕ). z ++ a.0) c.new-text.ensures.items) c.append.ensures
