use Rattle.std.proofs.Common.{◌≡◌, ℕ, zero, suc, ◌==◌, Bool, true, false, length, Err, refl, ap, sym, ◌∙◌, arith}
use Rattle.std.proofs.lemmas.Bool.Decides.{nat_tests}
use Rattle.capnp_model.specs.Kinds.{Kind}
use Rattle.capnp_units.specs.Errors.{kind_of}
use Rattle.capnp_relay_show.specs.Showing.{first_message}
use Rattle.capnp_relay_show.proofs.Framing.{of_slice, of_refused, of_nothing}
use Rattle.capnp_relay_show.proofs.framed.first_message.Goals as goal

pub returns-in-Ok-clause-message : goal.returns-in-Ok-clause-message
returns-in-Ok-clause-message c = (_, of_slice c.texts_in_slices.ensures.of_slice c.args.options.traversal_limit_in_words c.args.bytes.now _ c.in-Ok.ensures.message)

pub returns-in-Err-clause-refused : goal.returns-in-Err-clause-refused
returns-in-Err-clause-refused c = by c.is_empty.result refl
  where
    by : (b : Bool) → c.is_empty.result ≡ b → first_message c.args.options.traversal_limit_in_words c.args.bytes.now ≡ Err (kind_of c.from.result.kind)
    by true e =
        let none : (length c.args.bytes.now == 0) ≡ true = sym c.is_empty.ensures ∙ e in
        of_nothing c.args.options.traversal_limit_in_words c.args.bytes.now (grind (arith, nat_tests)) ∙ ap (λ k. Err (kind_of k)) (sym (c.from.ensures ∙ c.stream_kind.ensures.empty e))
    by false e =
        let some : (length c.args.bytes.now == 0) ≡ false = sym c.is_empty.ensures ∙ e in
        of_refused c.args.options.traversal_limit_in_words c.args.bytes.now (kind_of c.in-Err.e.kind) (λ h. absurd (grind (arith, nat_tests))) c.in-Err.ensures.refused
        ∙ ap (λ (k : Kind). Err k) (sym (ap kind_of c.from.ensures ∙ c.stream_kind.ensures.some e))
