use Rattle.std.proofs.Common.{◌≡◌, ℕ, List, ◌++◌, ap, ◌∙◌, append_assoc}
use Rattle.std.specs.Prelude.{codes}
use Rattle.capnp_values_print.specs.Texts.{number_list}
use Rattle.capnp_values_print.proofs.single.push_invalid.Goals as goal

three : (old head middle tail : List ℕ) → ((old ++ head) ++ middle) ++ tail ≡ old ++ (head ++ middle ++ tail)
three old head middle tail = ap (λ x. x ++ tail) (append_assoc old head middle) ∙ append_assoc old (head ++ middle) tail

pub returns : goal.returns
returns c =
    c.in_ok-extend_from_slice-2.ensures.items
    ∙ ap (λ x. x ++ codes "]>") (c.in_ok-push_numbers.ensures ∙ ap (λ x. x ++ number_list c.args.bytes.now) c.in_ok-extend_from_slice.ensures.items)
    ∙ three c.args.out.now.items (codes "<invalid utf-8: [") (number_list c.args.bytes.now) (codes "]>")
