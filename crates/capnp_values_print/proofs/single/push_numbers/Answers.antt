use Rattle.std.proofs.Common.{◌≡◌, ℕ, ◌≤◌, List, [], ◌∷◌, ◌++◌, length, take, ap, ◌∙◌, sym, append_assoc, append-nil, arith}
use Rattle.std.specs.Prelude.{decimal}
use Rattle.std.specs.List.{flat_map}
use Rattle.std.proofs.lemmas.List.{take_all}
use Rattle.capnp_values_print.specs.Texts.{number_list}
use Rattle.capnp_values_print.proofs.TextLemmas.{with_comma, number_list-cons, number_list-nil}
use Rattle.capnp_values_print.proofs.single.push_numbers.Goals as goal

-- nothing is appended for no byte
nothing : (old bs : List ℕ) → length bs ≡ 0 → old ≡ old ++ number_list bs
nothing old [] h = sym (ap (λ x. old ++ x) number_list-nil ∙ append-nil old)
nothing old (b ∷ bs) h = absurd (omega arith)

pub returns-in_default : goal.returns-in_default
returns-in_default c = nothing c.args.out.now.items c.args.bytes.now c.in_default.ensures.cases

-- the first number, and then each other with a comma in front
joined_up : (old mid out bs : List ℕ) (b : ℕ) (others : List ℕ) (n : ℕ) → bs ≡ b ∷ others → mid ≡ old ++ decimal b → out ≡ mid ++ flat_map with_comma (take n others) → length others ≤ n → out ≡ old ++ number_list bs
joined_up old mid out bs b others n is first more all =
    more ∙ ap (λ x. mid ++ flat_map with_comma x) (take_all n others all) ∙ ap (λ x. x ++ flat_map with_comma others) first
    ∙ append_assoc old (decimal b) (flat_map with_comma others) ∙ ap (λ x. old ++ x) (sym (number_list-cons b others)) ∙ ap (λ x. old ++ number_list x) (sym is)

pub returns : goal.returns
returns c = joined_up c.args.out.now.items c.push_unsigned.new.out.items c.loop-byte.out.items c.args.bytes.now c.in-Some.first.now c.in-Some.others.now c.loop-byte.byte-index c.in-Some.ensures.cases.0 c.in_ok-push_unsigned.ensures c.loop-byte.invariant c.loop-byte-test.false
