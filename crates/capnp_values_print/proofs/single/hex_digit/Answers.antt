use Rattle.std.proofs.Common.{◌≡◌, ◌+◌, ◌-◌, ◌∷◌, [], nat_lt, if◌then◌else◌, true, false, ap, ◌∙◌, rules}
use Rattle.capnp_values_print.proofs.TwoBlanks.{hex_sign}
use Rattle.capnp_values_print.proofs.single.hex_digit.Goals as goal

pub returns-then-number-lt10 : goal.returns-then-number-lt10
returns-then-number-lt10 c = hex_sign c.args.number c.requires ∙ ap (λ b. (if b then 48 + c.args.number else 97 + (c.args.number - 10)) ∷ []) (let e : nat_lt c.args.number 10 ≡ true = search (rules, c.if-number-lt10.true) in e)

pub returns-else-number-lt10 : goal.returns-else-number-lt10
returns-else-number-lt10 c = hex_sign c.args.number c.requires ∙ ap (λ b. (if b then 48 + c.args.number else 97 + (c.args.number - 10)) ∷ []) (let e : nat_lt c.args.number 10 ≡ false = search (rules, c.if-number-lt10.false) in e)
