use Rattle.std.proofs.Common.{◌≡◌, ◌+◌, ◌/◌, ◌%◌, ◌^◌, [], ◌∷◌, Ok, subst, sym, arith}
use Rattle.capnp_relay_program.proofs.Tables.{behind_is_told, sum_of_word}
use Rattle.capnp_relay_program.proofs.ahead.holds_behind.Goals as goal

pub returns-then-others-eq0 : goal.returns-then-others-eq0
returns-then-others-eq0 g c = λ holds limit.
    let read = g.F.MessageForm.reader in
    let w = c.args.first in
    let behind = c.args.bytes.now in
    let count : (w % 2 ^ 32 + 1) / 2 ≡ 0 = omega arith in
    behind_is_told read limit w behind [] behind (subst (λ n. read n behind ≡ Ok ([], behind)) (sym count) (g.met.F.BoundedForm.none behind))
    (λ n few. c.holds_words.ensures holds n (omega (arith, few)))

pub returns-in-Some : goal.returns-in-Some
returns-in-Some g c = λ holds limit.
    let read = g.F.MessageForm.reader in
    let w = c.args.first in
    let behind = c.args.bytes.now in
    let left = c.in-Some.left.now in
    let second = c.in-Some.second in
    let count : (w % 2 ^ 32 + 1) / 2 ≡ 1 = omega arith in
    behind_is_told read limit w behind (second ∷ []) left (subst (λ n. read n behind ≡ Ok (second ∷ [], left)) (sym count) c.in-Some.ensures)
    (λ n few. c.holds_words-in-Some.ensures holds n (omega (arith, few, sum_of_word second)))
