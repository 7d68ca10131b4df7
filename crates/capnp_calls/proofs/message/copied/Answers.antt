use Rattle.std.proofs.Common.{rules, ◌≡◌, ℕ, ◌/◌, List, length, sym, subst, arith}
use Rattle.std.specs.Prelude.{IfOk}
use Rattle.capnp_model.proofs.lemmas.ByteLists.{words_spell}
use Rattle.capnp_calls.proofs.message.copied.Goals as goal

pub returns : goal.returns
returns c =
    let bytes = c.args.bytes.now in
    let same = words_spell (length bytes / 8) bytes (omega (arith, c.requires)) (λ i. omega (arith, c.type_inv.bytes i)) in
    subst (λ (xs : List ℕ). IfOk c.to_vec.result (λ v. v.items ≡ xs)) (sym same) (search rules)
