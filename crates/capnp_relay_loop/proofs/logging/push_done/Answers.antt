use Rattle.std.proofs.Common.{◌≡◌, ℕ, ◌+◌, suc, ◌++◌, codes, ap, sym, ◌∙◌, append_assoc, arith}
use Rattle.std.specs.Prelude.{replicate}
use Rattle.std.specs.List.{flat_map}
use Rattle.capnp_model.specs.Answers.{reply_done}
use Rattle.capnp_relay_loop.proofs.LogLemmas.{one_reply, one_more_done}
use Rattle.capnp_relay_loop.proofs.logging.push_done.Goals as goal

pub loop-call-preserved : goal.loop-call-preserved
loop-call-preserved c =
    let n = c.loop-call._call in
    let start = c.args.line.now.items in
    let number : suc n ≡ n + 1 = omega arith in
    c.in_ok-extend_from_slice.ensures.items
    ∙ ap (λ l. l ++ codes "; done") c.loop-call.invariant
    ∙ append_assoc start (flat_map one_reply (replicate n reply_done)) (codes "; done")
    ∙ ap (λ l. start ++ l) (sym (one_more_done n))
    ∙ ap (λ (k : ℕ). start ++ flat_map one_reply (replicate k reply_done)) number
