use Rattle.std.proofs.Common.{◌≡◌, length, None, refl, ◌∙◌}
use Rattle.capnp_relay_program.proofs.Tables.{none_is_told}
use Rattle.capnp_relay_program.proofs.sources.flush_before_wait.Goals as goal

pub returns-then-holds_next-clause-empty : goal.returns-then-holds_next-clause-empty
returns-then-holds_next-clause-empty g c = λ none.
    let bytes = c.window.result.now in
    let empty : length bytes ≡ 0 = c.window.ensures.len ∙ none in
    absurd (c.if-holds_next.ensures refl None (none_is_told g.F.MessageForm.reader g.met.F.MessageForm.fronts None bytes empty))
