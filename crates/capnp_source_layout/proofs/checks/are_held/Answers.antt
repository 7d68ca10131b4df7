-- one slot more
use Rattle.std.proofs.Common.{◌∙◌, subst, arith}
use Rattle.std.proofs.lemmas.List.{get_or_default}
use Rattle.std.proofs.lemmas.List.Elements.{AllWithin-more}
use Rattle.capnp_source_layout.specs.Certificates.{IsHeld}
use Rattle.capnp_source_layout.specs.Slots.{no_slot}
use Rattle.capnp_source_layout.proofs.checks.are_held.Goals as goal

pub loop-number-preserved : goal.loop-number-preserved
loop-number-preserved c =
    let slots = c.args.slots.now in
    let n = c.loop-number.number in
    AllWithin-more (IsHeld c.args.scopes.now slots) slots 0 n c.loop-number.invariant
    (λ d. subst (IsHeld c.args.scopes.now slots) (c.slot_at.ensures ∙ get_or_default slots n (no_slot 0) d (omega arith)) (c.is_held.ensures c.if-not-is_held.false))
