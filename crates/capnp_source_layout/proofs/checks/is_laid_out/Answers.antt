-- slots that were checked are apart
use Rattle.std.proofs.Common.{ℕ, List, All, IsTrue, subst, sym}
use Rattle.std.proofs.lemmas.Result.{IfOk-weaker}
use Rattle.capnp_source_layout.specs.declared.slots.Slot.{Slot}
use Rattle.capnp_source_layout.specs.Certificates.{Extends, AreChecked}
use Rattle.capnp_source_layout.specs.Slots.{IsInside, IsLaidOut}
use Rattle.capnp_source_layout.proofs.Shared.{laid_out}
use Rattle.capnp_source_layout.proofs.checks.is_laid_out.Goals as goal

pub returns : goal.returns
returns c =
    let scopes = c.args.scopes.now in
    let steps = c.args.steps.now in
    let layout = c.args.layout.now in
    let mine = c.in_ok-slots.slots.items in
    let slots = c.deref-2.result.now in
    let longer : Extends mine slots = subst (Extends mine) (sym c.deref-2.ensures.value) (c.in_ok-add_places.ensures {u = tt}) in
    let inside : All (IsInside layout.data_words layout.pointers) mine = subst (All (IsInside layout.data_words layout.pointers)) c.deref.ensures.value (c.are_inside.ensures c.if-not-are_inside.false) in
    IfOk-weaker c.are_checked.result (λ b. IsTrue b → (numbers places : List ℕ) × AreChecked scopes slots numbers places) (λ b. IsTrue b → IsLaidOut scopes steps layout)
    (λ b f is. laid_out scopes steps layout mine slots c.in_ok-slots.ensures inside longer (f is))
    c.are_checked.ensures
