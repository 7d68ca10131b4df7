use Rattle.std.proofs.Common.{◌≡◌, true, false, refl, sym, ◌∙◌, inl, inr}
use Rattle.capnp_units.specs.Errors.{kind_of}
use Rattle.capnp_calls_replies.proofs.shown.field_reply.Goals as goal

pub returns-clause-text : goal.returns-clause-text
returns-clause-text g c e at =
    let h = c.in-Err.ensures.appends e at in
    elim h [ inl m ↦ (let clash : false ≡ true = sym c.if-eq.false ∙ (rw m at c.eq.ensures) in absurd cc) | inr t ↦ (refl, (kind_of c.in-Err.e.kind, t)) ]
