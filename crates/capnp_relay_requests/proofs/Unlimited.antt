-- Gets without a limit of words.
use Rattle.std.proofs.Common.{◌≡◌, ℕ, sym, ◌∙◌, ap, subst, Bool, true, false, Option, None, Result, Ok, Err, inl, inr, option_map}
use Rattle.std.specs.Result.{result_ok}
use Rattle.capnp_model.specs.Kinds.{Kind}
use Rattle.capnp_model.specs.Chains.{◌and_then◌}
use Rattle.capnp_wire_objects.specs.declared.object.Object.{Object}
use Rattle.capnp_wire_objects.specs.Follow.{follow_cost}
use Rattle.capnp_units.specs.declared.errors.Error.{Error}
use Rattle.capnp_units.specs.declared.limiter.ReadLimiter.{ReadLimiter}
use Rattle.capnp_units.specs.Limits.{left_of, IsPassed}
use Rattle.capnp_wire.specs.Views.{PointerView}
use Rattle.capnp_wire.specs.Reads.{is_charged, IsTooDear, GetGives}
use Rattle.capnp_relay_requests.specs.Places.{read_target}

-- without a limit nothing is too dear
never_dear : (charged : Bool) (old : ReadLimiter) (words : ℕ) → left_of old ≡ None → IsTooDear charged old words → ⊥
never_dear true old words unlimited h = let P : Option ℕ → Type 0 = λ left. IsPassed left words in subst P unlimited h
never_dear false old words unlimited h = h

-- what a get gives is what the object reads as
pub answers_reading : {X Y : Type 0} (view : X → Y) (read : Object → Result Y Kind) (p : PointerView) (old new : ReadLimiter) (r : Result X Error) → left_of old ≡ None → GetGives view read p old r new → option_map view (result_ok r) ≡ result_ok (read_target read p)
answers_reading view read p old new (Ok x) unlimited (f, is, pays, reads) = sym (ap result_ok (ap (λ o. o and_then λ g. read g.object) is ∙ reads))
answers_reading view read p old new (Err e) unlimited g =
    elim g [
      | inl h ↦ sym (ap result_ok (ap (λ o. o and_then λ g. read g.object) h.0))
      | inr h ↦ elim h [
        | inl dear ↦ absurd (never_dear (is_charged p) old (follow_cost dear.0) unlimited dear.3)
        | inr unread ↦ sym (ap result_ok (ap (λ o. o and_then λ g. read g.object) unread.1 ∙ unread.3))
      ]
    ]
