-- Gets without a limit of words.
use Rattle.std.proofs.Common.{◌≡◌, ℕ, sym, ◌∙◌, ap, subst, Bool, true, false, List, length, ◌/◌, Option, Some, None, Result, Ok, Err, inl, inr}
use Rattle.std.specs.Simd.{first_chunks}
use Rattle.capnp_model.specs.Kinds.{Kind}
use Rattle.capnp_model.specs.Chains.{◌and_then◌}
use Rattle.capnp_wire_objects.specs.declared.object.Object.{Object}
use Rattle.capnp_wire_objects.specs.Places.{seen}
use Rattle.capnp_wire_objects.specs.Follow.{follow_cost}
use Rattle.capnp_units.specs.declared.errors.Error.{Error}
use Rattle.capnp_units.specs.declared.limiter.ReadLimiter.{ReadLimiter}
use Rattle.capnp_units.specs.Limits.{left_of, IsPassed}
use Rattle.capnp_wire.specs.Views.{PointerView}
use Rattle.capnp_wire.specs.Reads.{is_charged, IsTooDear, GetGives, with_default, unless_null, default_root}
use Rattle.capnp_values.specs.Sources.{read_behind, null_default, default_pointer}

-- without a limit nothing is too dear
never_dear : (charged : Bool) (old : ReadLimiter) (words : ℕ) → left_of old ≡ None → IsTooDear charged old words → ⊥
never_dear true old words unlimited h = let P : Option ℕ → Type 0 = λ left. IsPassed left words in subst P unlimited h
never_dear false old words unlimited h = h

-- what a get answers is what the object reads as
pub answers_reading : {X Y : Type 0} (view : X → Y) (read : Object → Result Y Kind) (p : PointerView) (old new : ReadLimiter) (r : Result X Error) → left_of old ≡ None → GetGives view read p old r new → seen view r ≡ read_behind read p
answers_reading view read p old new (Ok x) unlimited (f, is, pays, reads) = sym (ap (λ o. o and_then λ g. read g.object) is ∙ reads)
answers_reading view read p old new (Err e) unlimited g =
    elim g [
      | inl h ↦ sym (ap (λ o. o and_then λ g. read g.object) h.0)
      | inr h ↦ elim h [
        | inl dear ↦ absurd (never_dear (is_charged p) old (follow_cost dear.0) unlimited dear.3)
        | inr unread ↦ sym (ap (λ o. o and_then λ g. read g.object) unread.1 ∙ unread.3)
      ]
    ]

-- a default is read in place of the null pointer
pub answers_default : {X Y : Type 0} (view : X → Y) (read : PointerView → Object → Result Y Kind) (v : PointerView) (words : List (List ℕ)) (bytes : List ℕ) (old new : ReadLimiter) (r : Result X Error) → left_of old ≡ None → v ≡ null_default → words ≡ first_chunks 8 (length bytes / 8) bytes → GetGives view (read (with_default v (Some words))) (with_default v (Some words)) old r new → seen view r ≡ read_behind (read (default_pointer bytes)) (default_pointer bytes)
answers_default {Y = Y} view read v words bytes old new r unlimited null chunks gives =
    let same : with_default v (Some words) ≡ default_pointer bytes = ap (λ p. with_default p (Some words)) null ∙ ap (λ w. unless_null null_default (default_root w (Some 64))) chunks in
    let P : PointerView → Type 0 = λ p. seen view r ≡ read_behind (read p) p in
    subst P same (answers_reading view (read (with_default v (Some words))) (with_default v (Some words)) old new r unlimited gives)
