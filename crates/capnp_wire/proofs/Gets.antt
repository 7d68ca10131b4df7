-- What gets of pointers answer.
use Rattle.std.proofs.Common.{◌≡◌, ℕ, ◌&&◌, not, Bool, true, false, eqb, Option, Some, None, Result, Ok, Err, refl, ap, sym, ◌∙◌, subst, inl, inr}
use Rattle.std.specs.Option.{option_eq}
use Rattle.std.proofs.lemmas.Bool.{eqb-true}
use Rattle.capnp_model.specs.Kinds.{Kind}
use Rattle.capnp_model.specs.Chains.{◌and_then◌, passes}
use Rattle.capnp_model.specs.Segments.{Segments, Place, word_at}
use Rattle.capnp_model.proofs.lemmas.Chaining.{ok_is}
use Rattle.capnp_units.specs.declared.errors.Error.{Error}
use Rattle.capnp_units.specs.declared.limiter.ReadLimiter.{ReadLimiter}
use Rattle.capnp_wire_objects.specs.declared.place.Place as wire
use Rattle.capnp_wire_objects.specs.declared.object.Object.{Object}
use Rattle.capnp_wire_objects.specs.declared.object.Object.TheVariants as object
use Rattle.capnp_wire_objects.specs.declared.object.Found.{Found}
use Rattle.capnp_wire_objects.specs.Places.{seen, place_view}
use Rattle.capnp_wire_objects.specs.Objects.{object_at}
use Rattle.capnp_wire_objects.specs.Follow.{FollowGives, follow_cost}
use Rattle.capnp_wire.specs.Views.{PointerView, place_seen}
use Rattle.capnp_wire.specs.Reached.{IsSomewhere}
use Rattle.capnp_wire.specs.Reads.{is_null_at, is_null_pointer, found_behind, object_behind, is_charged, PaysFor, PaysNothing, IsTooDear, GetGives}

zero_tested : (w : Option ℕ) → option_eq eqb w (Some 0) ≡ passes (λ n. eqb n 0) w
zero_tested None = refl
zero_tested (Some n) = refl

-- Whether a pointer is null is told by whether the word at its place is zero.
pub null_tested : (s : Segments) (o : Option wire.Place) (p : wire.Place) (w : Option ℕ) (b : Bool) → o ≡ Some p → w ≡ word_at s (place_view p) → b ≡ option_eq eqb w (Some 0) → b ≡ is_null_at s (place_seen o)
null_tested s o p w b here word told = told ∙ zero_tested w ∙ ap (passes (λ n. eqb n 0)) word ∙ sym (ap (λ (x : Option wire.Place). is_null_at s (place_seen x)) here)

-- What null is found as.
abbrev pub nothing_found : Found
nothing_found = record { pads = 0; object = object.Null }

zero_names : (s : Segments) (p : Place) → word_at s p ≡ Some 0 → object_at s p ≡ Ok nothing_found
unfolding object_at
zero_names s p e = rw e refl

is_zero : (o : Option ℕ) → passes (λ w. eqb w 0) o ≡ true → o ≡ Some 0
is_zero None h = absurd cc
is_zero (Some w) h = ap Some (eqb-true w 0 h)

pub null_names : (s : Segments) (o : Option Place) → is_null_at s o ≡ true → found_behind s o ≡ Ok nothing_found
null_names s None h = refl
null_names s (Some p) h = zero_names s p (is_zero (word_at s p) h)

-- What names an object that has a place is not null.
pub placed_there : (s : Segments) (q : Place) (o : Object) → object_at s q ≡ Ok (record { pads = 0; object = o }) → IsSomewhere o → is_null_at s (Some q) ≡ false
placed_there s q o names place = by (is_null_at s (Some q)) refl
  where
    by : (b : Bool) → is_null_at s (Some q) ≡ b → b ≡ false
    by false e = refl
    by true e = absurd (subst IsSomewhere (ap (λ (f : Found). f.object) (ok_is _ _ (sym names ∙ null_names s (Some q) e))) place)

uncharged_null : (paid null : Bool) → null ≡ true → (paid && not null) ≡ false
uncharged_null true null h = rw h refl
uncharged_null false null h = refl

charged_there : (paid null : Bool) → paid ≡ true → null ≡ false → (paid && not null) ≡ true
charged_there paid null e h = rw (e, h) refl

uncharged_default : (paid null : Bool) → paid ≡ false → (paid && not null) ≡ false
uncharged_default paid null e = rw e refl

pub null_reached : (p : PointerView) (l : ReadLimiter) → is_null_pointer p ≡ true → GetGives (λ (o : Object). o) (λ o. Ok o) p l (Ok object.Null) l
null_reached p l h =
    let free : is_charged p ≡ false = uncharged_null p.basis.paid (is_null_pointer p) h in
    (nothing_found, null_names p.basis.segments p.place h, subst (λ (b : Bool). PaysFor b l l (follow_cost nothing_found)) (sym free) refl, refl)

module _ (p : PointerView) (q : Place) (here : p.place ≡ Some q) where
  behind : object_behind p ≡ object_at p.basis.segments q
  behind = ap (found_behind p.basis.segments) here

  pub followed : (r : Result Object Error) (old new : ReadLimiter) → p.basis.paid ≡ true → is_null_pointer p ≡ false → FollowGives p.basis.segments q old r new → GetGives (λ (o : Object). o) (λ o. Ok o) p old r new
  followed (Ok o) old new e h f =
      let charged : is_charged p ≡ true = charged_there p.basis.paid (is_null_pointer p) e h in
      let found : Found = record { pads = f.pads; object = o } in
      (found, behind ∙ f.is, subst (λ (b : Bool). PaysFor b old new (follow_cost found)) (sym charged) (f.spends, f.follows), refl)
  followed (Err d) old new e h f =
      let charged : is_charged p ≡ true = charged_there p.basis.paid (is_null_pointer p) e h in
      let nothing = subst (λ (b : Bool). PaysNothing b old new) (sym charged) (f.0, f.1) in
      elim f.2 [
        | inl fault ↦ inl (behind ∙ fault, nothing)
        | inr dear ↦ inr (inl (dear.1, behind ∙ dear.2, dear.0, subst (λ (b : Bool). IsTooDear b old (follow_cost dear.1)) (sym charged) dear.3, nothing))
      ]

  pub read_freely : (f : Found) (l : ReadLimiter) → p.basis.paid ≡ false → object_at p.basis.segments q ≡ Ok f → GetGives (λ (o : Object). o) (λ o. Ok o) p l (Ok f.object) l
  read_freely f l e h =
      let free : is_charged p ≡ false = uncharged_default p.basis.paid (is_null_pointer p) e in
      (f, behind ∙ h, subst (λ (b : Bool). PaysFor b l l (follow_cost f)) (sym free) refl, refl)

-- ---- what is read of what was given

module _ {X Y W : Type 0} (view : X → W) (read : Object → Result Y Kind) (more : Y → Result W Kind) (p : PointerView) (old new : ReadLimiter) where
  -- What is answered is read of what was given.
  pub read_on : (y : Y) (r : Result X Error) → more y ≡ seen view r → GetGives (λ (z : Y). z) read p old (Ok y) new → GetGives view (λ o. read o and_then more) p old r new
  read_on y (Ok x) e g = (g.0, g.1, g.2, ap (λ (z : Result Y Kind). z and_then more) g.3 ∙ e)
  read_on y (Err d) e g = inr (inr (g.0, g.1, g.2, ap (λ (z : Result Y Kind). z and_then more) g.3 ∙ e))

  stays : (d : Error) → GetGives (λ (z : Y). z) read p old (Err d) new → GetGives view (λ o. read o and_then more) p old (Err d) new
  stays d g = elim g [
    | inl fault ↦ inl fault
    | inr later ↦ elim later [
      | inl dear ↦ inr (inl dear)
      | inr unread ↦ inr (inr (unread.0, unread.1, unread.2, ap (λ (z : Result Y Kind). z and_then more) unread.3))
    ]
  ]

  -- A refusal stays.
  pub refused_on : (d e : Error) (r : Result X Error) → r ≡ Err e → e ≡ d → GetGives (λ (z : Y). z) read p old (Err d) new → GetGives view (λ o. read o and_then more) p old r new
  refused_on d e r a b g = subst (λ (q : Result X Error). GetGives view (λ o. read o and_then more) p old q new) (sym (a ∙ ap (λ (x : Error). Err x) b)) (stays d g)

module _ {X W : Type 0} (view : X → W) (more : Object → Result W Kind) (p : PointerView) (old new : ReadLimiter) where
  -- What is answered is read of the object that was reached.
  pub read_of : (o : Object) (r : Result X Error) → more o ≡ seen view r → GetGives (λ (z : Object). z) (λ z. Ok z) p old (Ok o) new → GetGives view more p old r new
  read_of o r e g = read_on {Y = Object} view (λ z. Ok z) more p old new o r e g

  -- Where none was reached it is refused alike.
  pub refused_of : (d e : Error) (r : Result X Error) → r ≡ Err e → e ≡ d → GetGives (λ (z : Object). z) (λ z. Ok z) p old (Err d) new → GetGives view more p old r new
  refused_of d e r a b g = refused_on {Y = Object} view (λ z. Ok z) more p old new d e r a b g
