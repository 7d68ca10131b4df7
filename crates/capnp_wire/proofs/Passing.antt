-- Steps that pass or refuse, as the code takes them.
use Rattle.std.proofs.Common.{◌≡◌, ℕ, Bool, true, false, Option, Result, Ok, Err, ap, ◌∙◌}
use Rattle.capnp_model.specs.Kinds.{Kind}
use Rattle.capnp_model.specs.Chains.{◌and_then◌, guard}
use Rattle.capnp_units.specs.declared.errors.Error.{Error}
use Rattle.capnp_units.specs.Errors.{kind_of}
use Rattle.capnp_wire_objects.specs.Places.{seen}
use Rattle.capnp_wire.specs.Levels.{level_below}

-- ---- steps

-- the test holds
pub passed : {A : Type 0} (b : Bool) (k : Kind) (r : Result A Kind) → true ≡ b → r ≡ (guard b k and_then λ _. r)
passed b k r e = ap (λ (c : Bool). guard c k and_then λ _. r) e

-- it doesn't
pub not_passed : {A : Type 0} (b : Bool) (d k : Kind) (r : Result A Kind) → false ≡ b → d ≡ k → Err d ≡ (guard b k and_then λ _. r)
not_passed {A = A} b d k r e f = ap (λ (x : Kind). let s : Result A Kind = Err x in s) f ∙ ap (λ (c : Bool). guard c k and_then λ _. r) e

-- a level is left
pub level_left : {A : Type 0} (levels left : Option ℕ) (f : Option ℕ → Result A Kind) (r : Result A Kind) → Ok left ≡ level_below levels → r ≡ f left → r ≡ (level_below levels and_then f)
level_left levels left f r e h = h ∙ ap (λ (l : Result (Option ℕ) Kind). l and_then f) e

-- none is left
pub no_level : {X A : Type 0} (view : X → A) (levels : Option ℕ) (f : Option ℕ → Result A Kind) (d e : Error) (r : Result X Error) → r ≡ Err e → e ≡ d → Err (kind_of d.kind) ≡ level_below levels → seen view r ≡ (level_below levels and_then f)
no_level view levels f d e r a b h =
    ap (seen view) (a ∙ ap (λ (x : Error). Err x) b) ∙ ap (λ (l : Result (Option ℕ) Kind). l and_then f) h
