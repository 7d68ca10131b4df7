-- Calls that are made of the same parts.
use Rattle.std.proofs.Common.{◌≡◌, List, [], ◌∷◌, Option, Some, None, map, refl, ap, sym, ◌∙◌}
use Rattle.capnp_calls.specs.CallViews.{step_view, taken_value, verb_from, call_from, set_verb, call_along}
use Rattle.capnp_calls.specs.declared.call.Step.{Step}
use Rattle.capnp_calls.specs.declared.call.Verb.{Verb}
use Rattle.capnp_calls.specs.declared.call.Verb.TheVariants as verb
use Rattle.capnp_calls.specs.declared.call.CallValue.{CallValue}
use Rattle.hagzimot_clears.specs.Planned.{taken_if_any}

-- what a verb makes of a value depends on what is taken of it alone
pub same_verb : (v : Verb) (x y : Option CallValue) → taken_if_any x ≡ taken_if_any y → verb_from v x ≡ verb_from v y
same_verb v None None same = refl
same_verb v None (Some b) same = absurd (cc same)
same_verb v (Some a) None same = absurd (cc same)
same_verb verb.Set (Some a) (Some b) same = ap set_verb (some_value same)
  where
    some_value : Some (taken_value a) ≡ Some (taken_value b) → taken_value a ≡ taken_value b
    some_value e = cc e
same_verb verb.Get (Some a) (Some b) same = refl
same_verb verb.Init (Some a) (Some b) same = refl
same_verb (verb.Initn n) (Some a) (Some b) same = refl
same_verb verb.Clear (Some a) (Some b) same = refl

-- a call depends on the views of its parts alone
pub same_call : (p q : List Step) (v : Verb) (x y : Option CallValue) → map step_view p ≡ map step_view q → taken_if_any x ≡ taken_if_any y → call_from p v x ≡ call_from q v y
same_call [] [] v x y path value = refl
same_call [] (t ∷ q) v x y path value = absurd (cc path)
same_call (s ∷ p) [] v x y path value = absurd (cc path)
same_call (s ∷ p) (t ∷ q) v x y path value = ap (λ w. call_along w (verb_from v x)) path ∙ ap (λ r. call_along (map step_view (t ∷ q)) r) (same_verb v x y value)
