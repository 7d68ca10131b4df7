-- Where paths end, as the schema's queries tell.
use Rattle.std.proofs.Common.{◌≡◌, ℕ, zero, suc, Bool, true, false, if◌then◌else◌, Option, Some, None, option_map, List, [], ◌∷◌, refl, ap, sym, ◌∙◌}
use Rattle.std.specs.Str.{bytes_eq}
use Rattle.capnp_model.specs.Schemas.{Fields, no_fields, field, Body, Schema}
use Rattle.capnp_model.specs.Calls.{Step}
use Rattle.capnp_model.specs.InKindCalls.{PathEnd, at_slot, end_at, next_end, end_of}
use Rattle.capnp_model.specs.Steps.{target, target_if, target_of}
use Rattle.capnp_values_queries.specs.Fields.{Entry, field_at, place_of_name}

abbrev body_at : Fields → ℕ → Option Body
body_at fs i = option_map (λ (e : Entry). e.body) (field_at fs i)

-- the field at the first index of a name is where the name ends
pub end_named : (n : List ℕ) (fs : Fields) (i : ℕ) (b : Body) → Some i ≡ place_of_name n fs → option_map (λ (e : Entry). e.body) (field_at fs i) ≡ Some b → at_slot b ≡ end_at (target_of n fs)
end_named n no_fields i b place is = absurd cc
end_named n (field m member body fs) i b place is = by (bytes_eq m n) (end_named n fs) (place_of_name n fs) refl i place is
  where
    by : (t : Bool) → ((j : ℕ) (c : Body) → Some j ≡ place_of_name n fs → body_at fs j ≡ Some c → at_slot c ≡ end_at (target_of n fs)) → (o : Option ℕ) → place_of_name n fs ≡ o
        → (j : ℕ) → Some j ≡ (if t then Some 0 else option_map (λ k. suc k) o) → body_at (field m member body fs) j ≡ Some b → at_slot b ≡ end_at (target_if t (target member body) (target_of n fs))
    by true again o at zero h here = let same : body ≡ b = cc here in ap (λ (c : Body). at_slot c) (sym same)
    by true again o at (suc j) h here = absurd cc
    by false again None at j h here = absurd cc
    by false again (Some k) at zero h here = absurd cc
    by false again (Some k) at (suc j) h here = let same : j ≡ k = cc in again j b (ap (λ (x : ℕ). Some x) same ∙ sym at) here

-- ---- along a path

pub none_left : (s : Schema) (at : PathEnd) → end_of s [] at ≡ at
unfolding end_of
none_left s at = refl

pub one_step : (s : Schema) (st : Step) (path : List Step) (at : PathEnd) → end_of s (st ∷ path) at ≡ end_of s path (next_end s st at)
unfolding end_of
one_step s st path at = refl
