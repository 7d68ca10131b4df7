-- A name that stands at no place finds no field.
use Rattle.std.proofs.Common.{◌≡◌, ℕ, suc, Bool, true, false, if◌then◌else◌, Option, Some, None, List, refl}
use Rattle.std.specs.Prelude.{option_map}
use Rattle.std.specs.Str.{bytes_eq}
use Rattle.capnp_model.specs.Schemas.{Fields, no_fields, field}
use Rattle.capnp_model.specs.Steps.{no_target, target, target_if, target_of}
use Rattle.capnp_values_queries.specs.Fields.{place_of_name}

none_mapped : (o : Option ℕ) → option_map (λ i. suc i) o ≡ None → o ≡ None
none_mapped None h = refl
none_mapped (Some i) h = absurd (cc h)

pub not_found : (n : List ℕ) (fs : Fields) → place_of_name n fs ≡ None → target_of n fs ≡ no_target
not_found n no_fields h = refl
not_found n (field m member body fs) h = by (bytes_eq m n) (not_found n fs) h
  where
    by : (b : Bool) → (place_of_name n fs ≡ None → target_of n fs ≡ no_target) → (if b then Some 0 else option_map (λ i. suc i) (place_of_name n fs)) ≡ None → target_if b (target member body) (target_of n fs) ≡ no_target
    by true more k = absurd (cc k)
    by false more k = more (none_mapped (place_of_name n fs) k)
