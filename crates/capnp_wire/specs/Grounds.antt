-- What readers stand on, as their callers see it.
use Rattle.std.specs.Prelude.{Bool, true, false, List, [], ◌∷◌, ℕ}
use Rattle.std.specs.List.{flat_map}
use Rattle.capnp_model.specs.Segments.{Segments}
use Rattle.capnp_units.specs.Segments.{words_in}
use Rattle.capnp_wire.specs.declared.backing.Backing.{Backing}
use Rattle.capnp_wire.specs.declared.backing.Backing.TheVariants as backing

-- The bytes of the segments that a reader sees.
abbrev pub backing_bytes : {A : Type 0} → (A → List (List ℕ)) → Backing A → List (List ℕ)
backing_bytes bytes (backing.Arena a) = bytes a.now
backing_bytes bytes (backing.Default words) = words.now ∷ []

-- Whether what is followed there is paid for.
abbrev pub is_paid : {A : Type 0} → Backing A → Bool
is_paid (backing.Arena a) = true
is_paid (backing.Default words) = false

-- The segments that a reader sees, and whether what is followed there is paid for, as it is but in a default.
pub record Ground : Type 0 where
  pub segments : Segments
  pub paid : Bool

-- What a reader stands on.
abbrev pub ground_of : {A : Type 0} → (A → List (List ℕ)) → Backing A → Ground
ground_of bytes b = record { segments = words_in (backing_bytes bytes b); paid = is_paid b }

-- A default whose words have these bytes.
abbrev pub default_ground : List (List ℕ) → Ground
default_ground words = record { segments = words_in (flat_map (λ word. word) words ∷ []); paid = false }
