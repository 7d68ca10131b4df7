-- Defaults that are written in place of null.
use Rattle.std.specs.Prelude.{◌≡◌, ⊤, ℕ, ◌==◌, Bool, true, false, ◌||◌, not, List, [], ◌∷◌, None, Result, Ok, unwrap_or}
use Rattle.std.specs.List.{flat_map}
use Rattle.capnp_model.specs.Segments.{Segments, Place, root, word_at}
use Rattle.capnp_units.specs.declared.errors.Error.{Error}
use Rattle.capnp_units.specs.declared.limiter.ReadLimiter.{ReadLimiter}
use Rattle.capnp_units.specs.Limits.{limit_of, granted_of}
use Rattle.capnp_units.specs.Segments.{words_in}
use Rattle.capnp_model.specs.Sizes.{object_words}
use Rattle.capnp_model.specs.Visits.{visits}
use Rattle.capnp_copy_arenas.specs.States.{ArenaState}
use Rattle.capnp_copy_values.specs.Copies.{copy_source, limited_words, copy_of_value, CopiesValue, IsStoppedOr}
use Rattle.capnp_copy_values.specs.Fits.{limited_arena, wanted, FitsCopy, HasLongList}

-- The one segment that has these words.
abbrev pub default_segments : List (List ℕ) → Segments
default_segments words = words_in (flat_map (λ word. word) words ∷ [])

-- Whether the pointer at a place is null, or not there.
abbrev pub is_null_or_absent : Segments → Place → Bool
is_null_or_absent s p = unwrap_or (word_at s p) 0 == 0

-- A default's root was copied, under no limit of words, from a count of none on.
pub record CopiesDefault (default s u : Segments) (p : Place) (result : Result ⊤ Error) : Type 0 where
  pub old : ReadLimiter
  pub new : ReadLimiter
  pub endless : limit_of old ≡ None
  pub unused : granted_of old ≡ 0
  pub copies : CopiesValue (copy_source 64 default root) p (limited_words s old) result (limited_words u new)

-- It was written exactly where there was null, and the default's root isn't; else all stands as it
-- was.
pub record WritesDefault (default s u : Segments) (p : Place) (result : Result ⊤ Error) : Type 0 where
  pub written : is_null_or_absent s p ≡ true → is_null_or_absent default root ≡ false → CopiesDefault default s u p result
  pub kept : (not (is_null_or_absent s p) || is_null_or_absent default root) ≡ true → (u ≡ s) × (result ≡ Ok tt)

-- The copy of a default, with what it takes where the ith segment has room, and why it is refused.
-- Of the latter `told` tells what comes of no fault in the default.
pub record DefaultFits (default : Segments) (i : ℕ) (s u : ArenaState) (result : Result ⊤ Error) (told : Error → Type 0) : Type 0 where
  pub old : ReadLimiter
  pub new : ReadLimiter
  pub endless : limit_of old ≡ None
  pub fits : FitsCopy (copy_of_value (copy_source 64 default root)) (wanted object_words (HasLongList default) i) (limited_arena s old) result (limited_arena u new)
  pub cause : IsStoppedOr (visits 64 default root) old new told result

-- It is made exactly where there was null, and the default's root isn't; else all stands, and
-- nothing is refused.
pub record TellsDefault (default : Segments) (p : Place) (s u : ArenaState) (result : Result ⊤ Error) (told : Error → Type 0) : Type 0 where
  pub written : is_null_or_absent (words_in s.segments) p ≡ true → is_null_or_absent default root ≡ false → DefaultFits default p.segment s u result told
  pub kept : (not (is_null_or_absent (words_in s.segments) p) || is_null_or_absent default root) ≡ true → (u.room ≡ s.room) × (result ≡ Ok tt)
