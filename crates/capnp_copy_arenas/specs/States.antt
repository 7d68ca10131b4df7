-- What an arena holds, seen before and after.
use Rattle.std.specs.Prelude.{◌≡◌, ℕ, List, length, map, true}
use Rattle.std.specs.Option.{is_some}
use Rattle.capnp_model.specs.Segments.{words_at}
use Rattle.capnp_units.specs.Segments.{words_in}
use Rattle.capnp_wire_objects.specs.declared.place.Place as code
use Rattle.capnp_wire_objects.specs.Places.{place_view}

-- The bytes of each segment, how many words of it are free, and the names of what the arena borrows.
pub record ArenaState : Type 0 where
  pub segments : List (List ℕ)
  pub room : List ℕ
  pub books : List (List ℕ)

-- That of an arena, by the members that tell it.
abbrev pub state_in : {X : Type 0} → (X → List (List ℕ)) → (X → List ℕ) → (X → List (List ℕ)) → X → ArenaState
state_in segments room books arena = record { segments = segments arena; room = room arena; books = books arena }

-- n words from a place on are there, in segments of these bytes.
abbrev pub HasWords : List (List ℕ) → code.Place → ℕ → Type 0
HasWords bytes start n = is_some (words_at (words_in bytes) (place_view start) n) ≡ true

-- No segment changes its length, in words.
abbrev pub KeepsSizes : List (List ℕ) → List (List ℕ) → Type 0
KeepsSizes old new = map length (words_in new) ≡ map length (words_in old)
