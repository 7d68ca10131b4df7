-- Words that an arena allocates.
use Rattle.std.specs.Prelude.{◌≡◌, ◌⊎◌, ℕ, ◌+◌, ◌-◌, ◌^◌, ◌*◌, ◌<◌, ◌≤◌, List, [], ◌∷◌, length, map, take, get_or}
use Rattle.capnp_model.specs.Segments.{Segments}
use Rattle.capnp_units.specs.Segments.{whole_words, words_in}
use Rattle.capnp_units.specs.declared.errors.Error.{Error}
use Rattle.capnp_units.specs.declared.kinds.ErrorKind.{ErrorKind}
use Rattle.capnp_model_writes.specs.Writes.{with_zeros, segment_end}

-- The words of all segments.
unfoldable pub total_words : Segments → ℕ
total_words [] = 0
total_words (xs ∷ s) = length xs + total_words s

-- n zero words are new at the end of the ith segment, from a position on, and the message keeps its
-- limit.
pub record Allocates (s u : Segments) (i at n : ℕ) : Type 0 where
  pub among : i ≤ length s
  pub end : at ≡ segment_end s i
  pub few : total_words s + n < 2 ^ 29
  pub now : u ≡ with_zeros s i n

-- The ith segment is there, n words of it are free, and the message may have as many more. The list
-- tells the free words of each segment.
abbrev pub HasRoom : Segments → List ℕ → ℕ → ℕ → Type 0
HasRoom s free i n = (i < length s) × (n ≤ get_or free i 0) × (total_words s + n < 2 ^ 29)

-- With n words more, a message of these segments' bytes would pass its limit of 2^29 - 1.
abbrev pub PassesLimit : List (List ℕ) → ℕ → Type 0
PassesLimit bytes n = 2 ^ 29 ≤ total_words (words_in bytes) + n

-- A message of these bytes would pass that limit with n words more, or whoever is asked for them
-- refuses with the error's kind.
abbrev pub PassesOrRefused : List (List ℕ) → (ℕ → ErrorKind → Type 0) → ℕ → Error → Type 0
PassesOrRefused bytes refuses n e = PassesLimit bytes n ⊎ refuses n e.kind

-- The ith of these segments is there, and n zero words are new at its end.
abbrev pub AllocatesIn : List (List ℕ) → List (List ℕ) → ℕ → ℕ → ℕ → Type 0
AllocatesIn old new i n at = (i < length old) × Allocates (words_in old) (words_in new) i at n

-- The last of these segments, by their bytes, lacks room for n words.
abbrev pub LastIsFull : List (List ℕ) → List ℕ → ℕ → Type 0
LastIsFull bytes free n = HasRoom (words_in bytes) free (length bytes - 1) n → ⊥

-- The ith of these segments is there, or is new since the last lacks room for n words.
abbrev pub IsThereOrNew : List (List ℕ) → List ℕ → ℕ → ℕ → Type 0
IsThereOrNew bytes free n i = (i < length bytes) ⊎ LastIsFull bytes free n

-- Where the ith segment had room for n words, exactly these are new in the message, so that no word
-- is a new pad. The list tells the free words of each segment.
abbrev pub TakesJust : Segments → List ℕ → Segments → ℕ → ℕ → Type 0
TakesJust s free u i n = HasRoom s free i n → map length u ≡ map length (with_zeros s i n)

-- At most n words are new in the message, and m more for pads; none where no words are wanted.
abbrev pub TakesAtMost : Segments → Segments → ℕ → ℕ → Type 0
TakesAtMost s u n pads = (total_words u ≤ total_words s + (n + pads)) × (n ≡ 0 → total_words u ≤ total_words s)

-- n words fewer of the ith segment are free. The lists tell the free words of each segment.
abbrev pub UsesRoom : List ℕ → List ℕ → ℕ → ℕ → Type 0
UsesRoom old new i n = get_or old i 0 ≡ get_or new i 0 + n

-- Words are wanted, and the ith segment has no room for them, nor has the last for these and a
-- pad's. The list tells the free words of each segment.
abbrev pub NoRoom : Segments → List ℕ → ℕ → ℕ → Type 0
NoRoom s free i n = (0 < n) × (HasRoom s free i n → ⊥) × (HasRoom s free (length s - 1) (n + 1) → ⊥)

-- What is told of each, summed up.
unfoldable pub total_of : {X : Type 0} → (X → ℕ) → List X → ℕ
total_of f [] = 0
total_of f (x ∷ xs) = f x + total_of f xs

-- The words of the first n words' bytes.
abbrev pub words_used : ℕ → List ℕ → List ℕ
words_used n bytes = whole_words (take (8 * n) bytes)
