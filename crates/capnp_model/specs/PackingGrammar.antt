-- The grammar of packed words, as a relation by cases. (Encoding, "Packing")
use Rattle.std.specs.Prelude.{◌≡◌, ◌≢◌, ℕ, zero, suc, ◌/◌, ◌%◌, List, [], ◌∷◌, ◌++◌, length, replicate}
use Rattle.std.specs.Int.{w64, from_le_bytes}

-- The bytes of a word, of which the tag marks these: bit i marks byte i, and a byte that isn't marked is zero.
pub data Marked : ℕ → List ℕ → List ℕ → Type 0 where
  marked_end : {t : ℕ} → Marked t [] []
  marked_zero : {t : ℕ} {text word : List ℕ} → t % 2 ≡ 0 → Marked (t / 2) text word → Marked t text (0 ∷ word)
  marked_byte : {t : ℕ} {text word : List ℕ} (b : ℕ) → t % 2 ≡ 1 → Marked (t / 2) text word → Marked t (b ∷ text) (b ∷ word)

-- The bytes of n words, as they are.
pub data AsTheyAre : ℕ → List ℕ → List ℕ → Type 0 where
  are_none : AsTheyAre zero [] []
  are_more : {k : ℕ} {text words : List ℕ} (word : List ℕ) → length word ≡ 8 → AsTheyAre k text words → AsTheyAre (suc k) (word ++ text) (from_le_bytes w64 word ∷ words)

-- Groups, one behind the other, spell words. A group is a word's tag and the bytes that it marks.
-- After the tag 0 stands a count of further zero words. After the tag 255, which marks all bytes,
-- stands a count of further words, and these as they are.
pub data Spell : List ℕ → List ℕ → Type 0 where
  spell_nothing : Spell [] []
  spell_word : {text rest words : List ℕ} (t : ℕ) (word : List ℕ) → t ≢ 0 → t ≢ 255 → length word ≡ 8 → Marked t text word → Spell rest words → Spell (t ∷ (text ++ rest)) (from_le_bytes w64 word ∷ words)
  spell_zeros : {rest words : List ℕ} (k : ℕ) → Spell rest words → Spell (0 ∷ k ∷ rest) (0 ∷ (replicate k 0 ++ words))
  spell_verbatim : {text rest run words : List ℕ} (k : ℕ) (word : List ℕ) → length word ≡ 8 → AsTheyAre k text run → Spell rest words → Spell (255 ∷ (word ++ (k ∷ (text ++ rest)))) (from_le_bytes w64 word ∷ (run ++ words))

-- A text is a piece of these words: groups that spell exactly them, so that no run passes its end.
abbrev pub IsPiece : List ℕ → List ℕ → Type 0
IsPiece text words = Spell text words
