-- The words of a root's data. (Encoding, "Structs")
use Rattle.std.specs.Prelude.{◌≡◌, ℕ, ◌+◌, ◌*◌, ◌^◌, ◌<◌, List, [], ◌∷◌, length}
use Rattle.capnp_model.specs.Sections.{with_bits, words_of, needed_words}
use Rattle.capnp_model.specs.Trees.{Tree, Trees, structure}
use Rattle.capnp_model.specs.Encoding.{canonical_words}
use Rattle.capnp_wire_canonical.specs.Writes.{words_view}
use Rattle.capnp_calls_splice.specs.declared.plain.PlainSet.{PlainSet}

-- The section after a number is put there.
abbrev pub put_set : PlainSet → ℕ → ℕ
put_set p section = with_bits (64 * p.word + p.shift) p.width p.bits section

-- The section after numbers are put there, one after the other.
abbrev pub put_sets : List PlainSet → ℕ → ℕ
put_sets [] section = section
put_sets (p ∷ ps) section = put_sets ps (put_set p section)

-- A slice has the words of a section.
pub record AreData (slice : List (List ℕ)) (section : ℕ) : Type 0 where
  pub fits : section < 2 ^ (64 * length slice)
  pub words : words_view slice ≡ words_of (length slice) section

-- The value is a struct of n words of data.
abbrev pub HasData : ℕ → Tree → Type 0
HasData n (structure words section kids) = n ≡ words
HasData n _ = ⊥

-- These are the words of a struct after numbers are put into its data, the last word of which isn't zero.
pub record AreRootAfter (sets : List PlainSet) (n section : ℕ) (kids : Trees) (new : List ℕ) : Type 0 where
  pub fits : put_sets sets section < 2 ^ (64 * n)
  pub least : needed_words n (put_sets sets section) ≡ n
  pub words : new ≡ canonical_words (structure n (put_sets sets section) kids)

-- These are the words of a value, which is a struct, after numbers are put into its data, the last
-- word of which isn't zero.
abbrev pub AreWordsAfter : List PlainSet → Tree → List ℕ → Type 0
AreWordsAfter sets (structure n section kids) new = AreRootAfter sets n section kids new
AreWordsAfter sets _ new = ⊥
