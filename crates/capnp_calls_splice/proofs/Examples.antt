-- Values after splices, and their canonical words, as the encoding document gives them.
use Rattle.std.proofs.Common.{◌≡◌, ℕ, [], ◌∷◌, codes, refl, lit<, lit≤}
use Rattle.capnp_model.specs.Trees.{Tree, null, structure, pointer_list, struct_list, none, ◌▸◌, no_elements, element, with_child}
use Rattle.capnp_model.specs.Calls.{text_tree}
use Rattle.capnp_model.specs.Encoding.{canonical_words}
use Rattle.capnp_model.specs.Edits.{Cell}
use Rattle.capnp_calls_splice.specs.Splices.{IsBlobSlot, PutsNumber, PutsBehind}
use Rattle.capnp_calls_splice.specs.Cells.{shifted}
use Rattle.capnp_calls_splice.specs.declared.plain.PlainSet.{PlainSet}
use Rattle.capnp_calls_splice.specs.declared.splice.Hop.TheVariants as hops
use Rattle.capnp_calls_splice.specs.declared.splice.Put.TheVariants as puts

-- ---- a number

-- 7 in the upper half of the first word
abbrev seven : PlainSet
seven = record { word = 0; shift = 32; width = 32; bits = 7; some = lit< tt; inside = lit≤ tt; fits = lit< tt }

abbrev cell : ℕ → Cell
cell n = record { section = n; kids = none }

-- a root's cell with one child
abbrev above : Tree → Cell
above t = record { section = 0; kids = t ▸ none }

seven_is_put : PutsNumber seven 1 1 (cell 5) (cell 0x7_0000_0005)
seven_is_put = record { made = refl; fits = lit< tt; most = lit≤ tt; least = λ e. refl }

number_in_a_child : PutsBehind (puts.Number seven) (hops.Pointer 0 ∷ []) 0 0 (above (structure 1 5 none)) (above (structure 1 0x7_0000_0005 none))
number_in_a_child = (refl, structure 1 0x7_0000_0005 none, (1, cell 0x7_0000_0005, seven_is_put, refl), refl)

number_in_an_element : PutsBehind (puts.Number seven) (hops.Element 0 1 ∷ []) 0 0 (above (struct_list 1 0 (element 4 none (element 5 none no_elements)))) (above (struct_list 1 0 (element 4 none (element 0x7_0000_0005 none no_elements))))
number_in_an_element = (
  refl,
  struct_list 1 0 (element 4 none (element 0x7_0000_0005 none no_elements)),
  (element 4 none (element 0x7_0000_0005 none no_elements), (element 0x7_0000_0005 none no_elements, (cell 0x7_0000_0005, seven_is_put, refl), refl), refl),
  refl,
)

-- ---- structs that get wider or narrower

-- a number in the second word, 0 and 9
abbrev none_there : PlainSet
none_there = record { word = 1; shift = 0; width = 64; bits = 0; some = lit< tt; inside = lit≤ tt; fits = lit< tt }

abbrev nine : PlainSet
nine = record { word = 1; shift = 0; width = 64; bits = 9; some = lit< tt; inside = lit≤ tt; fits = lit< tt }

gets_wider : PutsNumber nine 1 2 (cell 5) (cell 0x9_0000_0000_0000_0005)
gets_wider = record { made = refl; fits = lit< tt; most = lit≤ tt; least = λ e. refl }

gets_narrower : PutsNumber none_there 2 1 (cell 0x9_0000_0000_0000_0005) (cell 5)
gets_narrower = record { made = refl; fits = lit< tt; most = lit≤ tt; least = λ e. refl }

wider_child : PutsBehind (puts.Number nine) (hops.Pointer 0 ∷ []) 0 0 (above (structure 1 5 none)) (above (structure 2 0x9_0000_0000_0000_0005 none))
wider_child = (refl, structure 2 0x9_0000_0000_0000_0005 none, (2, cell 0x9_0000_0000_0000_0005, gets_wider, refl), refl)

-- its pointer tells one word more, and that behind it that its struct lies one word further on
words_before : canonical_words (structure 0 0 (structure 1 5 none ▸ structure 1 3 none ▸ none)) ≡ 0x2_0000_0000_0000 ∷ 0x1_0000_0004 ∷ 0x1_0000_0004 ∷ 5 ∷ 3 ∷ []
unfolding canonical_words
words_before = refl

words_after : canonical_words (structure 0 0 (structure 2 0x9_0000_0000_0000_0005 none ▸ structure 1 3 none ▸ none)) ≡ 0x2_0000_0000_0000 ∷ 0x2_0000_0004 ∷ 0x1_0000_0008 ∷ 5 ∷ 9 ∷ 3 ∷ []
unfolding canonical_words
words_after = refl

words_of_elements : canonical_words (structure 0 0 (struct_list 1 0 (element 4 none (element 5 none no_elements)) ▸ none)) ≡ 0x1_0000_0000_0000 ∷ 0x17_0000_0001 ∷ 0x1_0000_0008 ∷ 4 ∷ 5 ∷ []
unfolding canonical_words
words_of_elements = refl

-- ---- a text

-- the pointer behind it tells that its struct lies one word off
short_text : canonical_words (structure 0 0 (text_tree (codes "hi") ▸ structure 1 9 none ▸ none)) ≡ 0x2_0000_0000_0000 ∷ 0x1a_0000_0005 ∷ 0x1_0000_0004 ∷ 0x6968 ∷ 9 ∷ []
unfolding canonical_words
short_text = refl

-- in place of null before that struct, whose pointer told none off
null_before : canonical_words (structure 0 0 (null ▸ structure 1 9 none ▸ none)) ≡ 0x2_0000_0000_0000 ∷ 0 ∷ 0x1_0000_0000 ∷ 9 ∷ []
unfolding canonical_words
null_before = refl

takes_null : IsBlobSlot 0 (null ▸ structure 1 9 none ▸ none)
takes_null = record { inside = lit< tt; takes = lit< tt }

text_for_null : canonical_words (structure 0 0 (with_child (null ▸ structure 1 9 none ▸ none) 0 (text_tree (codes "hi")))) ≡ 0x2_0000_0000_0000 ∷ 0x1a_0000_0005 ∷ 0x1_0000_0004 ∷ 0x6968 ∷ 9 ∷ []
unfolding canonical_words
text_for_null = refl

-- in place of null behind the last text of a list
takes_last : IsBlobSlot 1 (text_tree (codes "hi") ▸ null ▸ none)
takes_last = record { inside = lit< tt; takes = lit< tt }

text_at_the_end : canonical_words (structure 0 0 (pointer_list (with_child (text_tree (codes "hi") ▸ null ▸ none) 1 (text_tree (codes "ho"))) ▸ none))
    ≡ 0x1_0000_0000_0000 ∷ 0x16_0000_0001 ∷ 0x1a_0000_0005 ∷ 0x1a_0000_0005 ∷ 0x6968 ∷ 0x6f68 ∷ []
unfolding canonical_words
text_at_the_end = refl

-- a text of two words before a struct, which lies two off
long_text : canonical_words (structure 0 0 (with_child (text_tree (codes "hi") ▸ structure 1 9 none ▸ none) 0 (text_tree (codes "Hello, World!"))))
    ≡ 0x2_0000_0000_0000 ∷ 0x72_0000_0005 ∷ 0x1_0000_0008 ∷ 0x57202c6f6c6c6548 ∷ 0x21646c726f ∷ 9 ∷ []
unfolding canonical_words
long_text = refl

-- ---- pointers that are moved by a word, and those that aren't

on_by_a_word : shifted 4 0x1_0000_0004 ≡ 0x1_0000_0008
on_by_a_word = refl

back_by_a_word : shifted 0xffff_ffff_ffff_fffc 0x1_0000_0008 ≡ 0x1_0000_0004
back_by_a_word = refl

null_stays : shifted 4 0 ≡ 0
null_stays = refl

pub empty_struct_stays : shifted 4 0xffff_fffc ≡ 0xffff_fffc
empty_struct_stays = refl
