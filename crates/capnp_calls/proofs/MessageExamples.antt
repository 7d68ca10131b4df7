-- Values of messages, computed.
use Rattle.std.proofs.Common.{◌≡◌, ℕ, Some, None, List, [], ◌∷◌, ◌++◌, refl}
use Rattle.capnp_model.specs.Trees.{null, structure, none, has_capability}
use Rattle.capnp_model.specs.Trimming.{trim}
use Rattle.capnp_model.specs.Messages.{message_at}
use Rattle.capnp_model.specs.Traversal.{tree_at, cost_at}
use Rattle.capnp_model.specs.Answers.{value_within}
use Rattle.capnp_calls.specs.Frames.{value_in}

-- A struct of two words, 7 and 0.
seven : List ℕ
seven = 0 ∷ 0 ∷ 0 ∷ 0 ∷ 3 ∷ 0 ∷ 0 ∷ 0 ∷ 0 ∷ 0 ∷ 0 ∷ 0 ∷ 2 ∷ 0 ∷ 0 ∷ 0 ∷ 7 ∷ 0 ∷ 0 ∷ 0 ∷ 0 ∷ 0 ∷ 0 ∷ 0 ∷ 0 ∷ 0 ∷ 0 ∷ 0 ∷ 0 ∷ 0 ∷ 0 ∷ 0 ∷ []

-- The word behind the 7 is left out.
trimmed : value_in seven ≡ Some (structure 1 7 none)
unfolding seven value_in message_at value_within tree_at cost_at trim has_capability
trimmed = refl

-- A byte behind the frame.
longer : value_in (seven ++ 0 ∷ []) ≡ None
unfolding seven value_in message_at
longer = refl

-- No byte, and a frame of no word.
no_frame : value_in [] ≡ None
unfolding value_in message_at
no_frame = refl

no_word : value_in (0 ∷ 0 ∷ 0 ∷ 0 ∷ 0 ∷ 0 ∷ 0 ∷ 0 ∷ []) ≡ None
unfolding value_in message_at value_within tree_at cost_at has_capability
no_word = refl

-- A null root, and a capability.
a_null : value_in (0 ∷ 0 ∷ 0 ∷ 0 ∷ 1 ∷ 0 ∷ 0 ∷ 0 ∷ 0 ∷ 0 ∷ 0 ∷ 0 ∷ 0 ∷ 0 ∷ 0 ∷ 0 ∷ []) ≡ Some null
unfolding value_in message_at value_within tree_at cost_at trim has_capability
a_null = refl

a_capability : value_in (0 ∷ 0 ∷ 0 ∷ 0 ∷ 1 ∷ 0 ∷ 0 ∷ 0 ∷ 3 ∷ 0 ∷ 0 ∷ 0 ∷ 0 ∷ 0 ∷ 0 ∷ 0 ∷ []) ≡ None
unfolding value_in message_at value_within tree_at cost_at trim has_capability
a_capability = refl
