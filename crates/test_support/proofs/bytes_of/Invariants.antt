use Rattle.std.proofs.Common.{◌≡◌, ℕ, take}
use Rattle.capnp_model.specs.Bytes.{bytes_of_words}
use Rattle.test_support.proofs.bytes_of.Given as goal

-- The bytes of the words before.
abbrev pub invariant-loop-word : goal.invariant-loop-word
invariant-loop-word l = l.bytes.items ≡ bytes_of_words (take l.word-index l.fn.words)
