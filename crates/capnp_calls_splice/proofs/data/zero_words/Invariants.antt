-- The words so far are zeros.
use Rattle.std.proofs.Common.{◌≡◌, ◌++◌, map, take, drop}
use Rattle.capnp_wire_canonical.specs.Writes.{words_view}
use Rattle.capnp_calls_splice.proofs.data.zero_words.Given as goal

abbrev pub invariant-loop-word : goal.invariant-loop-word
invariant-loop-word l =
    words_view l.slice ≡ map (λ _. 0) (take l.word-index (words_view l.fn.slice)) ++ drop l.word-index (words_view l.fn.slice)
