-- What is written in the canonical form stands in a buffer, and has few words.
use Rattle.std.proofs.Common.{ℕ, ◌<◌, ◌^◌, List, [], ◌∷◌, length, arith}
use Rattle.std.specs.Prelude.{All}
use Rattle.std.proofs.lemmas.List.Elements.{All-push}
use Rattle.capnp_model.proofs.lemmas.Lists.{length-take-short}
use Rattle.capnp_wire_canonical.specs.Writes.{filled, words_view}
use Rattle.capnp_relay_loop.specs.MessageAnswers.{answer_view, StandsInBuffer}
use Rattle.capnp_relay_loop.specs.declared.answer.MessageAnswer.{MessageAnswer}
use Rattle.capnp_relay_loop.specs.declared.answer.MessageAnswer.TheVariants as answers
use Rattle.capnp_relay_loop.specs.declared.answer.Reason.TheVariants as reasons
use Rattle.capnp_relay_answers.specs.Answers.{StandsAlone}
use Rattle.capnp_relay_streams.specs.Messages.{HasSmallSegments}

pub in_buffer : (into : List (List ℕ)) (a : MessageAnswer) → StandsAlone into a → StandsInBuffer into a
in_buffer into (answers.Written count replies) stands = stands
in_buffer into (answers.Done count calls) stands = stands
in_buffer into (answers.Several segments replies) stands = absurd stands
in_buffer into (answers.Refused reason) stands = tt

one_small : (count : ℕ) (into : List (List ℕ)) → count < 2 ^ 29 → All (λ (words : List ℕ). length words < 2 ^ 29) (filled count into ∷ [])
one_small count into few =
    All-push (λ (words : List ℕ). length words < 2 ^ 29) [] (filled count into) (λ i d inside. absurd (omega (arith, inside))) (let size = length-take-short count (words_view into) in omega (arith, few, size))

pub small_alone : (into : List (List ℕ)) (a : MessageAnswer) → StandsAlone into a → HasSmallSegments (answer_view into a)
small_alone into (answers.Written count replies) stands = one_small count into stands.1
small_alone into (answers.Done count calls) stands = one_small count into stands.1
small_alone into (answers.Several segments replies) stands = absurd stands
small_alone into (answers.Refused reasons.Value) stands = tt
small_alone into (answers.Refused reasons.Root) stands = tt
small_alone into (answers.Refused reasons.Depth) stands = tt
