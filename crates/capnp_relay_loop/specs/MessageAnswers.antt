-- What is answered to a message, whose words stand in a buffer.
use Rattle.std.specs.Prelude.{◌≡◌, ℕ, ◌^◌, ◌<◌, ◌≤◌, List, [], ◌∷◌, length, map, replicate, ⊤, Vec}
use Rattle.std.specs.declared.alloc.Global.{Global}
use Rattle.capnp_model.specs.Answers.{Answer, reply_done, written, refused_value, refused_root, refused_depth}
use Rattle.capnp_model.specs.Messages.{Writer, spelled}
use Rattle.capnp_units.specs.Segments.{words_in}
use Rattle.capnp_stream.specs.Writing.{AreWritable}
use Rattle.capnp_calls.specs.Replies.{reply_view}
use Rattle.capnp_wire_canonical.specs.Writes.{filled}
use Rattle.capnp_relay_loop.specs.declared.answer.Reason.{Reason}
use Rattle.capnp_relay_loop.specs.declared.answer.Reason.TheVariants as reasons
use Rattle.capnp_relay_loop.specs.declared.answer.MessageAnswer.{MessageAnswer}
use Rattle.capnp_relay_loop.specs.declared.answer.MessageAnswer.TheVariants as answers

-- The refusal for a reason.
abbrev pub refusal_view : Reason → Answer
refusal_view reasons.Value = refused_value
refusal_view reasons.Root = refused_root
refusal_view reasons.Depth = refused_depth

-- The bytes of each of several segments.
abbrev pub each_segment_bytes : Vec (Vec ℕ Global) Global → List (List ℕ)
each_segment_bytes segments = map (λ bytes. bytes.items) segments.items

-- The answer as the model has it; where one segment is written it stands at the front of a buffer.
abbrev pub answer_view : List (List ℕ) → MessageAnswer → Answer
answer_view into (answers.Written count replies) = written (filled count into ∷ []) (map reply_view replies.items)
answer_view into (answers.Done count calls) = written (filled count into ∷ []) (replicate calls reply_done)
answer_view into (answers.Several segments replies) = written (words_in (each_segment_bytes segments)) (map reply_view replies.items)
answer_view into (answers.Refused reason) = refusal_view reason

-- What is written stands within the buffer, and has fewer words than 2^29; several segments can be written.
abbrev pub StandsInBuffer : List (List ℕ) → MessageAnswer → Type 0
StandsInBuffer into (answers.Written count replies) = (count ≤ length into) × (count < 2 ^ 29)
StandsInBuffer into (answers.Done count calls) = (count ≤ length into) × (count < 2 ^ 29)
StandsInBuffer into (answers.Several segments replies) = AreWritable (each_segment_bytes segments)
StandsInBuffer into (answers.Refused reason) = ⊤

-- The answer has no words in the buffer.
abbrev pub StandsApart : MessageAnswer → Type 0
StandsApart (answers.Written count replies) = ⊥
StandsApart (answers.Done count calls) = ⊥
StandsApart (answers.Several segments replies) = ⊤
StandsApart (answers.Refused reason) = ⊤

-- Bytes are the text of the message, where it has several segments.
abbrev pub HasText : Writer → MessageAnswer → List ℕ → Type 0
HasText write (answers.Written count replies) text = ⊤
HasText write (answers.Done count calls) text = ⊤
HasText write (answers.Several segments replies) text = text ≡ spelled write (words_in (each_segment_bytes segments))
HasText write (answers.Refused reason) text = ⊤
