-- Kinds by which streams are refused.
use Rattle.capnp_model.specs.Kinds.{Kind, FailedToFillTheWholeBuffer, MessageEndsPrematurely}

-- The kind by which a stream of bytes is refused where a slice of them is by this one: a message that is cut.
abbrev pub streamed : Kind → Kind
streamed MessageEndsPrematurely = FailedToFillTheWholeBuffer
streamed kind = kind
