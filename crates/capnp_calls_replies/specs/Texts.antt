-- Replies to `get`.
use Rattle.std.specs.Prelude.{◌≡◌, Ok, Err}
use Rattle.capnp_model.specs.Kinds.{Kind}
use Rattle.capnp_model.specs.Printing.{on_one_line}
use Rattle.capnp_units.specs.declared.kinds.ErrorKind.TheVariants.{UnreadablePointer}
use Rattle.capnp_values.specs.Shown.{Shown}
use Rattle.capnp_values_print.specs.Printed.{Text, shown_text}
use Rattle.capnp_values_print.specs.Answers.{IsShownText}
use Rattle.capnp_calls.specs.declared.reply.Reply.{Reply}
use Rattle.capnp_calls.specs.declared.reply.Reply.TheVariants as reply

-- The text of what is shown, or `UnreadablePointer` where a fault is met.
abbrev pub IsTextReply : Shown → Reply → Type 0
IsTextReply x (reply.Text bytes) = IsShownText on_one_line x bytes.items
IsTextReply x (reply.Refused kind) = (kind ≡ UnreadablePointer) × ((fault : Kind) × (shown_text 64 on_one_line x ≡ Err fault))
IsTextReply x reply.Done = ⊥

-- The text, or `UnreadablePointer` where there is a fault in its place.
abbrev pub RepliesText : Text → Reply → Type 0
RepliesText t (reply.Text bytes) = t ≡ Ok bytes.items
RepliesText t (reply.Refused kind) = (kind ≡ UnreadablePointer) × ((fault : Kind) × (t ≡ Err fault))
RepliesText t reply.Done = ⊥
