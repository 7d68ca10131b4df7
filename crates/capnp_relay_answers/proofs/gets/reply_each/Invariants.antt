-- The calls so far write nothing.
use Rattle.std.proofs.Common.{take}
use Rattle.std.specs.Prelude.{map}
use Rattle.capnp_calls.specs.Resolved.{calls_of}
use Rattle.capnp_calls.specs.Replies.{reply_view}
use Rattle.capnp_relay_answers.specs.Gets.{TellsAt}
use Rattle.capnp_relay_answers.proofs.gets.reply_each.Given as goal

abbrev pub invariant-loop-call : goal.invariant-loop-call
invariant-loop-call g l = TellsAt g.A.ReaderArena.segments l.root (calls_of (take l.call-index l.calls)) (map reply_view l.replies.items)
