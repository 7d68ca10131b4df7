use Rattle.std.proofs.Common.{◌≡◌, ◌++◌, codes, take}
use Rattle.std.specs.List.{flat_map}
use Rattle.capnp_model.specs.Runs.{reply_words}
use Rattle.capnp_calls.specs.Replies.{reply_view}
use Rattle.capnp_relay_loop.proofs.logging.push_replies.Given as goal

abbrev pub invariant-loop-reply : goal.invariant-loop-reply
invariant-loop-reply l = l.line.items ≡ l.initial.line.items ++ flat_map (λ r. codes "; " ++ reply_words (reply_view r)) (take l.reply-index l.replies)
