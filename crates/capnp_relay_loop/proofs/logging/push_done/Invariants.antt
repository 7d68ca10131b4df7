use Rattle.std.proofs.Common.{◌≡◌, ◌++◌, codes, replicate}
use Rattle.std.specs.List.{flat_map}
use Rattle.capnp_model.specs.Answers.{reply_done}
use Rattle.capnp_model.specs.Runs.{reply_words}
use Rattle.capnp_relay_loop.proofs.logging.push_done.Given as goal

abbrev pub invariant-loop-call : goal.invariant-loop-call
invariant-loop-call l = l.line.items ≡ l.initial.line.items ++ flat_map (λ r. codes "; " ++ reply_words r) (replicate l._call reply_done)
