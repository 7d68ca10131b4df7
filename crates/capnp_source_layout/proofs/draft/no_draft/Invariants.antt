-- a place for each scope
use Rattle.std.proofs.Common.{◌-◌, ◌≤◌, length, vec_len}
use Rattle.capnp_source_layout.proofs.draft.no_draft.Given as goal

abbrev pub invariant-loop-s : goal.invariant-loop-s
invariant-loop-s l = vec_len l.discriminants ≤ length l.scopes

abbrev pub decreases-loop-s : goal.decreases-loop-s
decreases-loop-s l = length l.scopes - vec_len l.discriminants
