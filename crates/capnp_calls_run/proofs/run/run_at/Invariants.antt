use Rattle.std.proofs.Common.{◌≡◌, drop, take, length}
use Rattle.std.specs.Prelude.{map}
use Rattle.capnp_units.specs.Segments.{words_in}
use Rattle.capnp_calls.specs.Resolved.{calls_of}
use Rattle.capnp_calls.specs.Replies.{reply_view}
use Rattle.capnp_calls_run.proofs.InTurn.{SoFar}
use Rattle.capnp_calls_run.proofs.run.run_at.Given as goal

abbrev pub invariant-loop-call : goal.invariant-loop-call
invariant-loop-call g l = record {
  so_far : SoFar (words_in (g.A.ReaderArena.segments l.initial.arena)) (words_in (g.A.ReaderArena.segments l.arena)) l.object l.schema (calls_of (take l.call-index l.calls)) (calls_of (drop l.call-index l.calls)) (calls_of l.calls) (map reply_view l.replies.items);
  count : length l.replies.items ≡ l.call-index;
  books : g.A.BuilderArena.books l.arena ≡ g.A.BuilderArena.books l.initial.arena;
}
